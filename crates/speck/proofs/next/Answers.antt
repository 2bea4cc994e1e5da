-- `speck::next` meets its contract: it is a round on (L(i), R(i)) under i, with the sum's terms the other way round.
use mathlib.Core.Path.{◌≡◌, refl, ap, ◌∙◌}
use Prim.Native.Nat.{ℕ, ◌%◌, ◌^◌}
use native.Mathlib.Nat.{add_comm}
use Rattle.block.specs.Words.{rotl, xor}
use Rattle.speck.specs.Speck.{upper, next_l}
use Rattle.speck.proofs.next.Goals as goal

turned : (r l i : ℕ) → upper l r i ≡ next_l r l i
turned r l i = ap (λ (n : ℕ). xor (n % 2 ^ 32) i) (add_comm _ r)

pub returns : goal.returns
returns c =
    let t = turned c.args.k.r c.args.k.l0 c.args.i in
    (c.round-p.ensures.1 ∙ ap (xor (rotl 32 3 c.args.k.r)) t, refl, refl, c.round-p.ensures.0 ∙ t)
