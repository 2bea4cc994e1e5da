-- `speck::round` meets its contract: each word is the definition's, step by step.
use mathlib.Core.Path.{ap, ap₂, ◌∙◌}
use Prim.Native.Nat.{ℕ}
use Rattle.block.specs.Words.{add, xor}
use Rattle.speck.proofs.round.Goals as goal

pub returns : goal.returns
unfolding xor
returns c =
    let sum = c.plus.ensures ∙ ap (λ (y : ℕ). add 32 y c.args.x.x0) c.rotl.ensures in
    (ap (λ (s : ℕ). xor s c.args.r) sum, ap₂ (λ (y s : ℕ). xor y (xor s c.args.r)) c.rotl-2.ensures sum)
