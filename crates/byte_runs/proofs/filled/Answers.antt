-- `byte_runs::filled` meets its contract: a full block by whole words, a short one byte by byte, or fifteen bytes at once.
use Prim.Native.Nat.{ℕ, ◌-◌}
use mathlib.Core.Path.{◌≡◌, ap, ◌∙◌}
use mathlib.Core.List.{◌++◌}
use mathlib.Core.Logic.{inl, inr}
use native.Mathlib.Omega.{arith}
use lib.ListN.{length, replicate}
use Rattle.byte_runs.proofs.filled.Goals as goal

pub whole-requires : goal.whole-requires
whole-requires c = inl c.if-front-eq16.true

pub returns-then-front-eq16 : goal.returns-then-front-eq16
returns-then-front-eq16 c = c.whole.ensures

pub whole-requires-then-front-eq8 : goal.whole-requires-then-front-eq8
whole-requires-then-front-eq8 c = inr c.if-front-eq8.true

pub returns-then-front-eq8 : goal.returns-then-front-eq8
returns-then-front-eq8 c = c.whole-then-front-eq8.ensures

pub fifteen-requires : goal.fifteen-requires
fifteen-requires c = c.if-front-eq15.true

pub returns-then-front-eq15 : goal.returns-then-front-eq15
returns-then-front-eq15 c =
    let b = c.args.front.now in
    let e : 1 ≡ 16 - length b = omega arith in
    c.fifteen.ensures ∙ ap (λ (k : ℕ). b ++ replicate k 0) e

pub returns : goal.returns
returns c =
    c.block_of.ensures ∙ c.filled_bytes.ensures
