-- `block_step::pad::padded8` meets its contract: what lies above the bytes falls to the remainder, and 1 stands there.
use mathlib.Core.Path.{sym, subst}
use native.Mathlib.Nat.{mod-lt}
use native.Mathlib.Omega.{arith}
use Prim.Native.Nat.{ℕ, ◌+◌, ◌*◌, ◌%◌, ◌^◌, ◌<◌}
use Rattle.block_step.proofs.Words.{pad-low, place_is, place-low}
use Rattle.block_step.proofs.pad.padded8.Goals as goal

-- the place of the byte after k others
place : ℕ → ℕ
place k = (1 * 2 ^ (8 * k)) % 2 ^ 64

place-some : (k : ℕ) → k < 8 → 0 < place k
unfolding place
place-some k h =
    subst (λ (q : ℕ). 0 < q) (sym (place_is k h)) (omega (arith, native.Mathlib.Nat.pow-le-pow_right {n = 256} (omega arith) {i = 0} {j = k} (omega arith)))

sum_fits : (k x : ℕ) → k < 8 → x % place k + place k < 2 ^ 64
unfolding place
sum_fits k x h = omega (arith, place_is k h, place-low k h, mod-lt x (place-some k h))

pub returns : goal.returns
returns c = pad-low 8 c.args.len c.args.number _ c.requires (place_is c.args.len c.requires)
