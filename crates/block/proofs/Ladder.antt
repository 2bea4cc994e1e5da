-- A ladder of numbers gives the first number whose test holds: 0 says that a rung was not taken, and what holds of every rung's number holds of the ladder's.
use Prim.Native.Nat.{ℕ, ◌<◌}
use native.Mathlib.Omega.{arith}
use mathlib.Core.Path.{◌≡◌, refl}
use mathlib.Core.Bool.{Bool, true, false, cond}

pub not_taken : (b : Bool) (k rest : ℕ) → 0 < k → cond b k rest ≡ 0 → (b ≡ false) × (rest ≡ 0)
not_taken true k rest h e = absurd (omega arith)
not_taken false k rest h e = (refl, e)

pub rung : (P : ℕ → Type 0) (b : Bool) (k rest : ℕ) → P k → P rest → P (cond b k rest)
rung P true k rest h r = h
rung P false k rest h r = r
