-- What the library's `find` over a range of rows gives, as the searches of the definitions say it.
use Prim.Native.Nat.{ℕ, ◌-◌, ◌≤◌, ◌<◌}
use native.Mathlib.Omega.{arith}
use mathlib.Core.Path.{◌≡◌, sym}
use mathlib.Core.Bool.{Bool, true, false}
use Rattle.std.proofs.Common.{Option, Some, None}
use Rattle.std.specs.Option.{MatchOption, option_map_or}
use Rattle.shift_check.specs.Search.{first_of}
use Rattle.shift_check.proofs.Searches.{first-at, first-none}

-- r is the first number below n that passes, or none: what it gives is what the search gives
pub first_found : {A : Type 0} (hit : ℕ → Bool) (what : ℕ → A) (rest : A) (n : ℕ) (r : Option ℕ)
    → MatchOption r ((k : ℕ) → 0 ≤ k → k < n → hit k ≡ false) (λ i. (0 ≤ i) × (i < n) × (hit i ≡ true) × ((k : ℕ) → 0 ≤ k → k < i → hit k ≡ false))
    → option_map_or what r rest ≡ first_of hit what rest 0 (n - 0)
first_found hit what rest n None h = sym (first-none hit what rest n (λ k l. h k (omega arith) l))
first_found hit what rest n (Some i) h = sym (first-at hit what rest n i h.1 h.2 (λ k l. h.3 k (omega arith) l))
