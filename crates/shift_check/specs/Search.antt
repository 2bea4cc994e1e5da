-- Searches that the file's rules are written with.
use Rattle.std.specs.Prelude.{ℕ, zero, suc, Bool, false, ◌||◌, cond}

-- whether some number below n passes the test
unfoldable pub any_below : (ℕ → Bool) → ℕ → Bool
any_below p zero = false
any_below p (suc n) = p n || any_below p n

-- what the first of the numbers i, i + 1, .., i + k - 1 that passes gives, and `rest` if none does
unfoldable pub first_of : {A : Type 0} → (ℕ → Bool) → (ℕ → A) → A → ℕ → ℕ → A
first_of hit what rest i zero = rest
first_of hit what rest i (suc k) = cond (hit i) (what i) (first_of hit what rest (suc i) k)
