-- Lists of what passes a test, one number more.
use Prim.Native.Nat.{ℕ, zero, suc, ◌+◌, ◌-◌, ◌≤◌, ◌<◌}
use native.Mathlib.Omega.{arith}
use native.Mathlib.Numerals.{add-one}
use mathlib.Core.Path.{◌≡◌, refl}
use mathlib.Core.Bool.{Bool, true, false, cond}
use mathlib.Core.List.{List, [], ◌∷◌}
use lib.ListN.{length}
use Rattle.shift_compare.specs.Kept.{kept}

shorter : (l : List ℕ) (x k : ℕ) (b : Bool) → length l ≤ k → length (cond b (x ∷ l) l) ≤ suc k
shorter l x k true h = omega arith
shorter l x k false h = omega arith

module _ (p : ℕ → Bool) (what : ℕ → ℕ) where
  -- one number more
  pub kept_step : (i n : ℕ) → i < n → kept p what i (n - i) ≡ cond (p i) (what i ∷ kept p what (i + 1) (n - (i + 1))) (kept p what (i + 1) (n - (i + 1)))
  unfolding kept
  kept_step i n h =
      let q : n - i ≡ suc (n - (i + 1)) = omega arith in
      rw (q, add-one)

  -- none is left
  pub kept-end : (i n : ℕ) → n ≤ i → kept p what i (n - i) ≡ []
  unfolding kept
  kept-end i n h = let q : n - i ≡ 0 = omega arith in rw q

  pub kept-length : (i k : ℕ) → length (kept p what i k) ≤ k
  unfolding kept
  kept-length i zero = omega arith
  kept-length i (suc k) = shorter (kept p what (suc i) k) (what i) k (p i) (kept-length (suc i) k)

  -- no number passes
  pub kept-none : (i k : ℕ) → ((j : ℕ) → i ≤ j → j < i + k → p j ≡ false) → kept p what i k ≡ []
  unfolding kept
  kept-none i zero h = refl
  kept-none i (suc k) h = simp (h i (omega arith) (omega arith)) (kept-none (suc i) k (λ j l m. h j (omega arith) (omega arith)))
