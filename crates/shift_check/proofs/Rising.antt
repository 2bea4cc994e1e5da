-- On a file that passes, job numbers rise from row to row: so one row at most has a job.
use Prim.Native.Nat.{ℕ, zero, suc, ◌-◌, ◌<◌}
use native.Mathlib.Nat.{le_of_suc-le-suc, eq-or-lt_of_le, not-suc-le-zero}
use native.Mathlib.Decide.{dec_lt}
use native.Mathlib.Omega.{arith}
use mathlib.Core.Path.{◌≡◌, ap}
use mathlib.Core.List.{List}
use mathlib.Core.Logic.{⊎_elim}
use lib.Dec.{eqb-suc-zero}
use borrow.Author.Tests.{leb-false}
use Rattle.shift_format.specs.Format.{row_at}
use Rattle.shift_check.specs.Check.{not_above}
use Rattle.shift_check.proofs.Passed.{Walked}

module _ (w : ℕ) (f : List ℕ) (n : ℕ) (h : Walked w f n) where
  above : (j : ℕ) → suc j < n → (row_at w f j).job < (row_at w f (suc j)).job
  unfolding not_above
  above j l =
      let s : suc j - 1 ≡ j = omega arith in
      leb-false _ _ (simp (eqb-suc-zero, s) at (h.rows (suc j) l).order)

  -- job numbers rise
  pub rising : (i j : ℕ) → i < j → j < n → (row_at w f i).job < (row_at w f j).job
  rising i zero l m = absurd (not-suc-le-zero l)
  rising i (suc j) l m =
      ⊎_elim
      (λ q. let t : (row_at w f i).job ≡ (row_at w f j).job = ap (λ (k : ℕ). (row_at w f k).job) q in omega (arith, above j m))
      (λ b. omega (arith, rising i j b (omega arith), above j m))
      (eq-or-lt_of_le (le_of_suc-le-suc l))

  pub only : (i j : ℕ) → i < n → j < n → (row_at w f i).job ≡ (row_at w f j).job → i ≡ j
  only i j li lj q =
      elim (dec_lt i j) [
        | yes b ↦ absurd (omega (arith, rising i j b lj))
        | no b ↦ elim (dec_lt j i) [
          | yes d ↦ absurd (omega (arith, rising j i d li))
          | no d ↦ omega arith
        ]
      ]
