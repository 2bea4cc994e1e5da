-- Comparing all bytes tells whether two strings are equal.
use mathlib.Core.Path.{◌≡◌, refl, sym, ap, ap₂}
use mathlib.Core.Bool.{Bool, true, ◌&&◌, false≢true}
use mathlib.Core.List.{List, [], ◌∷◌, ◌++◌}
use Prim.Native.Nat.{ℕ}
use native.Mathlib.Nat.{suc_inj, suc-ne-zero}
use lib.Dec.{eqb}
use lib.ListN.{length}
use borrow.Author.Tests.{eq-eqb, eqb-true}
use Rattle.block.specs.Bytes.{same_bytes}
use Rattle.block.proofs.Tests.{both_true}

pub same_refl : (s : List ℕ) → same_bytes s s ≡ true
same_refl [] = refl
same_refl (x ∷ s) = ap₂ (λ (a b : Bool). a && b) (eq-eqb x x refl) (same_refl s)

pub same_true : (s t : List ℕ) → same_bytes s t ≡ true → s ≡ t
same_true [] [] e = refl
same_true [] (y ∷ t) e = absurd (false≢true e)
same_true (x ∷ s) [] e = absurd (false≢true e)
same_true (x ∷ s) (y ∷ t) e =
    let b = both_true (eqb x y) (same_bytes s t) e in
    ap₂ (λ (a : ℕ) (l : List ℕ). a ∷ l) (eqb-true x y b.0) (same_true s t b.1)

-- what stands after both does not matter
pub same_behind : (s t u : List ℕ) → length s ≡ length t → same_bytes (s ++ u) (t ++ u) ≡ same_bytes s t
same_behind [] [] u e = same_refl u
same_behind [] (y ∷ t) u e = absurd (suc-ne-zero (length t) (sym e))
same_behind (x ∷ s) [] u e = absurd (suc-ne-zero (length s) e)
same_behind (x ∷ s) (y ∷ t) u e = ap (λ (b : Bool). eqb x y && b) (same_behind s t u (suc_inj e))
