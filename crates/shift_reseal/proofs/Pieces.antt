-- Pieces of which some are empty: putting nothing is putting what stands there already.
use Prim.Native.Nat.{ℕ, zero, suc, ◌+◌, ◌≤◌, ◌<◌}
use native.Mathlib.Omega.{arith}
use mathlib.Core.Path.{◌≡◌, refl, sym, ap, ap₂, ◌∙◌}
use mathlib.Core.List.{List, [], ◌∷◌, ◌++◌}
use mathlib.Core.Logic.{◌⊎◌, inr, ⊎_elim}
use lib.ListN.{length, take, drop, set, take-append-drop}
use lib.Seq.{drop-drop, set_split}
use Rattle.shift_format.specs.Part.{stretch}
use Rattle.shift_format.proofs.Rows.{stretch-length}
use Rattle.shift_check.proofs.Alike.{stretch-same}
use Rattle.shift_draft.specs.Put.{put, put_all}
use Rattle.shift_draft.proofs.Puts.{Apart, all-length, all-outside}

-- one byte
pub put_one : (l : List ℕ) (at x : ℕ) → at < length l → set l at x ≡ put l at (x ∷ [])
unfolding put
put_one l at x h = set_split l at x h ∙ ap (λ (k : ℕ). take at l ++ (x ∷ drop k l)) (let q : suc at ≡ at + 1 = omega arith in q)

pub put_none : (l : List ℕ) (at : ℕ) → put l at [] ≡ l
unfolding put
put_none l at = ap (λ (k : ℕ). take at l ++ drop k l) (let q : at + 0 ≡ at = omega arith in q) ∙ take-append-drop at l

-- what stands there already
put_own : (l : List ℕ) (at m : ℕ) → at + m ≤ length l → put l at (stretch l at m) ≡ l
unfolding put
put_own l at m h =
    ap (λ (k : ℕ). take at l ++ (take m (drop at l) ++ drop (at + k) l)) (stretch-length l at m h)
    ∙ ap (λ (t : List ℕ). take at l ++ (take m (drop at l) ++ t)) (sym (drop-drop m at l))
    ∙ ap (λ (t : List ℕ). take at l ++ t) (take-append-drop m (drop at l))
    ∙ take-append-drop at l

-- the same pieces at the same places
pub put_places : (s t : ℕ → ℕ) (p : ℕ → List ℕ) (n : ℕ) (l : List ℕ) → ((i : ℕ) → i < n → s i ≡ t i) → put_all s p n l ≡ put_all t p n l
unfolding put_all
put_places s t p zero l h = refl
put_places s t p (suc n) l h = ap₂ (λ (x : List ℕ) (a : ℕ). put x a (p n)) (put_places s t p n l (λ i m. h i (omega arith))) (h n (omega arith))

-- no pieces at all
pub put_empty : (s : ℕ → ℕ) (p : ℕ → List ℕ) (n : ℕ) (l : List ℕ) → ((i : ℕ) → i < n → p i ≡ []) → put_all s p n l ≡ l
unfolding put_all
put_empty s p zero l h = refl
put_empty s p (suc n) l h = ap₂ (λ (x : List ℕ) (y : List ℕ). put x (s n) y) (put_empty s p n l (λ i m. h i (omega arith))) (h n (omega arith))
    ∙ put_none l (s n)

-- each piece of q is one of p, or empty where p has what stands there
module _ (s : ℕ → ℕ) (p q : ℕ → List ℕ) (n : ℕ) (l : List ℕ) (a : Apart s p n l)
    (alike : (i : ℕ) → i < n → (q i ≡ p i) ⊎ ((q i ≡ []) × (p i ≡ stretch l (s i) (length (p i))))) where
  -- the pieces before the k-th leave its place alone
  before : (k : ℕ) → k < n → stretch (put_all s p k l) (s k) (length (p k)) ≡ stretch l (s k) (length (p k))
  before k h =
      stretch-same (put_all s p k l) l (all-length s p n l a k (omega arith)) (s k) (length (p k))
      (λ x c d. all-outside s p n l a k (omega arith) x (λ i b. inr (omega (arith, a.after i k b h))))

  pub put-alike : (k : ℕ) → k ≤ n → put_all s q k l ≡ put_all s p k l
  unfolding put_all
  put-alike zero h = refl
  put-alike (suc k) h =
      let x = put_all s p k l in
      let m = length (p k) in
      ap (λ (y : List ℕ). put y (s k) (q k)) (put-alike k (omega arith))
      ∙ ⊎_elim
      (λ e. ap (put x (s k)) e)
      (λ e.
      ap (put x (s k)) e.0
      ∙ put_none x (s k)
      ∙ sym (put_own x (s k) m (omega (arith, all-length s p n l a k (omega arith), a.fits k h)))
      ∙ ap (put x (s k)) (before k h ∙ sym e.1))
      (alike k h)
