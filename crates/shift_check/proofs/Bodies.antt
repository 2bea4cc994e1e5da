-- On a file that passes, the bodies lie one after the other without overlap, and the last ends where the file ends.
use Prim.Native.Nat.{ℕ, zero, suc, ◌+◌, ◌-◌, ◌≤◌, ◌<◌}
use native.Mathlib.Nat.{le_of_suc-le-suc, eq-or-lt_of_le, not-suc-le-zero}
use native.Mathlib.Omega.{arith}
use mathlib.Core.Path.{◌≡◌, refl, sym, ap, ◌∙◌}
use mathlib.Core.List.{List, ◌++◌}
use mathlib.Core.Logic.{⊎_elim}
use lib.ListN.{length, take, drop, take-append-drop, drop_of_length-le}
use lib.Seq.{drop-drop}
use lib.Dec.{eqb-suc-zero}
use Rattle.shift_format.specs.Format.{count_of, first_edition, newest, row_size_of, row_start, row_at, body_end}
use Rattle.shift_check.specs.Check.{body_start}
use Rattle.shift_check.specs.Laid.{body_at, bodies, BodiesLaid}
use Rattle.shift_check.proofs.Passed.{Walked, passes}

module _ (w : ℕ) (f : List ℕ) (n : ℕ) where
  -- the next body has to start where this one ends
  start-next : (i : ℕ) → body_start w f n (suc i) ≡ body_end (row_at w f i)
  unfolding body_start
  start-next i = let s : suc i - 1 ≡ i = omega arith in simp (eqb-suc-zero, s)

  start_first : body_start w f n 0 ≡ row_start w n
  unfolding body_start
  start_first = refl

  start-low : (i : ℕ) → (row_at w f i).ad_at ≤ body_end (row_at w f i)
  unfolding body_end
  start-low i = omega arith

  module _ (h : Walked w f n) where
    -- a later body starts where this one ends, or after
    pub apart : (i j : ℕ) → i < j → j < n → body_end (row_at w f i) ≤ (row_at w f j).ad_at
    apart i zero l m = absurd (not-suc-le-zero l)
    apart i (suc j) l m =
        let s : (row_at w f (suc j)).ad_at ≡ body_end (row_at w f j) = (h.rows (suc j) m).place.starts ∙ start-next j in
        ⊎_elim
        (λ q. let t : body_end (row_at w f i) ≡ body_end (row_at w f j) = ap (λ (k : ℕ). body_end (row_at w f k)) q in omega arith)
        (λ b. omega (arith, apart i j b (omega arith), start-low j))
        (eq-or-lt_of_le (le_of_suc-le-suc l))

    -- no body starts before the table's end
    pub after_table : (i : ℕ) → i ≤ n → row_start w n ≤ body_start w f n i
    after_table zero l = omega (arith, start_first)
    after_table (suc i) l = omega (arith, start-next i, after_table i (omega arith), (h.rows i l).place.starts, start-low i)

    -- what stands from body i's start on is that body and the later ones
    tiles : (k i : ℕ) → i + k ≡ n → drop (body_start w f n i) f ≡ bodies w f i k
    tiles zero i q =
        let s : i ≡ n = omega arith in
        let e : body_start w f n i ≡ length f = rw s h.ends in
        drop_of_length-le f {i = body_start w f n i} (omega arith)
    tiles (suc k) i q =
        let a = (row_at w f i).ad_at in
        let e = body_end (row_at w f i) in
        let s : a ≡ body_start w f n i = (h.rows i (omega arith)).place.starts in
        let t : a + (e - a) ≡ body_start w f n (suc i) = rw (start-next i) (omega (arith, start-low i)) in
        ap (λ (p : ℕ). drop p f) (sym s)
        ∙ sym (take-append-drop (e - a) (drop a f))
        ∙ ap (λ (l : List ℕ). body_at w f i ++ l) (drop-drop (e - a) a f ∙ ap (λ (p : ℕ). drop p f) t ∙ tiles k (suc i) (omega arith))

pub laid : BodiesLaid
laid f z =
    let w = row_size_of f in
    let n = count_of f in
    let h = (passes first_edition newest f z).walk in
    record {
      first = λ l. (h.rows 0 l).place.starts ∙ start_first w f n;
      next = λ i l. (h.rows (suc i) l).place.starts ∙ start-next w f n i;
      apart = apart w f n h;
      last = λ i q. sym (start-next w f n i) ∙ ap (body_start w f n) q ∙ h.ends;
      whole = sym (take-append-drop (row_start w n) f)
          ∙ ap (λ (l : List ℕ). take (row_start w n) f ++ l) (ap (λ (p : ℕ). drop p f) (sym (start_first w f n)) ∙ tiles w f n h n 0 (omega arith));
    }
