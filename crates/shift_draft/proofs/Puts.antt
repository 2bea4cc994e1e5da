-- Pieces that are put into a list: it keeps its length, each piece stands where it was put, and every other byte is unchanged.
use Prim.Native.Nat.{ℕ, zero, suc, ◌+◌, ◌-◌, ◌≤◌, ◌<◌}
use native.Mathlib.Nat.{not-suc-le-zero, le_of_suc-le-suc, eq-or-lt_of_le}
use native.Mathlib.Decide.{dec_lt}
use native.Mathlib.Omega.{arith}
use mathlib.Core.Path.{◌≡◌, refl, sym, ap, ◌∙◌}
use mathlib.Core.List.{List, ◌++◌}
use mathlib.Core.Logic.{◌⊎◌, inl, inr, ⊎_elim}
use lib.ListN.{length, get_or, take, drop, length-append, length-take, length-drop, get_or-append}
use lib.Seq.{length-take-le, get_or-take, get_or-drop, get_or-append-add, ext_get_or}
use Rattle.shift_format.specs.Part.{stretch}
use Rattle.shift_format.proofs.Rows.{stretch-length}
use Rattle.shift_draft.specs.Put.{put, put_all}

-- k is none of the n places from `at` on
abbrev pub Beside : ℕ → ℕ → ℕ → Type 0
Beside at n k = (k < at) ⊎ (at + n ≤ k)

-- ---- one piece

module _ (l : List ℕ) (at : ℕ) (x : List ℕ) (h : at + length x ≤ length l) where
  front : length (take at l) ≡ at
  front = length-take-le at l (omega arith)

  pub put-length : length (put l at x) ≡ length l
  unfolding put
  put-length = simp (length-append, length-take, length-drop) (omega arith)

  pub put_in : (k : ℕ) → k < length x → get_or (put l at x) (at + k) 0 ≡ get_or x k 0
  unfolding put
  put_in k b =
      let rest = x ++ drop (at + length x) l in
      ap (λ (j : ℕ). get_or (take at l ++ rest) (j + k) 0) (sym front) ∙ get_or-append-add (take at l) rest k 0 ∙ get_or-append x (drop (at + length x) l) 0 k b

  put-before : (k : ℕ) → k < at → get_or (put l at x) k 0 ≡ get_or l k 0
  unfolding put
  put-before k b = get_or-append (take at l) (x ++ drop (at + length x) l) 0 k (omega (arith, front)) ∙ get_or-take at l k 0 b

  put-behind : (k : ℕ) → at + length x ≤ k → get_or (put l at x) k 0 ≡ get_or l k 0
  unfolding put
  put-behind k b =
      let rest = x ++ drop (at + length x) l in
      let m = k - (at + length x) in
      let q : k ≡ length (take at l) + (length x + m) = omega (arith, front) in
      let r : at + length x + m ≡ k = omega arith in
      ap (λ (j : ℕ). get_or (take at l ++ rest) j 0) q
      ∙ get_or-append-add (take at l) rest (length x + m) 0
      ∙ get_or-append-add x (drop (at + length x) l) m 0
      ∙ get_or-drop (at + length x) l m 0
      ∙ ap (λ (j : ℕ). get_or l j 0) r

  pub put-beside : (k : ℕ) → Beside at (length x) k → get_or (put l at x) k 0 ≡ get_or l k 0
  put-beside k b = ⊎_elim (put-before k) (put-behind k) b

-- ---- many pieces

-- the first n pieces lie in the list, each after those before it
pub record Apart (start : ℕ → ℕ) (piece : ℕ → List ℕ) (n : ℕ) (l : List ℕ) : Type 0 where
  pub fits : (i : ℕ) → i < n → start i + length (piece i) ≤ length l
  pub after : (i j : ℕ) → i < j → j < n → start i + length (piece i) ≤ start j

-- place p is one of a piece's
pub record Inside (start : ℕ → ℕ) (piece : ℕ → List ℕ) (n p : ℕ) : Type 0 where
  pub at : ℕ
  pub below : at < n
  pub from : start at ≤ p
  pub to : p < start at + length (piece at)

module _ (start : ℕ → ℕ) (piece : ℕ → List ℕ) where
  abbrev pub Outside : ℕ → ℕ → Type 0
  Outside n p = (i : ℕ) → i < n → Beside (start i) (length (piece i)) p

  pub where-is : (n p : ℕ) → Inside start piece n p ⊎ Outside n p
  where-is zero p = inr (λ i l. absurd (not-suc-le-zero l))
  where-is (suc n) p =
      ⊎_elim
      (λ (h : Inside start piece n p). inl (record { at = h.at; below = omega (arith, h.below); from = h.from; to = h.to }))
      (λ (h : Outside n p). elim (dec_lt p (start n)) [
        | yes b ↦ inr (λ i l. ⊎_elim (λ q. inl (rw q b)) (h i) (eq-or-lt_of_le (le_of_suc-le-suc l)))
        | no b ↦ elim (dec_lt p (start n + length (piece n))) [
          | yes c ↦ inl (record { at = n; below = omega arith; from = omega arith; to = c })
          | no c ↦ inr (λ i l. ⊎_elim (λ q. inr (rw q (omega arith))) (h i) (eq-or-lt_of_le (le_of_suc-le-suc l)))
        ]
      ])
      (where-is n p)

  module _ (n : ℕ) (l : List ℕ) (a : Apart start piece n l) where
    pub all-length : (k : ℕ) → k ≤ n → length (put_all start piece k l) ≡ length l
    unfolding put_all
    all-length zero h = refl
    all-length (suc k) h =
        let e = all-length k (omega arith) in
        put-length (put_all start piece k l) (start k) (piece k) (omega (arith, a.fits k h)) ∙ e

    fits_in : (k : ℕ) → k < n → start k + length (piece k) ≤ length (put_all start piece k l)
    fits_in k h = omega (arith, all-length k (omega arith), a.fits k h)

    pub all-outside : (k : ℕ) → k ≤ n → (p : ℕ) → Outside k p → get_or (put_all start piece k l) p 0 ≡ get_or l p 0
    unfolding put_all
    all-outside zero h p o = refl
    all-outside (suc k) h p o =
        put-beside (put_all start piece k l) (start k) (piece k) (fits_in k h) p (o k (omega arith))
        ∙ all-outside k (omega arith) p (λ i b. o i (omega arith))

    pub all-inside : (k : ℕ) → k ≤ n → (i : ℕ) → i < k → (p : ℕ) → p < length (piece i) → get_or (put_all start piece k l) (start i + p) 0 ≡ get_or (piece i) p 0
    unfolding put_all
    all-inside zero h i b p c = absurd (not-suc-le-zero b)
    all-inside (suc k) h i b p c =
        ⊎_elim
        (λ q. rw q (put_in (put_all start piece k l) (start k) (piece k) (fits_in k h) p (rw (sym q) c)))
        (λ m.
        put-beside (put_all start piece k l) (start k) (piece k) (fits_in k h) (start i + p) (inl (omega (arith, a.after i k m h)))
        ∙ all-inside k (omega arith) i m p c)
        (eq-or-lt_of_le (le_of_suc-le-suc b))

    -- each piece is the stretch where it was put
    pub piece-stretch : (i : ℕ) → i < n → stretch (put_all start piece n l) (start i) (length (piece i)) ≡ piece i
    piece-stretch i b =
        let g = put_all start piece n l in
        let s = stretch-length g (start i) (length (piece i)) (omega (arith, all-length n (omega arith), a.fits i b)) in
        ext_get_or 0 (stretch g (start i) (length (piece i))) (piece i) s
        (λ p c.
        let d : p < length (piece i) = omega arith in
        get_or-take (length (piece i)) (drop (start i) g) p 0 d ∙ get_or-drop (start i) g p 0 ∙ all-inside n (omega arith) i b p d)

    -- pieces that stand there already change nothing
    pub own-pieces : ((i : ℕ) → i < n → piece i ≡ stretch l (start i) (length (piece i))) → put_all start piece n l ≡ l
    own-pieces own =
        ext_get_or 0 (put_all start piece n l) l (all-length n (omega arith))
        (λ p c. ⊎_elim
        (λ (x : Inside start piece n p).
        let i = x.at in
        let m = p - start i in
        let d : m < length (piece i) = omega (arith, x.from, x.to) in
        let q : start i + m ≡ p = omega (arith, x.from) in
        ap (λ (j : ℕ). get_or (put_all start piece n l) j 0) (sym q)
        ∙ all-inside n (omega arith) i x.below m d
        ∙ ap (λ (y : List ℕ). get_or y m 0) (own i x.below)
        ∙ get_or-take (length (piece i)) (drop (start i) l) m 0 d
        ∙ get_or-drop (start i) l m 0
        ∙ ap (λ (j : ℕ). get_or l j 0) q)
        (all-outside n (omega arith) p)
        (where-is n p))
