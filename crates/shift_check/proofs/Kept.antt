-- A file of the length of one that passes, and with its table: its rows are the same, so that only 30 is left to refuse it.
use Prim.Native.Nat.{ℕ, ◌+◌, ◌-◌, ◌≤◌, ◌<◌}
use native.Mathlib.Decide.{dec_lt}
use native.Mathlib.Omega.{arith}
use mathlib.Core.Path.{◌≡◌, refl, sym, ap, ◌∙◌}
use mathlib.Core.Bool.{Bool, true, false, not, cond}
use mathlib.Core.List.{List}
use mathlib.Core.Logic.{◌⊎◌, inl, inr}
use lib.ListN.{length, get_or}
use lib.Dec.{eqb}
use borrow.Author.Tests.{eq-eqb, le-ltb}
use Rattle.status.specs.declared.checked.Answer.{Answer}
use Rattle.shift_check.specs.Search.{first_of}
use Rattle.shift_format.specs.Format.{edition_of, count_of, first_edition, newest, row_size, row_size_of, row_start, row_at, body_end}
use Rattle.status.specs.Answers.{answer}
use Rattle.shift_check.specs.Check.{outside, bad_data, row_number, end_answer, rows_from, head_number, check_between, check_as, check_file}
use Rattle.shift_check.proofs.Searches.{first_same, first-only}
use Rattle.shift_format.proofs.Rows.{row_broad, row-late}
use Rattle.shift_check.proofs.Passed.{Walked, Passes, passes, own_edition}
use Rattle.shift_check.proofs.Bodies.{apart, after_table}
use Rattle.shift_check.proofs.Alike.{Agree, AgreeTable, word_same, start-same, row-number-last, count_same, head-same}

-- what is left to refuse g, of n rows that are f's: the first whose associated data has another job number or no unit
abbrev pub bad_from : ℕ → List ℕ → List ℕ → ℕ → Answer
bad_from w f g n = first_of (λ j. bad_data g (row_at w f j)) (answer 30) (answer 0 0) 0 (n - 0)

-- job number and unit are unchanged
pub data_held : (f g : List ℕ) (w j : ℕ) → bad_data f (row_at w f j) ≡ false → Agree g f (row_at w f j).ad_at 5 → bad_data g (row_at w f j) ≡ false
unfolding bad_data
data_held f g w j h near =
    let r = row_at w f j in
    simp (word_same g f 4 r.ad_at (λ k a b. near k a (omega arith)), near (r.ad_at + 4) (omega arith) (omega arith)) h

-- an edition that is taken
pub taken : (low high x : ℕ) → low ≤ x → x ≤ high → outside low high x ≡ false
taken low high x a b = simp (le-ltb x low a, le-ltb high x b)

module _ (f g : List ℕ) (long : length g ≡ length f) where
  module _ (w n : ℕ) (broad : 32 ≤ w) (h : Walked w f n) (table : AgreeTable g f long w n) where
    number_is : (j : ℕ) → j < n → row_number w g n j ≡ cond (bad_data g (row_at w f j)) 30 0
    number_is j l = row-number-last g f long w n broad table j l (h.zeros j l)

    end_is : end_answer w g n ≡ answer 0 0
    unfolding end_answer
    end_is = simp (eq-eqb _ _ (start-same g f long w n broad table n (omega arith) ∙ h.ends ∙ sym long))

    rows-kept : rows_from w g n 0 ≡ bad_from w f g n
    unfolding rows_from
    rows-kept =
        first_same _ _ _ _ _ _ (n - 0) 0
        (λ j l. ap (λ (m : ℕ). not (eqb m 0)) (number_is j (omega arith)) ∙ some (bad_data g (row_at w f j)))
        (λ j l e. ap (λ (m : ℕ). answer m j) (thirty (bad_data g (row_at w f j)) (row_number w g n j) (number_is j (omega arith)) e))
        end_is
      where
        some : (b : Bool) → not (eqb (cond b 30 0) 0) ≡ b
        some true = refl
        some false = refl

        thirty : (b : Bool) (m : ℕ) → m ≡ cond b 30 0 → not (eqb m 0) ≡ true → m ≡ 30
        thirty true m q e = q
        thirty false m q e = absurd (let z : ◌≡◌ {A = ℕ} 0 1 = ap (λ (b : Bool). cond b 1 0) (sym (ap (λ (k : ℕ). not (eqb k 0)) q) ∙ e) in omega arith)

  -- of an edition that is taken and whose rows are as long
  pub check-kept : (a b low high : ℕ) → Passes low high f → outside a b (edition_of g) ≡ false → row_size_of g ≡ row_size_of f
      → AgreeTable g f long (row_size_of f) (count_of f)
      → check_between a b g ≡ bad_from (row_size_of f) f g (count_of f)
  unfolding check_between
  check-kept a b low high p o q table =
      let w = row_size_of f in
      let n = count_of f in
      let broad = row_broad (edition_of f) in
      let z : head_number a b g ≡ 0 = head-same g f long w n broad table a b low high (o ∙ sym (taken low high _ p.head.from p.head.to)) q ∙ p.zero in
      simp (z, count_same g f long w n broad table, q) (rows-kept w n broad p.walk table)

-- ---- a file that differs from one that passes inside the body of one row alone

module _ (f g : List ℕ) (long : length g ≡ length f) (low high : ℕ) (p : Passes low high f) (i : ℕ) (within : i < count_of f)
    (same : (k : ℕ) → (k < (row_at (row_size_of f) f i).ad_at) ⊎ (body_end (row_at (row_size_of f) f i) ≤ k) → get_or g k 0 ≡ get_or f k 0) where
  abbrev w : ℕ
  w = row_size_of f

  -- the body lies after the table
  behind : row_start w (count_of f) ≤ (row_at w f i).ad_at
  behind = omega (arith, after_table w f (count_of f) p.walk i (omega arith), (p.walk.rows i within).place.starts)

  pub body-table : AgreeTable g f long w (count_of f)
  body-table k a b = same k (inl (omega (arith, behind)))

  pub body-edition : edition_of g ≡ edition_of f
  body-edition = word_same g f 2 0 (λ k a b. same k (inl (omega (arith, behind, row-late w (count_of f)))))

  -- every other body is kept
  pub body-other : (j : ℕ) → j < count_of f → (j ≡ i → ⊥) → (k : ℕ) → (row_at w f j).ad_at ≤ k → k < body_end (row_at w f j) → get_or g k 0 ≡ get_or f k 0
  body-other j l ne k a b =
      elim (dec_lt j i) [
        | yes m ↦ same k (inl (omega (arith, apart w f (count_of f) p.walk j i m within)))
        | no m ↦ same k (inr (omega (arith, apart w f (count_of f) p.walk i j (omega (arith, ne)) l)))
      ]

  -- so the check passes, or refuses that row with 30
  pub body-check : check_between low high g ≡ cond (bad_data g (row_at w f i)) (answer 30 i) (answer 0 0)
  unfolding body_end
  body-check =
      check-kept f g long low high low high p (ap (outside low high) body-edition ∙ taken low high _ p.head.from p.head.to)
      (ap row_size body-edition) body-table
      ∙ first-only _ _ _ (count_of f) i within
      (λ j l ne.
      let s = p.walk.rows j l in
      data_held f g w j s.held (λ k a b. body-other j l ne k a (omega (arith, s.size.ad-low))))

-- ---- the editions that readers take

-- both editions are taken
same_head : (e : ℕ) (f : List ℕ) → outside first_edition newest (edition_of f) ≡ false → outside e e (edition_of f) ≡ false
    → head_number first_edition newest f ≡ head_number e e f
unfolding head_number
same_head e f a b = simp (a, b)

-- a file that passes at its own edition passes the readers' check, if readers take that
pub wider : (e : ℕ) (f : List ℕ) → first_edition ≤ e → e ≤ newest → (check_as e f).number ≡ 0 → (check_file f).number ≡ 0
unfolding check_between
wider e f low high z =
    let p = passes e e f z in
    let q = own_edition e f p in
    rw (same_head e f (taken first_edition newest (edition_of f) (omega arith) (omega arith)) (taken e e (edition_of f) (omega arith) (omega arith))) z
