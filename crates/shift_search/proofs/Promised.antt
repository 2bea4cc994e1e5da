-- The rule's equations; on a file that passes, the search finds what the full lookup finds; it looks at 10 rows at most, reads no other, and no body.
use Prim.Native.Nat.{ℕ, ◌+◌, ◌≤◌, ◌<◌}
use native.Mathlib.Nat.{lt_of_le_of_lt}
use native.Mathlib.Omega.{arith}
use mathlib.Core.Path.{◌≡◌, refl, sym, ap, ◌∙◌}
use mathlib.Core.Bool.{Bool, true, false, cond}
use mathlib.Core.List.{List, [], ◌∷◌}
use lib.ListN.{length, get_or, take}
use lib.Seq.{get_or-take}
use lib.Dec.{eqb, lit<, lit≤}
use borrow.Author.Tests.{eqb-true, ne_eqb}
use Rattle.block.specs.Bytes.{word}
use Rattle.shift_format.specs.declared.row.Row.{Row}
use Rattle.status.specs.declared.checked.Answer.{Answer}
use Rattle.shift_format.specs.Format.{edition_of, count_of, first_edition, newest, row_size, row_size_of, row_start, row_at}
use Rattle.status.specs.declared.checked.Refusal.{Refusal}
use Rattle.status.specs.Answers.{answer, refusal_answer}
use Rattle.shift_check.specs.Check.{head_number}
use Rattle.status.proofs.Numbers.{refusal-some}
use Rattle.shift_format.proofs.Rows.{row_broad}
use Rattle.shift_check.proofs.Sound.{headed}
use Rattle.shift_check.proofs.Passed.{passes}
use Rattle.shift_lookup.proofs.Finding.{halving-finds}
use Rattle.shift_check.proofs.Alike.{Agree, AgreeTable, word_same, row_same}
use Rattle.shift_lookup.specs.Halving.{Walk, ends, halving, jobs_of}
use Rattle.shift_search.specs.Searching.{head_answer, searching}
use Rattle.shift_search.specs.Promised.{Halves, SameJobs, RowsDecide, SameAsLookup, TenLooks, SameTable, BodiesUnread}
use Rattle.shift_lookup.proofs.Halves.{halving-none, halving-hit, halving-up, halving-down, looks, row-most, jobs_same, Same, visited_same}

-- the header passes: all rows are halved
pub goes : (f : List ℕ) (job : ℕ) → (head_answer f).number ≡ 0 → searching f job ≡ halving (jobs_of (row_size_of f) f) job 0 (count_of f)
unfolding searching
goes f job z = simp z

-- it is refused: no row is looked at
pub stops : (f : List ℕ) (job : ℕ) (x : Refusal) → head_answer f ≡ refusal_answer x → searching f job ≡ ends (refusal_answer x)
unfolding searching
stops f job x q =
    let some : (head_answer f).number ≡ 0 → ⊥ = λ z. refusal-some x (sym (ap (λ (y : Answer). y.number) q) ∙ z) in
    simp (ne_eqb _ _ some) (ap ends q)

pub halves : Halves
halves jobs job s c = record {
  none = λ z. rw z (halving-none jobs job s);
  stops = λ some q. halving-hit jobs job s c some q;
  keeps-after = λ some l. halving-up jobs job s c some l;
  keeps-before = λ some l. halving-down jobs job s c some l;
}

listed : (f g : List ℕ) (is : List ℕ) → SameJobs f g is → Same (jobs_of (row_size_of f) f) (jobs_of (row_size_of g) g) is
listed f g [] h = tt
listed f g (i ∷ is) h = (h.0, listed f g is h.1)

pub rows_decide : RowsDecide
unfolding searching
rows_decide f g job a n = head-case (eqb (head_answer f).number 0) refl
  where
    tests : eqb (head_answer g).number 0 ≡ eqb (head_answer f).number 0
    tests = ap (λ (x : Answer). eqb x.number 0) (sym a)

    jobs : List ℕ → ℕ → ℕ
    jobs x = jobs_of (row_size_of x) x

    head-case : (b : Bool) → eqb (head_answer f).number 0 ≡ b → SameJobs f g (cond b (halving (jobs f) job 0 (count_of f)) (ends (head_answer f))).rows
        → cond b (halving (jobs f) job 0 (count_of f)) (ends (head_answer f))
        ≡ cond (eqb (head_answer g).number 0) (halving (jobs g) job 0 (count_of g)) (ends (head_answer g))
    head-case true e h =
        simp (tests ∙ e) (visited_same (jobs f) (jobs g) job (count_of f) 0 (count_of f) (omega arith) (listed f g (halving (jobs f) job 0 (count_of f)).rows h)
        ∙ ap (halving (jobs g) job 0) n)
    head-case false e h = simp (tests ∙ e) (ap ends a)

pub same_as_lookup : SameAsLookup
same_as_lookup f job z = ap (λ (x : Walk). x.says) (goes f job (passes first_edition newest f z).zero) ∙ halving-finds f job z

pub ten_looks : TenLooks
unfolding searching
ten_looks f job = head-case (eqb (head_answer f).number 0) refl
  where
    head-case : (b : Bool) → eqb (head_answer f).number 0 ≡ b → length (cond b (halving (jobs_of (row_size_of f) f) job 0 (count_of f))
        (ends (head_answer f))).rows ≤ 10
    head-case true e = looks (jobs_of (row_size_of f) f) job 10 0 (count_of f) (lt_of_le_of_lt (headed first_edition newest f (eqb-true _ _ e)).few (lit< tt))
    head-case false e = lit≤ tt

-- the row of an answer is one of the file's
pub says-low : (f : List ℕ) (job : ℕ) → (searching f job).says.row ≤ 512
unfolding searching
says-low f job = head-case (eqb (head_answer f).number 0) refl
  where
    head-case : (b : Bool) → eqb (head_answer f).number 0 ≡ b → (cond b (halving (jobs_of (row_size_of f) f) job 0 (count_of f))
        (ends (head_answer f))).says.row ≤ 512
    head-case true e =
        let few = (headed first_edition newest f (eqb-true _ _ e)).few in
        omega (arith, few, row-most (jobs_of (row_size_of f) f) job (count_of f) 0 (count_of f) (omega arith))
    head-case false e = lit≤ tt

-- equal fronts are equal bytes
front_agree : (f g : List ℕ) (n : ℕ) → take n f ≡ take n g → Agree f g 0 n
front_agree f g n q k a b =
    let l : k < n = omega arith in
    sym (get_or-take n f k 0 l) ∙ ap (λ (x : List ℕ). get_or x k 0) q ∙ get_or-take n g k 0 l

module _ (f g : List ℕ) (job : ℕ) (h : SameTable f g) where
  header : Agree f g 0 8
  header = front_agree f g 8 h.header

  -- the header's three numbers
  number_same : (n at : ℕ) → at + n ≤ 8 → word n f at ≡ word n g at
  number_same n at l = word_same f g n at (λ k a b. header k (omega arith) (omega arith))

  heads : head_answer f ≡ head_answer g
  unfolding head_number
  heads = ap (λ (m : ℕ). answer m 0) (simp (h.long, number_same 2 0 (lit≤ tt), number_same 2 2 (lit≤ tt), number_same 4 4 (lit≤ tt)))

  walks : (head_answer f).number ≡ 0 → halving (jobs_of (row_size_of f) f) job 0 (count_of f) ≡ halving (jobs_of (row_size_of g) g) job 0 (count_of g)
  walks z =
      let w = row_size_of f in
      let n = count_of f in
      let t : AgreeTable f g h.long w n = λ k a b. front_agree f g (row_start w n) (h.table z) k (omega arith) (omega arith) in
      let v : w ≡ row_size_of g = ap row_size (number_same 2 0 (lit≤ tt)) in
      jobs_same (jobs_of w f) (jobs_of (row_size_of g) g) job n 0 n (omega arith)
      (λ i a b. ap (λ (r : Row). r.job) (row_same f g h.long w n (row_broad (edition_of f)) t i (omega arith) ∙ ap (λ (x : ℕ). row_at x g i) v))
      ∙ ap (halving (jobs_of (row_size_of g) g) job 0) (number_same 2 2 (lit≤ tt))

pub bodies_unread : BodiesUnread
unfolding searching
bodies_unread f g job h = head-case (eqb (head_answer f).number 0) refl
  where
    tests : eqb (head_answer g).number 0 ≡ eqb (head_answer f).number 0
    tests = ap (λ (x : Answer). eqb x.number 0) (sym (heads f g job h))

    head-case : (b : Bool) → eqb (head_answer f).number 0 ≡ b → searching f job ≡ searching g job
    head-case true e = simp (e, tests ∙ e) (walks f g job h (eqb-true _ _ e))
    head-case false e = simp (e, tests ∙ e) (ap ends (heads f g job h))
