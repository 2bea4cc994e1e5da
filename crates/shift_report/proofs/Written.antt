-- What the writer makes is genuine, so every tag of it is right, and every entry line has 0.
use Prim.Native.Nat.{ℕ, ◌<◌}
use mathlib.Core.Path.{◌≡◌, refl, sym, ap, ◌∙◌}
use mathlib.Core.Bool.{not}
use mathlib.Core.List.{List, ◌++◌}
use lib.ListN.{length, drop}
use lib.Dec.{eqb, lit≤}
use borrow.Author.Tests.{eq-eqb}
use Rattle.block.specs.Bytes.{AllBytes}
use Rattle.block.proofs.SameBytes.{same_refl}
use Rattle.status.specs.declared.checked.Answer.{Answer}
use Rattle.shift_format.specs.Format.{count_of, first_edition, row_size_of, row_of, tag_of}
use Rattle.status.specs.Answers.{answer}
use Rattle.shift_check.specs.Check.{row_number, end_answer, rows_from, head_number, check_between, check_as}
use Rattle.shift_check.proofs.Searches.{first-none}
use Rattle.shift_check.proofs.Passed.{both_zero, passes}
use Rattle.shift_check.proofs.Kept.{wider}
use Rattle.shift_draft.specs.Files.{draft_edition}
use Rattle.shift_draft.specs.Answers.{tag_right, seal_answer, file_sealing}
use Rattle.shift_draft.specs.Promised.{Valid, Genuine}
use Rattle.shift_draft.proofs.Answers.{sealable}
use Rattle.shift_draft.proofs.Back.{sealed_then_unsealed}
use Rattle.shift_report.specs.Reporting.{job_of, tag_number, front, entries}
use Rattle.shift_report.specs.Promised.{WriterReported}
use Rattle.shift_report.proofs.Fronts.{each_same, all_said}

-- number 0 carries row 0
zero_row : (e : ℕ) (f : List ℕ) → (check_as e f).number ≡ 0 → check_as e f ≡ answer 0 0
unfolding check_between rows_from end_answer
zero_row e f z =
    let w = (passes e e f z).walk in
    (both_zero (answer (head_number e e f) 0) (rows_from (row_size_of f) f (count_of f) 0) z).1
    ∙ first-none (λ j. not (eqb (row_number (row_size_of f) f (count_of f) j) 0)) (λ j. answer (row_number (row_size_of f) f (count_of f) j) j)
    (end_answer (row_size_of f) f (count_of f)) (count_of f) (λ j l. simp (w.zeros j l))
    ∙ simp (eq-eqb _ _ w.ends)

answered : (draft ring out₀ : List ℕ) → (file_sealing draft ring out₀).answer ≡ seal_answer draft (length ring) (length out₀)
unfolding file_sealing
answered draft ring out₀ = refl

genuine : (draft ring out₀ : List ℕ) → AllBytes draft → AllBytes ring → (file_sealing draft ring out₀).answer.number ≡ 0
    → Genuine (file_sealing draft ring out₀).out ring × (length ring ≡ 256)
genuine draft ring out₀ d r z =
    let s = sealable draft (length ring) (length out₀) (sym (ap (λ (x : Answer). x.number) (answered draft ring out₀)) ∙ z) in
    let v : Valid draft = record { checked = zero_row draft_edition draft s.passed; zeros = s.zeros } in (
      (sealed_then_unsealed draft ring out₀ draft (record { file-bytes = d; ring-bytes = r; ring_long = s.room.ring_long }) s.room.out-long refl v
          s.all-seal).1,
      s.room.ring_long,
    )

right_zero : (file ring : List ℕ) → Genuine file ring → (i : ℕ) → i < count_of file → tag_number file ring i ≡ 0
unfolding tag_number tag_right
right_zero file ring g i l = simp (g.right i l, same_refl (tag_of file (row_of file i)))

pub writer_reported : WriterReported
writer_reported draft ring out₀ jobs numbers d r z short a b =
    let file = (file_sealing draft ring out₀).out in
    let g = genuine draft ring out₀ d r z in
    let n = count_of file in
    all_said file ring jobs numbers short (wider first_edition file (lit≤ tt) (lit≤ tt) (ap (λ (x : Answer). x.number) g.0.checked)) g.1 a b
    ∙ ap (λ (l : List ℕ). record { said = entries n; jobs = front (job_of file) n jobs; numbers = l ++ drop n numbers })
    (each_same (tag_number file ring) (λ i. 0) n (right_zero file ring g.0))
