-- A shift file has at most 512 rows, so the row and the count of a report are at most 512 and fit C's numbers.
use Prim.Native.Nat.{ℕ, ◌≤◌}
use mathlib.Core.Path.{◌≡◌, refl, sym, ap, subst, ◌∙◌}
use mathlib.Core.Bool.{Bool, true, false, not, ◌||◌, cond}
use mathlib.Core.List.{List}
use lib.ListN.{length}
use lib.Dec.{ltb, eqb, lit≤}
use borrow.Author.Tests.{eqb-true, not-false}
use Rattle.shift_format.specs.Format.{count_of, first_edition, newest}
use Rattle.status.specs.Answers.{answer}
use Rattle.shift_check.specs.Check.{check_file}
use Rattle.shift_check.proofs.Passed.{passes}
use Rattle.shift_report.specs.declared.answers.ReportSummary.{ReportSummary}
use Rattle.shift_report.specs.Reporting.{job_of, tag_number, front, entries, Report, stopped, longest, reporting}
use Rattle.snoekeldraf.proofs.Rows.{check_row}

pub record Small (s : ReportSummary) : Type 0 where
  pub row : s.row ≤ 512
  pub count : s.count ≤ 512

said_small : (f ring jobs numbers : List ℕ) → Small (reporting f ring jobs numbers).said
unfolding reporting
said_small f ring jobs numbers =
    on (ltb longest (length f)) (not (eqb (check_file f).number 0)) (not (eqb (length ring) 256))
    (ltb (length jobs) (count_of f) || ltb (length numbers) (count_of f)) refl
  where
    on : (a b c d : Bool) → not (eqb (check_file f).number 0) ≡ b
        → Small (cond a (stopped (answer 20 0) jobs numbers) (cond b (stopped (check_file f) jobs numbers)
        (cond c (stopped (answer 2 0) jobs numbers) (cond d (stopped (answer 6 0) jobs numbers)
        (record { said = entries (count_of f); jobs = front (job_of f) (count_of f) jobs; numbers = front (tag_number f ring) (count_of f) numbers }))))).said
    on true b c d p = record { row = lit≤ tt; count = lit≤ tt }
    on false true c d p = record { row = check_row first_edition newest f; count = lit≤ tt }
    on false false true d p = record { row = lit≤ tt; count = lit≤ tt }
    on false false false true p = record { row = lit≤ tt; count = lit≤ tt }
    on false false false false p = record { row = lit≤ tt; count = (passes first_edition newest f (eqb-true _ _ (not-false _ p))).head.few }

-- what is said of a report
pub small : (s : ReportSummary) (r : Report) (f ring jobs numbers : List ℕ) → s ≡ r.said → r ≡ reporting f ring jobs numbers → Small s
small s r f ring jobs numbers p q = subst Small (sym (p ∙ ap (λ (w : Report). w.said) q)) (said_small f ring jobs numbers)
