-- One outcome for each input: the summary tells the report, since no two reports have the same one.
use Prim.Native.Nat.{ℕ}
use native.Mathlib.Omega.{arith}
use Rattle.std.specs.Prelude.{Result, Ok, Err}
use mathlib.Core.Path.{◌≡◌, refl, sym, ap, ◌∙◌}
use mathlib.Core.Bool.{cond}
use mathlib.Core.Logic.{inl}
use lib.Dec.{eqb, lit<}
use borrow.Author.Tests.{ne_eqb}
use Rattle.block.specs.Outcome.{OneOutcome}
use Rattle.status.specs.declared.checked.Answer.{Answer}
use Rattle.status.specs.Answers.{answer}
use Rattle.status.proofs.Numbers.{refusal-some}
use Rattle.status.proofs.Outcomes.{refusal_of, refusal_back, unlike}
use Rattle.shift_report.specs.declared.answers.ReportSummary.{ReportSummary}
use Rattle.shift_report.specs.declared.answers.ReportError.{ReportError}
use Rattle.shift_report.specs.declared.answers.ReportError.TheVariants.{Refused, Ring, Room}
use Rattle.shift_report.specs.Reporting.{report_error_answer, said_of, Report}
use Rattle.shift_report.proofs.report.Kinds as report-kinds
use Rattle.shift_report.proofs.report.Reads as report-reads
use Rattle.shift_report.proofs.answers.ReportErrorFromRefusal.from.Kinds as from-kinds
use Rattle.shift_report.proofs.answers.ReportErrorFromRefusal.from.Reads as from-reads
use Rattle.shift_report.proofs.answers.ReportErrorRefuses.answer.Kinds as error-kinds
use Rattle.shift_report.proofs.answers.ReportErrorRefuses.answer.Reads as error-reads
use Rattle.shift_report.proofs.answers.said.Kinds as said-kinds
use Rattle.shift_report.proofs.answers.said.Reads as said-reads

-- the case that is said
abbrev error_of : Answer → ReportError
error_of x = cond (eqb x.number 2) Ring (cond (eqb x.number 6) Room (Refused (refusal_of x)))

error_back : (e : ReportError) → error_of (report_error_answer e) ≡ e
error_back (Refused x) = simp (unlike x 2 (inl (lit< tt)) refl, unlike x 6 (inl (lit< tt)) refl) (ap Refused (refusal_back x))
error_back Ring = refl
error_back Room = refl

error_some : (e : ReportError) → (report_error_answer e).number ≡ 0 → ⊥
error_some (Refused x) q = refusal-some x q
error_some Ring q = omega arith
error_some Room q = omega arith

abbrev reported_of : ReportSummary → Result ℕ ReportError
reported_of s = cond (eqb s.number 0) (Ok s.count) (Err (error_of (answer s.number s.row)))

reported_back : (x : Result ℕ ReportError) → reported_of (said_of x) ≡ x
reported_back (Ok n) = refl
reported_back (Err e) = simp (ne_eqb _ _ (error_some e)) (ap Err (error_back e))

pub report : OneOutcome report-kinds.ps report-kinds.r report-reads.Pre report-reads.Post
report κs a h x y =
    let e = x.ensures ∙ sym y.ensures in (
      sym (reported_back x.result) ∙ ap (λ (z : Report). reported_of z.said) e ∙ reported_back y.result,
      ap (λ (z : Report). (tt, (tt, (z.jobs, (z.numbers, tt))))) e,
    )

pub said : OneOutcome said-kinds.ps said-kinds.r said-reads.Pre said-reads.Post
said κs a h x y = (x.ensures ∙ sym y.ensures, refl)

pub error-from : OneOutcome from-kinds.ps from-kinds.r from-reads.Pre from-reads.Post
error-from κs a h x y = (x.ensures ∙ sym y.ensures, refl)

pub error-answer : OneOutcome error-kinds.ps error-kinds.r error-reads.Pre error-reads.Post
error-answer κs a h x y = (x.ensures ∙ sym y.ensures, refl)
