-- One outcome for each input: an answer's number and row are those of one case, so what a contract allows is one value.
use mathlib.Core.Path.{◌≡◌, refl, sym, ap, ◌∙◌}
use mathlib.Core.Bool.{cond}
use mathlib.Core.Logic.{inl, inr}
use lib.Dec.{eqb, lit<}
use mir.Syntax.{Dict}
use Rattle.std.specs.Prelude.{Result, Ok, Err}
use borrow.Author.Tests.{ne_eqb}
use contract.Lifetimes.{Lfts}
use borrow.Fn.Kinds.{Dens}
use Rattle.block.specs.Outcome.{Outcome, OneOutcome}
use Rattle.comet.specs.Answers as comet
use Rattle.status.proofs.Outcomes.{number_tells}
use Rattle.status.specs.declared.checked.Answer.{Answer}
use Rattle.status.specs.Answers.{answer}
use Rattle.status.proofs.Outcomes.{refusal_of, refusal_back, unlike, AnsweredOnce, answered_once}
use Rattle.shift_jobs.specs.declared.answers.Genuine.{Genuine as Place}
use Rattle.shift_jobs.specs.declared.answers.JobError.{JobError}
use Rattle.shift_jobs.specs.declared.answers.JobError.TheVariants as opened
use Rattle.shift_jobs.specs.Answers.{job_error_answer, opened_answer}
use Rattle.shift_jobs.specs.Genuine.{Genuine, genuine_answer}
use Rattle.shift_jobs.proofs.Refused.{job-error-some}
use Rattle.shift_jobs.specs.Opening.{JobOpened}
use Rattle.shift_jobs.proofs.open_job.Kinds as open-job-kinds
use Rattle.shift_jobs.proofs.open_job.Reads as open-job-reads
use Rattle.shift_jobs.proofs.found.open_found.Kinds as open-found-kinds
use Rattle.shift_jobs.proofs.found.open_found.Reads as open-found-reads
use Rattle.shift_jobs.proofs.verified.Kinds as verified-kinds
use Rattle.shift_jobs.proofs.verified.Reads as verified-reads
use Rattle.shift_jobs.proofs.testing.verify_found.Kinds as verify-found-kinds
use Rattle.shift_jobs.proofs.testing.verify_found.Reads as verify-found-reads
use Rattle.shift_jobs.proofs.lend.Lent.new.Kinds as lent-kinds
use Rattle.shift_jobs.proofs.lend.Lent.new.Reads as lent-reads
use Rattle.shift_jobs.proofs.lend.Lent.seal_as.Kinds as seal-as-kinds
use Rattle.shift_jobs.proofs.lend.Lent.seal_as.Reads as seal-as-reads
use Rattle.shift_jobs.proofs.lend.Lent.open.Kinds as open-row-kinds
use Rattle.shift_jobs.proofs.lend.Lent.open.Reads as open-row-reads
use Rattle.shift_jobs.proofs.lend.Lent.verify.Kinds as verify-row-kinds
use Rattle.shift_jobs.proofs.lend.Lent.verify.Reads as verify-row-reads
use Rattle.shift_jobs.proofs.answers.JobErrorFromLookupError.from.Kinds as from-kinds
use Rattle.shift_jobs.proofs.answers.JobErrorFromLookupError.from.Reads as from-reads
use Rattle.shift_jobs.specs.contracts.answers.JobError.{the_row}
use Rattle.shift_jobs.proofs.answers.JobError.TheLaws.{the_row_laws}
use Rattle.shift_jobs.proofs.answers.JobErrorRefuses.answer.Kinds as error-kinds
use Rattle.shift_jobs.proofs.answers.JobErrorRefuses.answer.Reads as error-reads

-- the case that a number and a row stand for
abbrev error_of : Answer → JobError
error_of x =
    cond (eqb x.number 2) opened.Ring
    (cond (eqb x.number 6) opened.Room
    (cond (eqb x.number 8) opened.Forged
    (cond (eqb x.number 32) opened.Missing
    (opened.Refused (refusal_of x)))))

error_back : (e : JobError) → error_of (job_error_answer e) ≡ e
error_back opened.Missing = refl
error_back (opened.Refused x) =
    simp (
      unlike x 2 (inl (lit< tt)) refl,
      unlike x 6 (inl (lit< tt)) refl,
      unlike x 8 (inl (lit< tt)) refl,
      unlike x 32 (inr (lit< tt)) refl,
    )
    (ap opened.Refused (refusal_back x))
error_back opened.Ring = refl
error_back opened.Room = refl
error_back opened.Forged = refl

pub error-one : {x y : JobError} → job_error_answer x ≡ job_error_answer y → x ≡ y
error-one {x} {y} q = sym (error_back x) ∙ ap error_of q ∙ error_back y

abbrev opened_of : Answer → Result Unit JobError
opened_of x = cond (eqb x.number 0) (Ok tt) (Err (error_of x))

opened_back : (x : Result Unit JobError) → opened_of (opened_answer x) ≡ x
opened_back (Ok x) = refl
opened_back (Err e) = simp (ne_eqb _ _ (job-error-some e)) (ap Err (error_back e))

pub opened_one : {x y : Result Unit JobError} → opened_answer x ≡ opened_answer y → x ≡ y
opened_one {x} {y} q = sym (opened_back x) ∙ ap opened_of q ∙ opened_back y

abbrev genuine_of : Genuine → Result Place JobError
genuine_of g = cond (eqb g.number 0) (Ok (record { ad_at = g.ad_at; ad_len = g.ad_len })) (Err (error_of (answer g.number g.row)))

genuine_back : (x : Result Place JobError) → genuine_of (genuine_answer x) ≡ x
genuine_back (Ok x) = refl
genuine_back (Err e) = simp (ne_eqb _ _ (job-error-some e)) (ap Err (error_back e))

pub genuine-one : {x y : Result Place JobError} → genuine_answer x ≡ genuine_answer y → x ≡ y
genuine-one {x} {y} q = sym (genuine_back x) ∙ ap genuine_of q ∙ genuine_back y

-- ---- the routines

pub open_job : OneOutcome open-job-kinds.ps open-job-kinds.r open-job-reads.Pre open-job-reads.Post
open_job κs a h x y =
    let e = x.ensures ∙ sym y.ensures in
    (opened_one (ap (λ (z : JobOpened). z.answer) e), ap (λ (z : JobOpened). (tt, (tt, (tt, (z.out, tt))))) e)

pub open_found : OneOutcome open-found-kinds.ps open-found-kinds.r open-found-reads.Pre open-found-reads.Post
open_found κs a h x y =
    let e = x.ensures ∙ sym y.ensures in
    (opened_one (ap (λ (z : JobOpened). z.answer) e), ap (λ (z : JobOpened). (tt, (tt, (tt, (z.out, tt))))) e)

pub verified : OneOutcome verified-kinds.ps verified-kinds.r verified-reads.Pre verified-reads.Post
verified κs a h x y = (genuine-one (x.ensures ∙ sym y.ensures), refl)

pub verify_found : OneOutcome verify-found-kinds.ps verify-found-kinds.r verify-found-reads.Pre verify-found-reads.Post
verify_found κs a h x y = (genuine-one (x.ensures ∙ sym y.ensures), refl)

pub error-from : OneOutcome from-kinds.ps from-kinds.r from-reads.Pre from-reads.Post
error-from κs a h x y = (error-one (x.ensures ∙ sym y.ensures), refl)

pub error-answer : OneOutcome error-kinds.ps error-kinds.r error-reads.Pre error-reads.Post
error-answer κs a h x y = (x.ensures ∙ sym y.ensures, refl)

-- `status::checked::answered`, of an opening
pub opened-answer : (of : Dict) → AnsweredOnce the_row the_row_laws (record { answer_of = job_error_answer }) of
opened-answer = answered_once the_row (λ k. refl) the_row_laws (record { answer_of = job_error_answer })

-- the same file, ring, row number and row; that they lie in one another belongs to the proof and is no outcome
pub lent : (κs : Lfts 1) (a : Dens κs lent-kinds.ps) (x y : Outcome lent-kinds.ps lent-kinds.r lent-reads.Post κs a)
    → (x.result.file ≡ y.result.file) × (x.result.ring ≡ y.result.ring) × (x.result.index ≡ y.result.index) × (x.result.row ≡ y.result.row)
lent κs a x y = (
  x.ensures.0 ∙ sym y.ensures.0,
  x.ensures.1 ∙ sym y.ensures.1,
  x.ensures.2 ∙ sym y.ensures.2,
  x.ensures.3 ∙ sym y.ensures.3,
)

pub seal_as : OneOutcome seal-as-kinds.ps seal-as-kinds.r seal-as-reads.Pre seal-as-reads.Post
seal_as κs a h x y =
    let e = x.ensures ∙ sym y.ensures in
    (number_tells _ _ (ap (λ (z : comet.Sealed). z.number) e), ap (λ (z : comet.Sealed). (tt, (tt, (z.out, (z.tag, tt))))) e)

pub open_row : OneOutcome open-row-kinds.ps open-row-kinds.r open-row-reads.Pre open-row-reads.Post
open_row κs a h x y =
    let e = x.ensures ∙ sym y.ensures in
    (number_tells _ _ (ap (λ (z : comet.Opened). z.number) e), ap (λ (z : comet.Opened). (tt, (z.out, tt))) e)

pub verify_row : OneOutcome verify-row-kinds.ps verify-row-kinds.r verify-row-reads.Pre verify-row-reads.Post
verify_row κs a h x y = (number_tells _ _ (x.ensures ∙ sym y.ensures), refl)
