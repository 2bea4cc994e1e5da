-- One outcome for each input: an answer's number and row are those of one case, so what a contract allows is one value.
use mathlib.Core.Path.{◌≡◌, refl, sym, ap, ◌∙◌}
use mathlib.Core.Bool.{cond}
use mir.Syntax.{Dict}
use Rattle.std.specs.Prelude.{Result, Ok, Err}
use lib.Dec.{eqb}
use borrow.Author.Tests.{ne_eqb}
use Rattle.block.specs.Outcome.{OneOutcome}
use Rattle.status.specs.declared.checked.Answer.{Answer}
use Rattle.status.proofs.Outcomes.{refusal_of, refusal_back, unlike, AnsweredOnce, answered_once}
use mathlib.Core.Logic.{inl, inr}
use lib.Dec.{lit<}
use Rattle.shift_writer.specs.declared.answers.WriteError.{WriteError}
use Rattle.shift_writer.specs.declared.answers.WriteError.TheVariants as write
use Rattle.shift_writer.specs.Answers.{write_answer, written_answer}
use Rattle.shift_writer.proofs.Done.{write_some}
use Rattle.shift_draft.specs.Answers.{FileWritten}
use Rattle.shift_writer.proofs.lent_refused.Kinds as lent-kinds
use Rattle.shift_writer.proofs.lent_refused.Reads as Lent-reads
use Rattle.shift_writer.proofs.seal_file.Kinds as seal-kinds
use Rattle.shift_writer.proofs.seal_file.Reads as seal-reads
use Rattle.shift_writer.proofs.unseal_file.Kinds as unseal-kinds
use Rattle.shift_writer.proofs.unseal_file.Reads as unseal-reads
use Rattle.shift_writer.proofs.answers.WriteErrorFromRefusal.from.Kinds as from-kinds
use Rattle.shift_writer.proofs.answers.WriteErrorFromRefusal.from.Reads as from-reads
use Rattle.shift_writer.specs.contracts.answers.WriteError.{the_row}
use Rattle.shift_writer.proofs.answers.WriteError.TheLaws.{the_row_laws}
use Rattle.shift_writer.proofs.answers.WriteErrorRefuses.answer.Kinds as answer-kinds
use Rattle.shift_writer.proofs.answers.WriteErrorRefuses.answer.Reads as answer-reads

-- the refusal that a number and a row stand for
abbrev error_of : Answer → WriteError
error_of x =
    cond (eqb x.number 2) write.Ring
    (cond (eqb x.number 6) write.Room
    (cond (eqb x.number 8) (write.Forged x.row)
    (cond (eqb x.number 10) (write.Retired x.row)
    (cond (eqb x.number 33) (write.TagSet x.row)
    (write.Refused (refusal_of x))))))

error_back : (e : WriteError) → error_of (write_answer e) ≡ e
error_back (write.Refused x) =
    simp (
      unlike x 2 (inl (lit< tt)) refl,
      unlike x 6 (inl (lit< tt)) refl,
      unlike x 8 (inl (lit< tt)) refl,
      unlike x 10 (inl (lit< tt)) refl,
      unlike x 33 (inr (lit< tt)) refl,
    )
    (ap write.Refused (refusal_back x))
error_back (write.TagSet i) = refl
error_back (write.Retired i) = refl
error_back write.Ring = refl
error_back write.Room = refl
error_back (write.Forged i) = refl

abbrev written_of : Answer → Result Unit WriteError
written_of x = cond (eqb x.number 0) (Ok tt) (Err (error_of x))

written_back : (x : Result Unit WriteError) → written_of (written_answer x) ≡ x
written_back (Ok x) = refl
written_back (Err e) = simp (ne_eqb _ _ (write_some e)) (ap Err (error_back e))

pub written_one : {x y : Result Unit WriteError} → written_answer x ≡ written_answer y → x ≡ y
written_one {x} {y} q = sym (written_back x) ∙ ap written_of q ∙ written_back y

pub lent_refused : OneOutcome lent-kinds.ps lent-kinds.r Lent-reads.Pre Lent-reads.Post
lent_refused κs a h x y = (written_one (x.ensures ∙ sym y.ensures), refl)

pub seal_file : OneOutcome seal-kinds.ps seal-kinds.r seal-reads.Pre seal-reads.Post
seal_file κs a h x y =
    let e = x.ensures ∙ sym y.ensures in
    (written_one (ap (λ (z : FileWritten). z.answer) e), ap (λ (z : FileWritten). (tt, (tt, (z.out, tt)))) e)

pub unseal_file : OneOutcome unseal-kinds.ps unseal-kinds.r unseal-reads.Pre unseal-reads.Post
unseal_file κs a h x y =
    let e = x.ensures ∙ sym y.ensures in
    (written_one (ap (λ (z : FileWritten). z.answer) e), ap (λ (z : FileWritten). (tt, (tt, (z.out, tt)))) e)

pub error_from : OneOutcome from-kinds.ps from-kinds.r from-reads.Pre from-reads.Post
error_from κs a h x y = (x.ensures ∙ sym y.ensures, refl)

-- `status::checked::answered`, of the writer
pub written-answer : (of : Dict) → AnsweredOnce the_row the_row_laws (record { answer_of = write_answer }) of
written-answer = answered_once the_row (λ k. refl) the_row_laws (record { answer_of = write_answer })

pub answer : OneOutcome answer-kinds.ps answer-kinds.r answer-reads.Pre answer-reads.Post
answer κs a h x y = (x.ensures ∙ sym y.ensures, refl)
