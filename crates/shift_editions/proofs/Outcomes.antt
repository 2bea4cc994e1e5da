-- One outcome for each input: an answer's number and row are those of one case, so what a contract allows is one value.
use mathlib.Core.Path.{◌≡◌, refl, sym, ap, ◌∙◌}
use mathlib.Core.Bool.{cond}
use mir.Syntax.{Dict}
use Rattle.std.specs.Prelude.{Result, Ok, Err}
use mathlib.Core.Logic.{inl, inr}
use lib.Dec.{eqb, lit<}
use borrow.Author.Tests.{ne_eqb}
use Rattle.block.specs.Outcome.{OneOutcome}
use Rattle.status.specs.declared.checked.Answer.{Answer}
use Rattle.status.proofs.Outcomes.{refusal_of, refusal_back, unlike, AnsweredOnce, answered_once}
use Rattle.shift_editions.specs.declared.answers.MoveError.{MoveError}
use Rattle.shift_editions.specs.declared.answers.MoveError.TheVariants.{Refused, Station, Room}
use Rattle.shift_editions.specs.Answers.{move_answer, moved_answer, FileMoved}
use Rattle.shift_editions.proofs.Done.{refusal_some}
use Rattle.shift_editions.proofs.moved_length.Kinds as moved-length-kinds
use Rattle.shift_editions.proofs.moved_length.Reads as moved-length-reads
use Rattle.shift_editions.proofs.to_edition2.Kinds as to-edition2-kinds
use Rattle.shift_editions.proofs.to_edition2.Reads as to-edition2-reads
use Rattle.shift_editions.proofs.to_edition1.Kinds as to-edition1-kinds
use Rattle.shift_editions.proofs.to_edition1.Reads as to-edition1-reads
use Rattle.shift_editions.proofs.answers.MoveErrorFromRefusal.from.Kinds as from-kinds
use Rattle.shift_editions.proofs.answers.MoveErrorFromRefusal.from.Reads as from-reads
use Rattle.shift_editions.specs.contracts.answers.MoveError.{the_row}
use Rattle.shift_editions.proofs.answers.MoveError.TheLaws.{the_row_laws}
use Rattle.shift_editions.proofs.answers.MoveErrorRefuses.answer.Kinds as answer-kinds
use Rattle.shift_editions.proofs.answers.MoveErrorRefuses.answer.Reads as answer-reads

-- the refusal that a number and a row stand for
abbrev error_of : Answer → MoveError
error_of x =
    cond (eqb x.number 6) Room
    (cond (eqb x.number 35) (Station x.row)
    (Refused (refusal_of x)))

error_back : (e : MoveError) → error_of (move_answer e) ≡ e
error_back (Refused x) = simp (unlike x 6 (inl (lit< tt)) refl, unlike x 35 (inr (lit< tt)) refl) (ap Refused (refusal_back x))
error_back (Station i) = refl
error_back Room = refl

abbrev moved_of : Answer → Result Unit MoveError
moved_of x = cond (eqb x.number 0) (Ok tt) (Err (error_of x))

moved_back : (x : Result Unit MoveError) → moved_of (moved_answer x) ≡ x
moved_back (Ok x) = refl
moved_back (Err e) = simp (ne_eqb _ _ (refusal_some e)) (ap Err (error_back e))

moved-one : {x y : Result Unit MoveError} → moved_answer x ≡ moved_answer y → x ≡ y
moved-one {x} {y} q = sym (moved_back x) ∙ ap moved_of q ∙ moved_back y

pub moved_length : OneOutcome moved-length-kinds.ps moved-length-kinds.r moved-length-reads.Pre moved-length-reads.Post
moved_length κs a h x y = (x.ensures ∙ sym y.ensures, refl)

pub to_edition2 : OneOutcome to-edition2-kinds.ps to-edition2-kinds.r to-edition2-reads.Pre to-edition2-reads.Post
to_edition2 κs a h x y =
    let e = x.ensures ∙ sym y.ensures in
    (moved-one (ap (λ (m : FileMoved). m.answer) e), ap (λ (m : FileMoved). (tt, (m.out, tt))) e)

pub to_edition1 : OneOutcome to-edition1-kinds.ps to-edition1-kinds.r to-edition1-reads.Pre to-edition1-reads.Post
to_edition1 κs a h x y =
    let e = x.ensures ∙ sym y.ensures in
    (moved-one (ap (λ (m : FileMoved). m.answer) e), ap (λ (m : FileMoved). (tt, (m.out, tt))) e)

pub error_from : OneOutcome from-kinds.ps from-kinds.r from-reads.Pre from-reads.Post
error_from κs a h x y = (x.ensures ∙ sym y.ensures, refl)

-- `status::checked::answered`, of a move
pub moved-answer : (of : Dict) → AnsweredOnce the_row the_row_laws (record { answer_of = move_answer }) of
moved-answer = answered_once the_row (λ k. refl) the_row_laws (record { answer_of = move_answer })

pub answer : OneOutcome answer-kinds.ps answer-kinds.r answer-reads.Pre answer-reads.Post
answer κs a h x y = (x.ensures ∙ sym y.ensures, refl)
