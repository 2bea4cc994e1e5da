-- One outcome for each input: a lookup's number and row are those of one case, so what a contract allows is one value.
use Prim.Native.Nat.{ℕ}
use mathlib.Core.Path.{◌≡◌, refl, sym, ap, ap₂, ◌∙◌}
use mathlib.Core.Bool.{cond}
use mathlib.Core.Logic.{inr}
use lib.Dec.{eqb, lit<}
use borrow.Author.Tests.{ne_eqb}
use contract.Lifetimes.{Lfts}
use borrow.Fn.Kinds.{Dens}
use Rattle.std.specs.Prelude.{Result, Ok, Err}
use Rattle.block.specs.Outcome.{Outcome, OneOutcome}
use Rattle.status.specs.declared.checked.Answer.{Answer}
use Rattle.status.specs.Answers.{answer}
use Rattle.shift_lookup.proofs.Lookups.{error_some}
use Rattle.status.proofs.Outcomes.{refusal_of, refusal_back, unlike}
use Rattle.shift_format.proofs.Outcomes.{part-one}
use Rattle.shift_lookup.specs.declared.answers.Entry.{Entry as Place}
use Rattle.shift_lookup.specs.declared.answers.LookupError.{LookupError}
use Rattle.shift_lookup.specs.declared.answers.LookupError.TheVariants.{Missing, Refused}
use Rattle.shift_lookup.specs.Answers.{lookup_error_answer, found_answer}
use Rattle.shift_lookup.specs.Entry.{Entry, entry_answer}
use Rattle.shift_lookup.proofs.lookup.Kinds as lookup-kinds
use Rattle.shift_lookup.proofs.lookup.Reads as lookup-reads
use Rattle.shift_lookup.proofs.binary_search.halve.Kinds as halve-kinds
use Rattle.shift_lookup.proofs.binary_search.halve.Reads as halve-reads
use Rattle.shift_lookup.proofs.entry.Kinds as entry-kinds
use Rattle.shift_lookup.proofs.entry.Reads as entry-reads
use Rattle.shift_lookup.proofs.associated.Kinds as associated-kinds
use Rattle.shift_lookup.proofs.associated.Reads as associated-reads
use Rattle.shift_lookup.proofs.found.entry_found.Kinds as entry-found-kinds
use Rattle.shift_lookup.proofs.found.entry_found.Reads as entry-found-reads
use Rattle.shift_lookup.proofs.found.row_of.Kinds as row-of-kinds
use Rattle.shift_lookup.proofs.found.row_of.Reads as row-of-reads
use Rattle.shift_lookup.proofs.answers.LookupErrorFromRefusal.from.Kinds as from-kinds
use Rattle.shift_lookup.proofs.answers.LookupErrorFromRefusal.from.Reads as from-reads
use Rattle.shift_lookup.proofs.answers.LookupErrorRefuses.answer.Kinds as error-kinds
use Rattle.shift_lookup.proofs.answers.LookupErrorRefuses.answer.Reads as error-reads
use Rattle.shift_lookup.proofs.answers.answer_of.Kinds as found-kinds
use Rattle.shift_lookup.proofs.answers.answer_of.Reads as found-reads

abbrev pub error_of : Answer → LookupError
error_of x = cond (eqb x.number 32) Missing (Refused (refusal_of x))

pub error_back : (e : LookupError) → error_of (lookup_error_answer e) ≡ e
error_back Missing = refl
error_back (Refused x) = simp (unlike x 32 (inr (lit< tt)) refl) (ap Refused (refusal_back x))

abbrev found_of : Answer → Result ℕ LookupError
found_of x = cond (eqb x.number 0) (Ok x.row) (Err (error_of x))

found_back : (x : Result ℕ LookupError) → found_of (found_answer x) ≡ x
found_back (Ok i) = refl
found_back (Err e) = simp (ne_eqb _ _ (error_some e)) (ap Err (error_back e))

pub found-one : {x y : Result ℕ LookupError} → found_answer x ≡ found_answer y → x ≡ y
found-one {x} {y} q = sym (found_back x) ∙ ap found_of q ∙ found_back y

abbrev entry_of : Entry → Result Place LookupError
entry_of x =
    cond (eqb x.number 0) (Ok (record { row = x.row; ad_at = x.ad_at; ad_len = x.ad_len; text_at = x.text_at; text_len = x.text_len }))
    (Err (error_of (answer x.number x.row)))

entry_back : (x : Result Place LookupError) → entry_of (entry_answer x) ≡ x
entry_back (Ok x) = refl
entry_back (Err e) = simp (ne_eqb _ _ (error_some e)) (ap Err (error_back e))

pub entry-one : {x y : Result Place LookupError} → entry_answer x ≡ entry_answer y → x ≡ y
entry-one {x} {y} q = sym (entry_back x) ∙ ap entry_of q ∙ entry_back y

-- ---- the routines

pub lookup : OneOutcome lookup-kinds.ps lookup-kinds.r lookup-reads.Pre lookup-reads.Post
lookup κs a h x y = (found-one (x.ensures ∙ sym y.ensures), refl)

pub halve : OneOutcome halve-kinds.ps halve-kinds.r halve-reads.Pre halve-reads.Post
halve κs a h x y = (
  ap₂ (λ (f : Result ℕ LookupError) (l : ℕ). record { found = f; looked = l }) (found-one (x.ensures.0 ∙ sym y.ensures.0)) (x.ensures.1 ∙ sym y.ensures.1),
  refl,
)

pub entry : OneOutcome entry-kinds.ps entry-kinds.r entry-reads.Pre entry-reads.Post
entry κs a h x y = (entry-one (x.ensures ∙ sym y.ensures), refl)

pub associated : (κs : Lfts 1) (a : Dens κs associated-kinds.ps) (x y : Outcome associated-kinds.ps associated-kinds.r associated-reads.Post κs a)
    → (x.result.now ≡ y.result.now) × (x.result.ref_ptr ≡ y.result.ref_ptr)
associated κs a x y = part-one x.ensures y.ensures

pub entry_found : OneOutcome entry-found-kinds.ps entry-found-kinds.r entry-found-reads.Pre entry-found-reads.Post
entry_found κs a h x y = (entry-one (x.ensures ∙ sym y.ensures), refl)

pub error-from : OneOutcome from-kinds.ps from-kinds.r from-reads.Pre from-reads.Post
error-from κs a h x y = (x.ensures ∙ sym y.ensures, refl)

pub error-answer : OneOutcome error-kinds.ps error-kinds.r error-reads.Pre error-reads.Post
error-answer κs a h x y = (x.ensures ∙ sym y.ensures, refl)

pub found-answer : OneOutcome found-kinds.ps found-kinds.r found-reads.Pre found-reads.Post
found-answer κs a h x y = (x.ensures ∙ sym y.ensures, refl)

pub row_of : OneOutcome row-of-kinds.ps row-of-kinds.r row-of-reads.Pre row-of-reads.Post
row_of κs a h x y = (x.ensures ∙ sym y.ensures, refl)
