-- One outcome for each input: a contract says what file, lookup and entry equal, the part's bytes and place, and what is left in the output.
use mathlib.Core.Path.{◌≡◌, refl, sym, ap, ap₂, ◌∙◌}
use Prim.Native.Nat.{ℕ, zero, suc}
use contract.Lifetimes.{Lfts}
use borrow.Fn.Kinds.{Dens}
use Rattle.block.specs.Outcome.{Outcome, OneOutcome}
use Rattle.shift_format.proofs.Outcomes.{part-one}
use Rattle.std.specs.Prelude.{Result}
use Rattle.shift_jobs.specs.declared.answers.JobError.{JobError}
use Rattle.shift_lookup.specs.declared.answers.Entry.{Entry as Place}
use Rattle.shift_lookup.specs.declared.answers.LookupError.{LookupError}
use Rattle.shift_lookup.proofs.Outcomes.{found-one, entry-one}
use Rattle.shift_jobs.proofs.Outcomes.{opened_one}
use Rattle.shift_amend.specs.Source.{file_number}
use Rattle.shift_amend.specs.Amending.{Amended, AmendedOpening}
use Rattle.shift_amend.specs.declared.Source.{Source}
use Rattle.shift_amend.specs.declared.Source.TheVariants.{Neither, Amendment, Day}
use Rattle.shift_amend.proofs.U32FromSource.from.Kinds as number-kinds
use Rattle.shift_amend.proofs.U32FromSource.from.Reads as number-reads
use Rattle.shift_amend.proofs.look_up.Kinds as look-up-kinds
use Rattle.shift_amend.proofs.look_up.Reads as look-up-reads
use Rattle.shift_amend.proofs.locate.Kinds as locate-kinds
use Rattle.shift_amend.proofs.locate.Reads as locate-reads
use Rattle.shift_amend.proofs.current.Kinds as current-kinds
use Rattle.shift_amend.proofs.current.Reads as current-reads
use Rattle.shift_amend.proofs.open_current.Kinds as open-current-kinds
use Rattle.shift_amend.proofs.open_current.Reads as open-current-reads

-- no two files have the same number
source_of : ℕ → Source
source_of zero = Neither
source_of (suc zero) = Amendment
source_of (suc (suc n)) = Day

source_back : (s : Source) → source_of (file_number s) ≡ s
unfolding source_of
source_back Neither = refl
source_back Amendment = refl
source_back Day = refl

source_tells : (s t : Source) → file_number s ≡ file_number t → s ≡ t
source_tells s t e = sym (source_back s) ∙ ap source_of e ∙ source_back t

pub number : OneOutcome number-kinds.ps number-kinds.r number-reads.Pre number-reads.Post
number κs a h x y = (x.ensures ∙ sym y.ensures, refl)

pub look_up : OneOutcome look-up-kinds.ps look-up-kinds.r look-up-reads.Pre look-up-reads.Post
look_up κs a h x y =
    (ap₂ (λ (k : Source) (f : Result ℕ LookupError). record { file = k; found = f }) (source_tells _ _ (x.ensures.0 ∙ sym y.ensures.0)) (found-one (x.ensures.1 ∙ sym y.ensures.1)), refl)

pub locate : OneOutcome locate-kinds.ps locate-kinds.r locate-reads.Pre locate-reads.Post
locate κs a h x y =
    let e = x.ensures ∙ sym y.ensures in (
      ap₂ (λ (k : Source) (o : Result Place LookupError). record { file = k; entry = o }) (source_tells _ _ (ap (λ (z : Amended). z.file) e))
          (entry-one (ap (λ (z : Amended). z.entry) e)),
      refl,
    )

pub current : (κs : Lfts 1) (a : Dens κs current-kinds.ps) (x y : Outcome current-kinds.ps current-kinds.r current-reads.Post κs a)
    → (x.result.now ≡ y.result.now) × (x.result.ref_ptr ≡ y.result.ref_ptr)
current κs a x y = part-one x.ensures y.ensures

pub open_current : OneOutcome open-current-kinds.ps open-current-kinds.r open-current-reads.Pre open-current-reads.Post
open_current κs a h x y =
    let e = x.ensures ∙ sym y.ensures in (
      ap₂ (λ (k : Source) (o : Result Unit JobError). record { file = k; opened = o }) (source_tells _ _ (ap (λ (z : AmendedOpening). z.file) e))
          (opened_one (ap (λ (z : AmendedOpening). z.answer) e)),
      ap (λ (z : AmendedOpening). (tt, (tt, (tt, (tt, (z.out, tt)))))) e,
    )
