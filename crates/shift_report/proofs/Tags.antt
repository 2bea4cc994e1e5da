-- What the opener, and the record's test, say of a row of a file that passes: 0 where its tag is right, 8 where it is wrong.
use Prim.Native.Nat.{ℕ}
use mathlib.Core.Path.{◌≡◌, refl, ap, ◌∙◌}
use mathlib.Core.Bool.{Bool, true, false, cond}
use mathlib.Core.List.{List}
use lib.ListN.{length}
use Rattle.comet.specs.Answers.{Opened, opened_as}
use Rattle.shift_format.specs.Format.{row_size_of, row_of, text_of}
use Rattle.shift_format.specs.Inside.{EntryIn}
use Rattle.status.specs.Answers.{answer}
use Rattle.shift_jobs.specs.Opening.{entry_opening, entry_verifying, JobOpened}
use Rattle.shift_jobs.proofs.Entries.{text-long, test_number}
use Rattle.shift_lookup.proofs.Lookups.{found_in}
use Rattle.shift_lookup.proofs.Finding.{finds}
use Rattle.shift_jobs.proofs.Jobs.{opens}
use Rattle.shift_draft.specs.Files.{entry_out}
use Rattle.shift_draft.specs.Answers.{tag_right}
use Rattle.shift_draft.proofs.Takes.{open_done}
use Rattle.shift_report.specs.Reporting.{job_of, tag_number}
use Rattle.shift_report.specs.Promised.{OpeningSays}

opened-number : (t : Bool) (x o : List ℕ) → (opened_as 0 t x o).number ≡ cond t 0 8
opened-number true x o = refl
opened-number false x o = refl

-- the opener's number, into an output of the message's length
pub number_is : (f ring : List ℕ) (i : ℕ) → EntryIn (row_size_of f) f i → length ring ≡ 256 → (m : ℕ) (x o : List ℕ) → length o ≡ (row_of f i).text_len
    → ◌≡◌ {A = Opened} (record { number = m; out = x }) (entry_opening f ring i o) → m ≡ tag_number f ring i
unfolding tag_number
number_is f ring i h g m x o l e =
    ap (λ (w : Opened). w.number) (e ∙ open_done f ring i h g o l) ∙ opened-number (tag_right f ring i) (entry_out true f ring i) o

-- so it is what opening the row's job answers
pub opening-says : OpeningSays
opening-says f ring out i z g l o =
    let found = ((finds f (job_of f i) z).found i).1 (record { within = l; right = refl }) in
    ap (λ (w : JobOpened). w.answer) (opens f ring (job_of f i) i out found g)
    ∙ ap (λ (m : ℕ). answer m 0) (number_is f ring i (found_in f (job_of f i) i found) g _ _ out o refl)

-- and what the record's test answers
pub test_is : (f ring : List ℕ) (i : ℕ) → EntryIn (row_size_of f) f i → length ring ≡ 256 → entry_verifying f ring i ≡ tag_number f ring i
test_is f ring i h g =
    let o = text_of f (row_of f i) in
    test_number f ring i ∙ number_is f ring i h g _ _ o (text-long f ring i h g) refl
