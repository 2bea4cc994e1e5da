-- Amendments (document 02, W11): a small file replaces some jobs of the day's. The current entry of a job is the amendment's if it has the job, else the day's.
use Rattle.std.specs.Prelude.{ℕ, Bool, ◌&&◌, cond, List, eqb}
use Rattle.std.specs.Borrow.{Bor}
use Rattle.status.specs.declared.checked.Answer.{Answer}
use Rattle.shift_format.specs.Part.{PartOf}
use Rattle.status.specs.Answers.{answer}
use Rattle.shift_check.specs.Check.{check_file, refused}
use Rattle.shift_lookup.specs.Lookup.{lookup_job}
use Rattle.shift_lookup.specs.Entry.{Entry, entry_answer, entry_of}
use Rattle.shift_jobs.specs.Opening.{JobOpened, left, job_opening}
use Rattle.shift_amend.specs.declared.Amended.{Amended as Located}
use Rattle.shift_amend.specs.Source.{file_number}

-- what a caller in C sees: the file that the status concerns, and the entry
pub record Amended : Type 0 where
  pub file : ℕ
  pub entry : Entry

abbrev pub amended_answer : Located → Amended
amended_answer x = record { file = file_number x.file; entry = entry_answer x.entry }

-- a refusal: its number and row, and no offset
abbrev pub no_entry : Answer → Entry
no_entry x = record { number = x.number; row = x.row; ad_at = 0; ad_len = 0; text_at = 0; text_len = 0 }

-- an entry, and the file that its status concerns
abbrev pub in_file : ℕ → Entry → Amended
in_file k x = record { file = k; entry = x }

-- number and row of a current entry
abbrev pub answer_of : Amended → Answer
answer_of x = answer x.entry.number x.entry.row

-- whether a file passes and has the job
abbrev pub holds : List ℕ → ℕ → Bool
holds f job = eqb (lookup_job f job).number 0

-- check the amendment (1), then the day's file (2), in full even if the amendment has the job: a refusal names its file. Then the entry of the file that
-- holds it, the amendment's if it has the job, else the day's; 32, file 0, if neither has
unfoldable pub amended_entry : List ℕ → List ℕ → ℕ → Amended
amended_entry a d job =
    cond (refused a) (in_file 1 (no_entry (check_file a)))
    (cond (refused d) (in_file 2 (no_entry (check_file d)))
    (cond (holds a job) (in_file 1 (entry_of a job))
    (cond (holds d job) (in_file 2 (entry_of d job))
    (in_file 0 (no_entry (answer 32 0))))))

-- the file that holds the current entry; the amendment on a refusal
unfoldable pub holder : {A : Type 0} → A → A → Amended → A
holder a d x = cond (eqb x.entry.number 0 && eqb x.file 2) d a

-- r is the associated data of the current entry, as a part of the file that holds it; on a refusal, whose offsets are 0, the amendment's first zero bytes
abbrev pub CurrentPart : Bor (List ℕ) → Bor (List ℕ) → Bor (List ℕ) → ℕ → Type 0
CurrentPart a d r job =
    let x = amended_entry a.now d.now job in
    PartOf (holder a d x) r x.entry.ad_at x.entry.ad_len

-- the status of opening the current entry, and the output
pub record AmendedOpening : Type 0 where
  pub file : ℕ
  pub answer : Answer
  pub out : List ℕ

abbrev pub opened_in : ℕ → JobOpened → AmendedOpening
opened_in k x = record { file = k; answer = x.answer; out = x.out }

-- a refusal is the answer, and no key is touched; else the job is opened in the file that holds it
unfoldable pub amended_opening : List ℕ → List ℕ → List ℕ → ℕ → List ℕ → AmendedOpening
amended_opening a d ring job out₀ =
    let x = amended_entry a d job in
    opened_in x.file
    (cond (eqb x.entry.number 0)
    (job_opening (holder a d x) ring job out₀)
    (left (answer_of x) out₀))
