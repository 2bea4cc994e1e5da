-- The promises of amendments (document 02, W11).
use Rattle.std.specs.Prelude.{ℕ, ◌≡◌, List, ◌↔◌}
use Rattle.std.specs.Borrow.{Bor}
use Rattle.shift_format.specs.Part.{PartOf}
use Rattle.shift_format.specs.Format.{count_of}
use Rattle.status.specs.Answers.{answer}
use Rattle.shift_check.specs.Check.{check_file}
use Rattle.shift_lookup.specs.Lookup.{lookup_job}
use Rattle.shift_lookup.specs.Entry.{data_start, data_length, entry_of}
use Rattle.shift_jobs.specs.Opening.{job_opening}
use Rattle.shift_lookup.specs.Promised.{Has}
use Rattle.shift_amend.specs.Amending.{no_entry, in_file, amended_entry, holder, CurrentPart, opened_in, amended_opening}

-- both files pass the full check
pub record BothPass (a d : List ℕ) : Type 0 where
  pub amendment : (check_file a).number ≡ 0
  pub day : (check_file d).number ≡ 0

-- no row of the file has the job
abbrev pub Lacks : List ℕ → ℕ → Type 0
Lacks f job = (i : ℕ) → Has f job i → ⊥

-- the amendment's refusal comes first, and then the day's, whatever the amendment has
pub record Refusals (a d : List ℕ) (job : ℕ) : Type 0 where
  pub amendment : ((check_file a).number ≡ 0 → ⊥) → amended_entry a d job ≡ in_file 1 (no_entry (check_file a))
  pub day : (check_file a).number ≡ 0 → ((check_file d).number ≡ 0 → ⊥) → amended_entry a d job ≡ in_file 2 (no_entry (check_file d))

-- which entry is the current one, if both files pass
pub record Chooses (a d : List ℕ) (job : ℕ) : Type 0 where
  -- the amendment wins: a row of it that has the job is the current entry, whatever the day's file has
  pub amendment : (i : ℕ) → Has a job i → (amended_entry a d job ≡ in_file 1 (entry_of a job)) × ((lookup_job a job).number ≡ 0) × ((lookup_job a job).row ≡ i)
  -- the day's is, if the amendment has none
  pub day : Lacks a job → (i : ℕ) → Has d job i → (amended_entry a d job ≡ in_file 2 (entry_of d job)) × ((lookup_job d job).number ≡ 0) × ((lookup_job d job).row ≡ i)

abbrev pub InOrder : Type 0
InOrder = (a d : List ℕ) (job : ℕ) → Refusals a d job

abbrev pub AmendmentWins : Type 0
AmendmentWins = (a d : List ℕ) (job : ℕ) → BothPass a d → Chooses a d job

-- both files pass and neither has the job
pub record Neither (a d : List ℕ) (job : ℕ) : Type 0 where
  pub pass : BothPass a d
  pub amendment : Lacks a job
  pub day : Lacks d job

-- 32 exactly then, with file 0, row 0 and no offset
pub record Missing (a d : List ℕ) (job : ℕ) : Type 0 where
  pub only : (amended_entry a d job).entry.number ≡ 32 → Neither a d job
  pub told : Neither a d job → amended_entry a d job ≡ in_file 0 (no_entry (answer 32 0))

abbrev pub MissingExactly : Type 0
MissingExactly = (a d : List ℕ) (job : ℕ) → Missing a d job

-- what the one-file call promises of the part that it returns
abbrev pub OneFilePart : Bor (List ℕ) → Bor (List ℕ) → ℕ → Type 0
OneFilePart f r job = PartOf f r (data_start f.now (lookup_job f.now job)) (data_length f.now (lookup_job f.now job))

-- the part is what the one-file call returns for the file that holds the entry: its bytes, and its offset in that file; on a
-- refusal the amendment's first zero bytes
pub record Hands (a d r : Bor (List ℕ)) (job : ℕ) : Type 0 where
  pub held : (amended_entry a.now d.now job).entry.number ≡ 0 → CurrentPart a d r job ↔ OneFilePart (holder a d (amended_entry a.now d.now job)) r job
  pub refused : ((amended_entry a.now d.now job).entry.number ≡ 0 → ⊥) → CurrentPart a d r job ↔ PartOf a r 0 0

abbrev pub PartOfHolder : Type 0
PartOfHolder = (a d r : Bor (List ℕ)) (job : ℕ) → Hands a d r job

-- with an amendment of no rows it is the one-file lookup, entry and opening in the day's file, refusals too
pub record OneFile (a d : List ℕ) (job : ℕ) : Type 0 where
  pub entry : (amended_entry a d job).entry ≡ entry_of d job
  pub opens : (ring out₀ : List ℕ) → amended_opening a d ring job out₀ ≡ opened_in (amended_entry a d job).file (job_opening d ring job out₀)

abbrev pub NoRows : Type 0
NoRows = (a d : List ℕ) (job : ℕ) → (check_file a).number ≡ 0 → count_of a ≡ 0 → OneFile a d job
