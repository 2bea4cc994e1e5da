-- A job's associated data, returned only if its tag is right under the ring's key: the full check, 32, then 2 and 8.
use Rattle.std.specs.Prelude.{ℕ, ◌≡◌, not, cond, List, length, eqb, Result, Ok, Err}
use Rattle.status.specs.declared.checked.Answer.{Answer}
use Rattle.status.specs.Answers.{answer}
use Rattle.shift_format.specs.Format.{row_of}
use Rattle.shift_jobs.specs.declared.answers.Genuine.{Genuine as Place}
use Rattle.shift_jobs.specs.declared.answers.JobError.{JobError}
use Rattle.shift_jobs.specs.Answers.{job_error_answer}
use Rattle.shift_lookup.specs.Lookup.{lookup_job}
use Rattle.shift_lookup.specs.Entry.{data_start, data_length, text_length}
use Rattle.shift_jobs.specs.Opening.{entry_verifying, job_opening}

-- what a caller in C sees: number and row, and the offset and length of the associated data
pub record Genuine : Type 0 where
  pub number : ℕ
  pub row : ℕ
  pub ad_at : ℕ
  pub ad_len : ℕ

-- a status without offsets: both are 0
abbrev pub withheld : ℕ → ℕ → Genuine
withheld number row = record { number = number; row = row; ad_at = 0; ad_len = 0 }

-- of a refusal its number and its row, and no offset
abbrev pub genuine_answer : Result Place JobError → Genuine
genuine_answer (Ok x) = record { number = 0; row = 0; ad_at = x.ad_at; ad_len = x.ad_len }
genuine_answer (Err e) = withheld (job_error_answer e).number (job_error_answer e).row

-- row i: 2 (ring not 256 bytes), then the verifier's status; on 0 the offset of the row's associated data
unfoldable pub row_verifying : List ℕ → List ℕ → ℕ → Genuine
row_verifying f ring i =
    cond (not (eqb (length ring) 256)) (withheld 2 0)
    (cond (not (eqb (entry_verifying f ring i) 0)) (withheld (entry_verifying f ring i) 0)
    (record { number = 0; row = 0; ad_at = (row_of f i).ad_at; ad_len = (row_of f i).ad_len }))

-- a lookup that refuses is the answer, and no key is touched; else the row that it found is verified
abbrev pub found_verifying : List ℕ → List ℕ → Answer → Genuine
found_verifying f ring x = cond (eqb x.number 0) (row_verifying f ring x.row) (withheld x.number x.row)

unfoldable pub job_verifying : List ℕ → List ℕ → ℕ → Genuine
job_verifying f ring job = found_verifying f ring (lookup_job f job)

-- number and row are those of opening the job into an output of the message's length, whatever it contains
abbrev pub VerifiesAsOpening : Type 0
VerifiesAsOpening =
    (f ring : List ℕ) (job : ℕ) (out₀ : List ℕ) → length out₀ ≡ text_length f (lookup_job f job)
    → answer (job_verifying f ring job).number (job_verifying f ring job).row ≡ (job_opening f ring job out₀).answer

-- the offsets are the job's if the number is 0, and else 0
abbrev pub VerifiedPlaces : Type 0
VerifiedPlaces =
    (f ring : List ℕ) (job : ℕ)
    → ((job_verifying f ring job).number ≡ 0 → ((job_verifying f ring job).ad_at ≡ data_start f (lookup_job f job))
    × ((job_verifying f ring job).ad_len ≡ data_length f (lookup_job f job)))
    × (((job_verifying f ring job).number ≡ 0 → ⊥) → ((job_verifying f ring job).ad_at ≡ 0) × ((job_verifying f ring job).ad_len ≡ 0))
