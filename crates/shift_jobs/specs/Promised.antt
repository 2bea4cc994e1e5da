-- What holds of every shift file: opening a job is the opener on the entry's own bytes, and an altered unit is refused.
use Rattle.std.specs.Prelude.{ℕ, ◌+◌, ◌<◌, ◌≡◌, cond, List, [], ◌⊎◌, length, replicate, set}
use Rattle.block.specs.Bytes.{AllBytes}
use Rattle.shift_format.specs.Format.{row_of, unit_of, is_unit}
use Rattle.status.specs.Answers.{answer, Ranged}
use Rattle.shift_lookup.specs.Lookup.{lookup_job}
use Rattle.shift_jobs.specs.Opening.{entry_opening, JobOpened, left, job_opening}

-- a found row and a ring of 256 bytes: number and output are the opener's on the entry's own bytes, 6 among them
abbrev pub OpensEntry : Type 0
OpensEntry =
    (f ring : List ℕ) (job i : ℕ) (out : List ℕ) → lookup_job f job ≡ answer 0 i → length ring ≡ 256
    → job_opening f ring job out ≡ left (answer (entry_opening f ring i out).number 0) (entry_opening f ring i out).out

-- what opening can answer, and what it leaves in an output that held out₀
pub record Answered (out₀ : List ℕ) (r : JobOpened) : Type 0 where
  -- never 1, 3, 4, 5 or 7
  pub number : (r.answer.number ≡ 0) ⊎ (r.answer.number ≡ 2) ⊎ (r.answer.number ≡ 6) ⊎ (r.answer.number ≡ 8) ⊎ Ranged 20 32 r.answer.number
  -- a row only with 25 to 30 and 34
  pub row : (r.answer.row ≡ 0) ⊎ Ranged 25 30 r.answer.number
  pub wiped : r.answer.number ≡ 8 → r.out ≡ replicate (length out₀) 0
  pub kept : (r.answer.number ≡ 0 → ⊥) → (r.answer.number ≡ 8 → ⊥) → r.out ≡ out₀

abbrev pub OpeningAnswers : Type 0
OpeningAnswers = (f ring : List ℕ) (job : ℕ) (out₀ : List ℕ) → Answered out₀ (job_opening f ring job out₀)

-- an accepted entry with an empty message, its unit byte altered, gives 8 where the new byte is a unit, and else 30 with the row
abbrev pub UnitRefused : Type 0
UnitRefused =
    (f ring : List ℕ) (job i v : ℕ) → AllBytes f → AllBytes ring → v < 256
    → lookup_job f job ≡ answer 0 i → (row_of f i).text_len ≡ 0 → (unit_of f (row_of f i) ≡ v → ⊥) → (job_opening f ring job []).answer.number ≡ 0
    → job_opening (set f ((row_of f i).ad_at + 4) v) ring job [] ≡ cond (is_unit v) (left (answer 8 0) []) (left (answer 30 i) [])
