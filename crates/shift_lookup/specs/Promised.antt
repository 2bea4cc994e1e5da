-- What holds of the lookup in every shift file: a job is found exactly if a row has it.
use Rattle.std.specs.Prelude.{ℕ, ◌<◌, ◌≡◌, List, ◌↔◌}
use Rattle.shift_format.specs.Format.{count_of, row_of}
use Rattle.status.specs.Answers.{answer}
use Rattle.shift_check.specs.Check.{check_file}
use Rattle.shift_lookup.specs.Lookup.{lookup_job}

-- row i of the file has the job
pub record Has (f : List ℕ) (job i : ℕ) : Type 0 where
  pub within : i < count_of f
  pub right : (row_of f i).job ≡ job

-- the lookup of a job in a file that passes
pub record Finds (f : List ℕ) (job : ℕ) : Type 0 where
  -- the lookup gives row i exactly if that has the job
  pub found : (i : ℕ) → (lookup_job f job ≡ answer 0 i) ↔ Has f job i
  -- and 32 exactly if none has
  pub missing : (lookup_job f job ≡ answer 32 0) ↔ ((i : ℕ) → Has f job i → ⊥)
  -- one row at most has it
  pub one : (i j : ℕ) → Has f job i → Has f job j → i ≡ j

abbrev pub JobFound : Type 0
JobFound = (f : List ℕ) (job : ℕ) → (check_file f).number ≡ 0 → Finds f job
