-- The lookup of a job (document 01, "The shift file").
use Rattle.std.specs.Prelude.{ℕ, ◌-◌, List, eqb}
use Rattle.status.specs.declared.checked.Answer.{Answer}
use Rattle.shift_check.specs.Search.{first_of}
use Rattle.shift_format.specs.Format.{count_of, row_size_of, row_at}
use Rattle.status.specs.Answers.{answer}
use Rattle.shift_check.specs.Check.{and_then, check_file}

-- the first row of n from row i on that has the job; 32 if none has
unfoldable pub find_from : ℕ → List ℕ → ℕ → ℕ → ℕ → Answer
find_from w f n job i = first_of (λ j. eqb (row_at w f j).job job) (answer 0) (answer 32 0) i (n - i)

-- the full check, then the row
unfoldable pub lookup_job : List ℕ → ℕ → Answer
lookup_job f job = and_then (check_file f) (find_from (row_size_of f) f (count_of f) job 0)
