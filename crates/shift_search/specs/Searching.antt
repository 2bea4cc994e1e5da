-- The search for a job (document 02, W6): 20 to 24, then binary search over all rows.
use Rattle.std.specs.Prelude.{ℕ, cond, List, eqb}
use Rattle.status.specs.declared.checked.Answer.{Answer}
use Rattle.status.specs.Answers.{answer}
use Rattle.shift_format.specs.Format.{count_of, first_edition, newest, row_size_of}
use Rattle.shift_check.specs.Check.{head_number}
use Rattle.shift_lookup.specs.Halving.{Walk, ends, halving, jobs_of}

-- 20 to 24 alone
abbrev pub head_answer : List ℕ → Answer
head_answer f = answer (head_number first_edition newest f) 0

-- checks 20 to 24 first (a refusal there looks at no row), then all rows
unfoldable pub searching : List ℕ → ℕ → Walk
searching f job = cond (eqb (head_answer f).number 0) (halving (jobs_of (row_size_of f) f) job 0 (count_of f)) (ends (head_answer f))
