-- The comparison of two shift files (document 02, W8; W10: stations): the jobs only in the first, only in the second, and in both but different.
use Rattle.std.specs.Prelude.{ℕ, Bool, not, ◌&&◌, ◌||◌, cond, List, length, ltb, eqb, Result, Ok, Err}
use Rattle.status.specs.declared.checked.Answer.{Answer}
use Rattle.shift_check.specs.Search.{any_below}
use Rattle.shift_format.specs.Format.{count_of, row_of}
use Rattle.status.specs.Answers.{answer, refusal_answer}
use Rattle.shift_check.specs.Check.{check_file, refused}
use Rattle.shift_same.specs.Same.{same_entry}
use Rattle.shift_compare.specs.declared.Finding.{Finding}
use Rattle.shift_compare.specs.declared.Counts.{Counts}
use Rattle.shift_compare.specs.declared.CompareError.{CompareError}
use Rattle.shift_compare.specs.declared.CompareError.TheVariants.{First, Second, Room}
use Rattle.shift_compare.specs.Kept.{kept, on_list}

-- ---- the three lists

-- the job of row i
unfoldable pub job_at : List ℕ → ℕ → ℕ
job_at f i = (row_of f i).job

-- whether row j has the job
abbrev pub has : List ℕ → ℕ → ℕ → Bool
has f job j = eqb (job_at f j) job

-- whether some row has it
abbrev pub has_job : List ℕ → ℕ → Bool
has_job f job = any_below (has f job) (count_of f)

-- some row of g has row i's job, and is another entry
abbrev pub differs : List ℕ → List ℕ → ℕ → Bool
differs f g i = any_below (λ j. has g (job_at f i) j && not (same_entry f g i j)) (count_of g)

-- the jobs of f's rows that no row of g has
unfoldable pub only_in : List ℕ → List ℕ → List ℕ
only_in f g = kept (λ i. not (has_job g (job_at f i))) (job_at f) 0 (count_of f)

-- only in the first
abbrev pub only_first : List ℕ → List ℕ → List ℕ
only_first f g = only_in f g

-- only in the second
abbrev pub only_second : List ℕ → List ℕ → List ℕ
only_second f g = only_in g f

-- in both but different
unfoldable pub differing : List ℕ → List ℕ → List ℕ
differing f g = kept (differs f g) (job_at f) 0 (count_of f)

-- ---- the answer

-- a number and a row of file k; the counts are 0
abbrev pub refused_in : ℕ → Answer → Finding
refused_in k x = record { number = x.number; file = k; row = x.row; first = 0; second = 0; differ = 0 }

-- number, file, row and counts of every case
abbrev pub finding_of : Result Counts CompareError → Finding
finding_of (Ok n) = record { number = 0; file = 0; row = 0; first = n.first; second = n.second; differ = n.differ }
finding_of (Err (First x)) = refused_in 1 (refusal_answer x)
finding_of (Err (Second x)) = refused_in 2 (refusal_answer x)
finding_of (Err Room) = refused_in 0 (answer 36 0)

-- the result, and the three lists after the call
pub record Comparison : Type 0 where
  pub finding : Finding
  pub first : List ℕ
  pub second : List ℕ
  pub differ : List ℕ

-- a refusal leaves the lists unchanged
abbrev pub stopped : Finding → List ℕ → List ℕ → List ℕ → Comparison
stopped t x y z = record { finding = t; first = x; second = y; differ = z }

-- whether a list is longer than its buffer
abbrev pub too_long_of : List ℕ → List ℕ → List ℕ → List ℕ → List ℕ → Bool
too_long_of f g x y z = ltb (length x) (length (only_first f g)) || (ltb (length y) (length (only_second f g)) || ltb (length z) (length (differing f g)))

-- the three lists at the front of their buffers, and their lengths
abbrev pub listed : List ℕ → List ℕ → List ℕ → List ℕ → List ℕ → Comparison
listed f g x y z = record {
  finding = record { number = 0; file = 0; row = 0; first = length (only_first f g); second = length (only_second f g); differ = length (differing f g) };
  first = on_list (only_first f g) x;
  second = on_list (only_second f g) y;
  differ = on_list (differing f g) z;
}

-- the first file's refusal, the second's, 36, else the lists
unfoldable pub comparison : List ℕ → List ℕ → List ℕ → List ℕ → List ℕ → Comparison
comparison f g x y z =
    cond (refused f) (stopped (refused_in 1 (check_file f)) x y z)
    (cond (refused g) (stopped (refused_in 2 (check_file g)) x y z)
    (cond (too_long_of f g x y z) (stopped (refused_in 0 (answer 36 0)) x y z)
    (listed f g x y z)))
