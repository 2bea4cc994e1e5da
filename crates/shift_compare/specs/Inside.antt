-- Preconditions and results of the private functions; the entry point's contract cites none of them.
use Rattle.std.specs.Prelude.{ℕ, ◌+◌, ◌-◌, ◌<◌, ◌≤◌, ◌≡◌, Bool, true, false, not, ◌||◌, cond, List, ◌∷◌, length, ltb, Option, Some, None}
use Rattle.shift_format.specs.Format.{count_of}
use Rattle.shift_check.specs.Check.{check_file}
use Rattle.shift_compare.specs.declared.merge.Turn.{Turn}
use Rattle.shift_compare.specs.declared.merge.Place.{Place}
use Rattle.shift_compare.specs.declared.merge.Place.TheVariants.{First, Second, Differ}
use Rattle.shift_compare.specs.declared.Counts.{Counts}
use Rattle.shift_compare.specs.Kept.{kept, on_list}
use Rattle.shift_compare.specs.Comparing.{job_at, has_job, differs, only_first, only_second, differing}

-- both files pass
pub record Sound (f g : List ℕ) : Type 0 where
  pub first : (check_file f).number ≡ 0
  pub second : (check_file g).number ≡ 0

-- the indices i and j of a merge: every job before each is below the other's next
pub record At (f g : List ℕ) (i j : ℕ) : Type 0 where
  pub sound : Sound f g
  pub in_f : i ≤ count_of f
  pub in_g : j ≤ count_of g
  pub past-f : (k : ℕ) → k < i → j < count_of g → job_at f k < job_at g j
  pub past-g : (k : ℕ) → k < j → i < count_of f → job_at g k < job_at f i

-- what is left of a list from row i of f on
unfoldable pub only_from : List ℕ → List ℕ → ℕ → List ℕ
only_from f g i = kept (λ k. not (has_job g (job_at f k))) (job_at f) i (count_of f - i)

unfoldable pub differ_from : List ℕ → List ℕ → ℕ → List ℕ
differ_from f g i = kept (differs f g) (job_at f) i (count_of f - i)

-- whether a job goes on a list
abbrev pub goes : Option Place → Place → Bool
goes None y = false
goes (Some First) First = true
goes (Some First) Second = false
goes (Some First) Differ = false
goes (Some Second) First = false
goes (Some Second) Second = true
goes (Some Second) Differ = false
goes (Some Differ) First = false
goes (Some Differ) Second = false
goes (Some Differ) Differ = true

-- where a job goes that both files have: equal entries are on no list
abbrev pub both_place : Bool → Option Place
both_place same = cond same None (Some Differ)

-- the first file's next job is in that file alone; the second's is
abbrev pub first_turn : ℕ → ℕ → ℕ → Turn
first_turn job i j = record { job = job; list = Some First; i = i + 1; j = j }

abbrev pub second_turn : ℕ → ℕ → ℕ → Turn
second_turn job i j = record { job = job; list = Some Second; i = i; j = j + 1 }

-- an iteration of the merge advances, and removes its job from the list that it names
pub record Turned (f g : List ℕ) (i j : ℕ) (t : Turn) : Type 0 where
  pub next : At f g t.i t.j
  pub more : i + j < t.i + t.j
  pub first : only_from f g i ≡ cond (goes t.list First) (t.job ∷ only_from f g t.i) (only_from f g t.i)
  pub second : only_from g f j ≡ cond (goes t.list Second) (t.job ∷ only_from g f t.j) (only_from g f t.j)
  pub differ : differ_from f g i ≡ cond (goes t.list Differ) (t.job ∷ differ_from f g t.i) (differ_from f g t.i)

abbrev pub counts_of : List ℕ → List ℕ → Counts
counts_of f g = record { first = length (only_first f g); second = length (only_second f g); differ = length (differing f g) }

-- a list is longer than its buffer, from the lengths of both
abbrev pub longer : Counts → ℕ → ℕ → ℕ → Bool
longer n first second differ = ltb first n.first || (ltb second n.second || ltb differ n.differ)

-- the precondition of the pass: if it writes, each list fits its buffer
pub record Passable (f g : List ℕ) (write : Bool) (x y z : List ℕ) : Type 0 where
  pub sound : Sound f g
  pub first : write ≡ true → length (only_first f g) ≤ length x
  pub second : write ≡ true → length (only_second f g) ≤ length y
  pub differ : write ≡ true → length (differing f g) ≤ length z

-- its result: the lists are counted and, if `write` is true, written
pub record Passed (f g : List ℕ) (write : Bool) (x₀ y₀ z₀ : List ℕ) (r : Counts) (x y z : List ℕ) : Type 0 where
  pub counts : r ≡ counts_of f g
  pub first : x ≡ cond write (on_list (only_first f g) x₀) x₀
  pub second : y ≡ cond write (on_list (only_second f g) y₀) y₀
  pub differ : z ≡ cond write (on_list (differing f g) z₀) z₀
