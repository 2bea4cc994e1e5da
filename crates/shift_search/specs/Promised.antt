-- The promises of the search (document 02, W6).
use Rattle.std.specs.Prelude.{ℕ, ◌+◌, ◌-◌, ◌/◌, ◌≤◌, ◌<◌, ◌≡◌, List, [], ◌∷◌, length, take}
use Rattle.shift_format.specs.Format.{count_of, row_size_of, row_start, row_of}
use Rattle.status.specs.Answers.{answer}
use Rattle.shift_check.specs.Check.{check_file}
use Rattle.shift_lookup.specs.Lookup.{lookup_job}
use Rattle.shift_lookup.specs.Halving.{ends, visit, halving}
use Rattle.shift_search.specs.Searching.{head_answer, searching}

-- the rule itself, of c rows at row s whose job numbers are `jobs`: its looks never run out
pub record HalvingRule (jobs : ℕ → ℕ) (job s c : ℕ) : Type 0 where
  -- 32 when c is 0
  pub none : c ≡ 0 → halving jobs job s c ≡ ends (answer 32 0)
  -- else look at row s + c/2: stop if it has the job
  pub stops : 0 < c → jobs (s + c / 2) ≡ job → halving jobs job s c ≡ visit (s + c / 2) (ends (answer 0 (s + c / 2)))
  -- keep the rows after it if its job is lower
  pub keeps-after : 0 < c → jobs (s + c / 2) < job → halving jobs job s c ≡ visit (s + c / 2) (halving jobs job (s + c / 2 + 1) (c - c / 2 - 1))
  -- else those before
  pub keeps-before : 0 < c → job < jobs (s + c / 2) → halving jobs job s c ≡ visit (s + c / 2) (halving jobs job s (c / 2))

abbrev pub Halves : Type 0
Halves = (jobs : ℕ → ℕ) (job s c : ℕ) → HalvingRule jobs job s c

-- two files have the same job in each row of a list
abbrev pub SameJobs : List ℕ → List ℕ → List ℕ → Type 0
SameJobs f g [] = Unit
SameJobs f g (i ∷ is) = ((row_of f i).job ≡ (row_of g i).job) × SameJobs f g is

-- only the listed rows matter: a file with the same answer of 20 to 24, the same number of rows and the same jobs in the
-- listed rows gives the same result, whatever its other rows contain
abbrev pub RowsDecide : Type 0
RowsDecide =
    (f g : List ℕ) (job : ℕ) → head_answer f ≡ head_answer g → count_of f ≡ count_of g → SameJobs f g (searching f job).rows → searching f job ≡ searching g job

-- on a file that passes the full check, number and row are the full lookup's
abbrev pub SameAsLookup : Type 0
SameAsLookup = (f : List ℕ) (job : ℕ) → (check_file f).number ≡ 0 → (searching f job).says ≡ lookup_job f job

-- on any bytes at most 10 rows are looked at: 512 rows are the most
abbrev pub TenLooks : Type 0
TenLooks = (f : List ℕ) (job : ℕ) → length (searching f job).rows ≤ 10

-- equal length and header, and equal tables where the header passes; a header that is refused has none
pub record SameTable (f g : List ℕ) : Type 0 where
  pub long : length f ≡ length g
  pub header : take 8 f ≡ take 8 g
  pub table : (head_answer f).number ≡ 0 → take (row_start (row_size_of f) (count_of f)) f ≡ take (row_start (row_size_of f) (count_of f)) g

-- such files give the same answer, whatever the bodies, and the same rows are looked at
abbrev pub BodiesUnread : Type 0
BodiesUnread = (f g : List ℕ) (job : ℕ) → SameTable f g → searching f job ≡ searching g job
