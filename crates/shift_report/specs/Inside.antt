-- Precondition of a private function; no entry point's contract cites them.
use Rattle.std.specs.Prelude.{ℕ, ◌≤◌, ◌≡◌, List, length}
use Rattle.shift_format.specs.Format.{count_of}
use Rattle.shift_check.specs.Check.{check_file}

-- all n entries can be listed
pub record Listable (f ring : List ℕ) (n : ℕ) (jobs numbers : List ℕ) : Type 0 where
  pub passed : (check_file f).number ≡ 0
  pub all : n ≡ count_of f
  pub ring_long : length ring ≡ 256
  pub jobs-room : n ≤ length jobs
  pub numbers-room : n ≤ length numbers
