-- Preconditions of the crate's own functions; no entry point's contract cites them.
use Rattle.std.specs.Prelude.{ℕ, ◌≡◌, List}
use Rattle.cipher.specs.Cipher.{retired_suite}
use Rattle.shift_format.specs.declared.row.Row.{Row}
use Rattle.shift_format.specs.Format.{count_of, first_edition, row_of}
use Rattle.shift_check.specs.Check.{check_as}
use Rattle.shift_writer.specs.Inside.{RowWritable}

-- a file of n rows that passes the check
pub record Passing (f : List ℕ) (n : ℕ) : Type 0 where
  pub passed : (check_as first_edition f).number ≡ 0
  pub rows : n ≡ count_of f

-- row i can be written, and is one of suite 4
pub record Resealable (f : List ℕ) (i : ℕ) (r : Row) (ring out : List ℕ) : Type 0 where
  pub is_row : r ≡ row_of f i
  pub four : r.suite ≡ retired_suite
  pub row : RowWritable f i ring out
