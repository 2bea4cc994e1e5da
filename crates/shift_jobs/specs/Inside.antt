-- Preconditions of the crate's own functions; no entry point's contract cites them.
use Rattle.std.specs.Prelude.{ℕ, ◌+◌, ◌*◌, ◌≤◌, ◌≡◌, List, length}
use Rattle.shift_format.specs.declared.row.Row.{Row}
use Rattle.shift_format.specs.Format.{row_size_of, row_of, body_end}
use Rattle.shift_format.specs.Inside.{RowIn}

-- the parts of row i that the opener borrows lie in the file and in the ring
pub record Lendable (f ring : List ℕ) (i : ℕ) (r : Row) : Type 0 where
  pub is_row : r ≡ row_of f i
  pub row_in : RowIn (row_size_of f) f i
  pub key_in : 16 * r.key + 16 ≤ length ring
  pub body-in : body_end r ≤ length f
