-- The precondition of the crate's function; no entry point's contract cites it.
use Rattle.std.specs.Prelude.{ℕ, ◌+◌, ◌≡◌, List, length}
use Rattle.cipher.specs.Cipher.{Seals, size_of}
use Rattle.shift_format.specs.declared.row.Row.{Row}
use Rattle.shift_format.specs.Format.{row_size_of}
use Rattle.shift_format.specs.Inside.{EntryIn}

-- the suite seals, and the output is as long as text and tag
pub record PieceWritable (f ring : List ℕ) (i : ℕ) (r : Row) (suite : ℕ) (out : List ℕ) : Type 0 where
  pub entry : EntryIn (row_size_of f) f i
  pub still : Seals suite
  pub ring_long : length ring ≡ 256
  pub out-long : length out ≡ r.text_len + size_of suite
