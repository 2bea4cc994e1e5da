-- Preconditions of the crate's own functions; no entry point's contract cites them.
use Rattle.std.specs.Prelude.{ℕ, ◌<◌, ◌≡◌, List, length}
use Rattle.cipher.specs.Cipher.{Seals}
use Rattle.shift_format.specs.Format.{row_size_of, row_of}
use Rattle.shift_format.specs.Inside.{EntryIn}

-- every row below n is one that sealer and opener accept
pub record RowsIn (f : List ℕ) (n : ℕ) : Type 0 where
  pub entries : (i : ℕ) → i < n → EntryIn (row_size_of f) f i

-- every row below n has a suite that seals
pub record RowsSeal (f : List ℕ) (n : ℕ) : Type 0 where
  pub still : (i : ℕ) → i < n → Seals (row_of f i).suite

-- every row below n is one that they accept, and ring and output have the required lengths
pub record Writable (f : List ℕ) (n : ℕ) (ring out : List ℕ) : Type 0 where
  pub entries : (i : ℕ) → i < n → EntryIn (row_size_of f) f i
  pub ring_long : length ring ≡ 256
  pub out-long : length out ≡ length f

pub record RowWritable (f : List ℕ) (i : ℕ) (ring out : List ℕ) : Type 0 where
  pub entry : EntryIn (row_size_of f) f i
  pub ring_long : length ring ≡ 256
  pub out-long : length out ≡ length f
