-- Why 29 and 34 are there (document 02, W5): on a file or draft that passes, no two rows of one suite and one key number are
-- opened under the same nonce; and 34 as the request words it.
use Rattle.std.specs.Prelude.{ℕ, ◌+◌, ◌≤◌, ◌<◌, ◌≡◌, ◌↔◌, List, length, get_or}
use Rattle.block.specs.Blocks.{filled}
use Rattle.cipher.specs.Cipher.{nonce_of}
use Rattle.shift_format.specs.Format.{count_of, row_size_of, row_start, row_of, nonce_at, nonce_read_at}
use Rattle.shift_check.specs.Check.{check_between}
use Rattle.shift_jobs.specs.Opening.{nonce_read}

-- rows i and j are opened under the same suite, key number and nonce: `nonce_read` is what the opener borrows
pub record SameNonce (f : List ℕ) (i j : ℕ) : Type 0 where
  pub suite : (row_of f i).suite ≡ (row_of f j).suite
  pub key : (row_of f i).key ≡ (row_of f j).key
  pub nonce : nonce_read f i ≡ nonce_read f j

-- only a row and itself are; whichever editions the check accepts, a draft's among them
abbrev pub NoncesOnce : Type 0
NoncesOnce = (low high : ℕ) (f : List ℕ) → (check_between low high f).number ≡ 0 → (i j : ℕ) → i < count_of f → j < count_of f → SameNonce f i j → i ≡ j

-- for a row that lies in the file: its nonce is not the bytes that are read, padded with zeros, exactly if the suite's nonce has 15 bytes and the 16th is not 0
abbrev pub UnreadByte : Type 0
UnreadByte =
    (f : List ℕ) (i : ℕ) → row_start (row_size_of f) i + row_size_of f ≤ length f
    → (nonce_at (row_size_of f) f i ≡ filled (nonce_read_at (row_size_of f) f i) → ⊥) ↔
    ((nonce_of (row_of f i).suite ≡ 15) × (get_or (nonce_at (row_size_of f) f i) 15 0 ≡ 0 → ⊥))
