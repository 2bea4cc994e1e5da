-- The rule of the four tables (document 02, W1): the S-box, then the column's multiples; one table for each row of a column.
use Rattle.std.specs.Prelude.{◌≡◌, List, [], ◌∷◌, ℕ, ◌+◌, ◌-◌, ◌%◌, ◌<◌, length, get_or}
use Rattle.block.specs.Bytes.{value}
use Rattle.aes_spec.specs.Field.{◌•◌}
use Rattle.aes_spec.specs.Sbox.{sub_byte}
use Rattle.aes_spec.specs.Cipher.{from}

-- section 5.1.3: the multiple of the byte in row 0 that is added to row r of the mixed column
abbrev pub multiple : ℕ → ℕ
multiple r = get_or (0x02 ∷ 0x01 ∷ 0x01 ∷ 0x03 ∷ []) r 0

-- what the byte s in row p contributes to the rows of the mixed column: those multiples, rotated by p rows
abbrev pub share : ℕ → ℕ → List ℕ
share p s = from 0 4 (λ r. multiple ((r + 4 - p) % 4) • s)

-- four rows of 256 words: entry x of row p is what the S-box at x contributes from row p, as a little-endian word (row 0 is the low byte)
pub record IsTables (t : List (List ℕ)) : Type 0 where
  pub rows : length t ≡ 4
  pub size : (p : ℕ) → p < 4 → length (get_or t p []) ≡ 256
  pub entry : (p x : ℕ) → p < 4 → x < 256 → get_or (get_or t p []) x 0 ≡ value (share p (sub_byte x))
