-- What the engine holds: four columns as words of 32 bits, row 0 the low byte.
use Rattle.std.specs.Prelude.{◌≡◌, List, ◌++◌, ℕ, ◌+◌, ◌%◌, get_or}
use Rattle.block.specs.Bytes.{bytes}
use Rattle.block.specs.Words.{xor}
use Rattle.block.specs.Xors.{xors}
use Rattle.aes_spec.specs.Cipher.{from, mixed, sub_word, rot_word, rcon, round_key}
use Rattle.aes_plain.specs.declared.Columns.{Columns}

-- their sixteen bytes, in FIPS 197's order
abbrev pub bytes_of : Columns → List ℕ
bytes_of s = bytes 4 s.a ++ bytes 4 s.b ++ bytes 4 s.c ++ bytes 4 s.d

-- the byte in row k of a column
abbrev pub row : ℕ → ℕ → ℕ
row k x = get_or (bytes 4 x) k 0

-- the column with these bytes, mixed
abbrev pub mix_column : List ℕ → List ℕ
mix_column l = from 0 4 (λ r. mixed (get_or l r 0) (get_or l ((r + 1) % 4) 0) (get_or l ((r + 2) % 4) 0) (get_or l ((r + 3) % 4) 0))

-- n is the round key after k, where rc is its round constant
abbrev pub Follows : List ℕ → List ℕ → List ℕ → Type 0
Follows k rc n = (key : List ℕ) (i : ℕ) → k ≡ round_key key i → rc ≡ rcon (i + 1) → n ≡ round_key key (i + 1)

-- the columns of n are those that the key expansion makes of k's, where rc is the round constant, whatever columns k has
abbrev pub Expands : Columns → List ℕ → Columns → Type 0
Expands k rc n =
    (bytes 4 n.a ≡ xors (bytes 4 k.a) (xors (sub_word (rot_word (bytes 4 k.d))) rc)) × (n.b ≡ xor k.b n.a) × (n.c ≡ xor k.c n.b) × (n.d ≡ xor k.d n.c)
