-- The Bloom filter before rule 29 of the check; no entry point's contract cites it.
use Rattle.std.specs.Prelude.{ℕ, ◌+◌, ◌*◌, ◌/◌, ◌%◌, ◌^◌, ◌≡◌, Bool, false, List, eqb, get_or, set, take, drop}
use Rattle.std.specs.Int.Bits.{bit_or, bit_xor}
use Rattle.block.specs.Bytes.{value}
use Rattle.shift_format.specs.Format.{row_at, nonce_at}
use Rattle.shift_check.specs.Check.{unread_set, nonce_seen}

-- a nonce's two words as one
unfoldable pub folded : ℕ → ℕ → ℕ
folded a b = bit_xor (bit_xor a (b * 2 ^ 35 % 2 ^ 64)) (b / 2 ^ 29)

-- suite, key number and that word, mixed
unfoldable pub mixed : ℕ → ℕ → ℕ → ℕ
mixed suite key x = x % 0x1_0000_0000 * 0x71E5_4147 + x / 2 ^ 32 * 0x7764_E943 + (suite * 256 + key) * 0x4045_02D3

-- the hash of row i: equal in rows of one suite, key number and nonce
unfoldable pub mark_of : ℕ → List ℕ → ℕ → ℕ
mark_of w f i = mixed (row_at w f i).suite (row_at w f i).key (folded (value (take 8 (nonce_at w f i))) (value (drop 8 (nonce_at w f i))))

-- the index of the word, of 128, that a hash selects
unfoldable pub word_of : ℕ → ℕ
word_of x = x / 2 ^ 25 % 128

-- the two bits that it selects
unfoldable pub bits_of : ℕ → ℕ
bits_of x = bit_or (2 ^ (x / 2 ^ 19 % 64)) (2 ^ (x / 2 ^ 32 % 64))

-- whether both are set
unfoldable pub has : List ℕ → ℕ → Bool
has seen x = eqb (bit_or (get_or seen (word_of x) 0) (bits_of x)) (get_or seen (word_of x) 0)

-- the filter with both set
unfoldable pub with : List ℕ → ℕ → List ℕ
with seen x = set seen (word_of x) (bit_or (get_or seen (word_of x) 0) (bits_of x))

-- what the filter's answer says of row i: if its bits are not both set, and 34 does not apply, it clashes with no earlier row
pub record Sieved (w : ℕ) (f : List ℕ) (i : ℕ) (marked : Bool) : Type 0 where
  pub clear : marked ≡ false → unread_set w f i ≡ false → nonce_seen w f i ≡ false
