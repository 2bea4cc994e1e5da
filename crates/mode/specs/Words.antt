-- The mode's work on bytes and words: doubling, shuffle, padding.
use Rattle.std.specs.Prelude.{ℕ, suc, ◌-◌, ◌*◌, ◌/◌, ◌%◌, ◌^◌, List, ◌∷◌, ◌++◌, length, replicate, ltb, leb, cond}
use Rattle.block.specs.Words.{xor, rotr}
use Rattle.block.specs.Bytes.{bytes, word}

-- a left shift by one of a number of w bits, which drops the top bit
abbrev pub shifted : ℕ → ℕ → ℕ
shifted w x = x * 2 % 2 ^ w

-- doubling of a number of w bits modulo x^w + p: the shift and, if the dropped bit was 1, XOR p
unfoldable pub double_by : ℕ → ℕ → ℕ → ℕ
double_by w p x = cond (leb (2 ^ (w - 1)) x) (xor (shifted w x) p) (shifted w x)

-- of 64 bits: 0x1b is x^4 + x^3 + x + 1 (document 01; source 000, section 1.1)
abbrev pub double : ℕ → ℕ
double x = double_by 64 0x1b x

-- of 120 bits: 0x245 is x^9 + x^6 + x^2 + 1 (source 004, section 7.2)
abbrev pub double120 : ℕ → ℕ
double120 x = double_by 120 0x245 x

-- a block as four equal words, the highest first as the paper writes it
pub record Four : Type 0 where
  pub X3 : ℕ
  pub X2 : ℕ
  pub X1 : ℕ
  pub X0 : ℕ

abbrev pub four : ℕ → ℕ → ℕ → ℕ → Four
four a b c d = record { X3 = a; X2 = b; X1 = c; X0 = d }

-- (X3, X2, X1, X0) becomes (X1, X0, X2 rotated right by 1, X3), on words of w bits (source 000, algorithm 3)
abbrev pub shuffle_words : ℕ → Four → Four
shuffle_words w x = four x.X1 x.X0 (rotr w 1 x.X2) x.X3

-- the four words of n bytes each of a block, word 0 first in the bytes
abbrev pub four_of : ℕ → List ℕ → Four
four_of n l = four (word n l (3 * n)) (word n l (2 * n)) (word n l n) (word n l 0)

abbrev pub bytes_of : ℕ → Four → List ℕ
bytes_of n x = (bytes n x.X0 ++ bytes n x.X1) ++ (bytes n x.X2 ++ bytes n x.X3)

-- the shuffle of a block of n bytes
unfoldable pub shuffle : ℕ → List ℕ → List ℕ
shuffle n b = bytes_of (n / 4) (shuffle_words (8 * (n / 4)) (four_of (n / 4) b))

-- a short block gets byte 01 and then zero bytes; a full block gets nothing
unfoldable pub pad : ℕ → List ℕ → List ℕ
pad n b = cond (ltb (length b) n) (b ++ (1 ∷ replicate (n - suc (length b)) 0)) b
