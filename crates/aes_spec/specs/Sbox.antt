-- The S-box of FIPS 197, section 5.1.1: "take the multiplicative inverse", then "apply the affine transformation".
use Rattle.std.specs.Prelude.{◌≡◌, List, ℕ, zero, suc, ◌+◌, ◌*◌, ◌%◌, ◌^◌, ◌<◌, length, get_or}
use Rattle.aes_spec.specs.Field.{bit, ◌⊕◌, inverse}

-- bit i of the affine transformation of b, with the byte 0x63
abbrev pub affine_bit : ℕ → ℕ → ℕ
affine_bit b i = bit i b ⊕ bit ((i + 4) % 8) b ⊕ bit ((i + 5) % 8) b ⊕ bit ((i + 6) % 8) b ⊕ bit ((i + 7) % 8) b ⊕ bit i 0x63

-- the number whose n bits are f 0, f 1, ..
abbrev pub of_bits : ℕ → (ℕ → ℕ) → ℕ
of_bits zero f = 0
of_bits (suc n) f = of_bits n f + f n * 2 ^ n

unfoldable pub affine : ℕ → ℕ
affine b = of_bits 8 (affine_bit b)

-- the S-box at the byte x
unfoldable pub sub_byte : ℕ → ℕ
sub_byte x = affine (inverse x)

-- a table of the S-box
pub record IsSbox (t : List ℕ) : Type 0 where
  pub size : length t ≡ 256
  pub entry : (x : ℕ) → x < 256 → get_or t x 0 ≡ sub_byte x
