-- What the library's `to_le_bytes` and `from_le_bytes` give, as `bytes`.
use Rattle.std.proofs.Common.{◌≡◌, ℕ, zero, suc, ◌/◌, ◌%◌, ◌^◌, List, ◌∷◌, refl, sym, ap, ap₂, ◌∙◌, arith, length, w64}
use Rattle.std.proofs.Math.Nat.{div-div-eq-div-mul, pow-suc}
use Rattle.std.proofs.lemmas.Nat.{le_bytes_8}
use Rattle.std.specs.Int.{bytes_low_first, byte_at, from_le_bytes}
use Rattle.block.specs.Bytes.{AllBytes, bytes}

byte_is : (i x : ℕ) → byte_at i x ≡ x / 256 ^ i % 256
byte_is zero x = let e : x ≡ x / 256 ^ 0 = omega arith in ap (λ v. v % 256) e
byte_is (suc i) x = refl

-- n bytes from byte i on
from_byte : (i n x : ℕ) → bytes_low_first i n x ≡ bytes n (x / 256 ^ i)
unfolding bytes
from_byte i zero x = refl
from_byte i (suc n) x =
    let e : x / 256 ^ suc i ≡ x / 256 ^ i / 256 = ap (λ v. x / v) (pow-suc 256 i) ∙ sym (div-div-eq-div-mul x (256 ^ i) 256) in
    ap₂ (λ (b : ℕ) (l : List ℕ). b ∷ l) (byte_is i x) (from_byte (suc i) n x ∙ ap (bytes n) e)

pub low_first : (n x : ℕ) → bytes_low_first 0 n x ≡ bytes n x
low_first n x = let e : x / 256 ^ 0 ≡ x = omega arith in from_byte 0 n x ∙ ap (bytes n) e

-- a number that was read from eight bytes has these bytes
pub read_back : (l : List ℕ) (x : ℕ) → length l ≡ 8 → AllBytes l → x ≡ from_le_bytes w64 l → bytes 8 x ≡ l
read_back l x n h e = sym (low_first 8 x) ∙ le_bytes_8 l x n h e
