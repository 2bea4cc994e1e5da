-- The field GF(2^8) of FIPS 197, section 4: a byte is a polynomial, and bit i is the coefficient of x^i.
use Rattle.std.specs.Prelude.{◌≡◌, Bool, cond, ℕ, zero, suc, ◌*◌, ◌/◌, ◌%◌, ◌^◌, ◌<◌, eqb}
use Rattle.block.specs.Words.{xor}

infixl 60 ◌⊕◌
infixl 70 ◌•◌
-- bit i of a byte
abbrev pub bit : ℕ → ℕ → ℕ
bit i b = b / 2 ^ i % 2

-- section 4.1: the sum of two bytes
abbrev pub ◌⊕◌ : ℕ → ℕ → ℕ
◌⊕◌ a b = xor a b

-- section 4.2: the product with x, modulo x^8 + x^4 + x^3 + x + 1
unfoldable pub xtime : ℕ → ℕ
xtime b = b * 2 % 256 ⊕ bit 7 b * 0x1b

-- the sum of the b x^i over the n low bits i of a that are 1
unfoldable pub multiples : ℕ → ℕ → ℕ → ℕ
multiples zero a b = 0
multiples (suc n) a b = a % 2 * b ⊕ multiples n (a / 2) (xtime b)

-- section 4.2: the product of two bytes, "by repeated application of xtime"
unfoldable pub ◌•◌ : ℕ → ℕ → ℕ
◌•◌ a b = multiples 8 a b

-- y is the multiplicative inverse of x: their product is 1 (section 4.2); "the element 00 is mapped to itself" (section 5.1.1)
pub record IsInverse (x y : ℕ) : Type 0 where
  pub byte : y < 256
  pub one : 0 < x → x • y ≡ 1
  pub none : x ≡ 0 → y ≡ 0

-- a number below n that passes the test, or 0 if none does
unfoldable pub find : (ℕ → Bool) → ℕ → ℕ
find p zero = 0
find p (suc n) = cond (p n) n (find p n)

-- the byte whose product with x is 1, or 0 if there is none: the inverse, and the only one (proofs/Inverse)
unfoldable pub inverse : ℕ → ℕ
inverse x = find (λ y. eqb (x • y) 1) 256
