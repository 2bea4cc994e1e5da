-- The product is a sum of multiples by powers of x, so it has the laws that the product with x has: it is linear and associative.
use mathlib.Core.Path.{◌≡◌, refl, sym, ap, ap₂, ◌∙◌}
use mathlib.Core.Bool.{Bool}
use Prim.Native.Nat.{ℕ, zero, suc, ◌+◌, ◌*◌, ◌/◌, ◌%◌, ◌^◌, ◌<◌}
use native.Mathlib.Nat.{pow-suc, le_of_suc-le-suc, not-suc-le-zero, zero-mul, one-mul}
use native.Mathlib.Omega.{arith}
use lib.Dec.{T, eqb, eqb→eq, lit<}
use lib.Bits.{xor_block, xor_shifted}
use Rattle.block.specs.Words.{xor}
use Rattle.block.proofs.XorLaws.{self, zero_l, zero_r, middle, low, high, below as xor_below}
use Rattle.block.proofs.Table.{below, at_below}
use Rattle.aes_spec.specs.Field.{bit, ◌⊕◌, xtime, multiples, ◌•◌}

-- ---- a bit times a number

-- what holds at 0 and at 1 holds of every bit
bits : (P : ℕ → Type 0) → P 0 → P 1 → (p : ℕ) → p < 2 → P p
bits P h k zero l = h
bits P h k (suc zero) l = k
bits P h k (suc (suc p)) l = absurd (not-suc-le-zero (le_of_suc-le-suc (le_of_suc-le-suc l)))

digit : (n : ℕ) → n % 2 < 2
digit n = omega arith

sum_times : (a p q : ℕ) → p < 2 → q < 2 → (p ⊕ q) * a ≡ p * a ⊕ q * a
unfolding xor
sum_times a p q hp hq =
    bits (λ x. (x ⊕ q) * a ≡ x * a ⊕ q * a) (simp (zero-mul, zero_l))
    (bits (λ y. (1 ⊕ y) * a ≡ 1 * a ⊕ y * a) (simp (zero-mul, zero_r)) (simp (zero-mul, one-mul, self)) q hq) p hp

-- ---- the product with x

double_sum : (a b : ℕ) → (a ⊕ b) * 2 ≡ a * 2 ⊕ b * 2
unfolding xor
double_sum a b =
    let e = xor_block 1 a b 0 0 (lit< tt) (lit< tt) in
    omega (arith, e, ap₂ xor (plus-zero (a * 2)) (plus-zero (b * 2)))
  where
    plus-zero : (n : ℕ) → n + 0 ≡ n
    plus-zero n = omega arith

-- whatever is added for the bit that drops out
shift_sum : (k a b : ℕ) → (a ⊕ b) * 2 % 256 ⊕ bit 7 (a ⊕ b) * k ≡ (a * 2 % 256 ⊕ bit 7 a * k) ⊕ (b * 2 % 256 ⊕ bit 7 b * k)
shift_sum k a b =
    ap₂ (λ (u v : ℕ). u % 256 ⊕ v % 2 * k) (double_sum a b) (high a b 7)
    ∙ ap₂ (λ (u v : ℕ). u ⊕ v * k) (low (a * 2) (b * 2) 8) (low (a / 128) (b / 128) 1)
    ∙ ap (λ (v : ℕ). (a * 2 % 256 ⊕ b * 2 % 256) ⊕ v) (sum_times k (bit 7 a) (bit 7 b) (digit (a / 128)) (digit (b / 128)))
    ∙ middle (a * 2 % 256) (b * 2 % 256) (bit 7 a * k) (bit 7 b * k)

pub xtime_sum : (a b : ℕ) → xtime (a ⊕ b) ≡ xtime a ⊕ xtime b
unfolding xtime
xtime_sum a b = shift_sum _ a b

xtime-zero : xtime 0 ≡ 0
unfolding xtime xor
xtime-zero = refl

xtime_times : (a p : ℕ) → p < 2 → xtime (p * a) ≡ p * xtime a
xtime_times a = bits (λ p. xtime (p * a) ≡ p * xtime a) (simp (zero-mul, xtime-zero)) (simp one-mul)

pub xtime-byte : (a : ℕ) → xtime a < 256
unfolding xtime
xtime-byte a = xor_below 8 (omega arith) (omega arith)

-- ---- the product, over the number of bits

multiples-xtime : (n a b : ℕ) → xtime (multiples n a b) ≡ multiples n a (xtime b)
unfolding multiples
multiples-xtime zero a b = xtime-zero
multiples-xtime (suc n) a b =
    xtime_sum (a % 2 * b) (multiples n (a / 2) (xtime b))
    ∙ ap₂ xor (xtime_times b (a % 2) (digit a)) (multiples-xtime n (a / 2) (xtime b))

multiples_sum : (n a b c : ℕ) → multiples n (a ⊕ b) c ≡ multiples n a c ⊕ multiples n b c
unfolding multiples
multiples_sum zero a b c = sym (zero_l 0)
multiples_sum (suc n) a b c =
    ap₂ (λ (u v : ℕ). u * c ⊕ multiples n v (xtime c)) (low a b 1) (high a b 1)
    ∙ ap₂ xor (sum_times c (a % 2) (b % 2) (digit a) (digit b)) (multiples_sum n (a / 2) (b / 2) (xtime c))
    ∙ middle (a % 2 * c) (b % 2 * c) (multiples n (a / 2) (xtime c)) (multiples n (b / 2) (xtime c))

multiples-zero : (n b : ℕ) → multiples n 0 b ≡ 0
unfolding multiples
multiples-zero zero b = refl
multiples-zero (suc n) b = ap₂ xor (zero-mul b) (multiples-zero n (xtime b)) ∙ zero_l 0

-- bits above those of a add nothing
multiples_more : (n a b : ℕ) → a < 2 ^ n → multiples (suc n) a b ≡ multiples n a b
unfolding multiples
multiples_more zero a b h =
    let e : a % 2 ≡ 0 = omega arith in
    ap (λ (u : ℕ). u * b ⊕ 0) e ∙ zero_r (0 * b) ∙ zero-mul b
multiples_more (suc n) a b h =
    let p : 2 ^ suc n ≡ 2 ^ n * 2 = pow-suc 2 n in
    ap (xor (a % 2 * b)) (multiples_more n (a / 2) (xtime b) (omega arith))

multiples-byte : (n a b : ℕ) → b < 256 → multiples n a b < 256
unfolding multiples
multiples-byte zero a b h = lit< tt
multiples-byte (suc n) a b h =
    xor_below 8 (bits (λ p. p * b < 256) (rw zero-mul (lit< tt)) (rw one-mul h) (a % 2) (digit a)) (multiples-byte n (a / 2) (xtime b) (xtime-byte b))

-- ---- the product

pub product_byte : (a b : ℕ) → b < 256 → a • b < 256
unfolding ◌•◌
product_byte = multiples-byte 8

product_sum : (a b c : ℕ) → (a ⊕ b) • c ≡ a • c ⊕ b • c
unfolding ◌•◌
product_sum = multiples_sum 8

pub zero_product : (b : ℕ) → 0 • b ≡ 0
unfolding ◌•◌
zero_product = multiples-zero 8

pub one_product : (b : ℕ) → 1 • b ≡ b
unfolding ◌•◌ multiples
one_product b = ap₂ xor (one-mul b) (multiples-zero 7 (xtime b)) ∙ zero_r b

pub two_product : (b : ℕ) → 2 • b ≡ xtime b
unfolding ◌•◌ multiples
two_product b = ap₂ xor (zero-mul b) (ap₂ xor (one-mul (xtime b)) (multiples-zero 6 (xtime (xtime b))) ∙ zero_r (xtime b)) ∙ zero_l (xtime b)

pub three_product : (b : ℕ) → 3 • b ≡ xtime b ⊕ b
unfolding xor
three_product b = product_sum 2 1 b ∙ ap₂ xor (two_product b) (one_product b)

times_product : (a b p : ℕ) → p < 2 → p * (a • b) ≡ (p * a) • b
times_product a b = bits (λ p. p * (a • b) ≡ (p * a) • b) (simp (zero-mul, zero_product)) (simp one-mul)

-- ---- (x a) b is x (a b)

-- it is so of the seven low bits, which only move up
multiples_even : (n a b : ℕ) → multiples (suc n) (a * 2) b ≡ multiples n a (xtime b)
unfolding multiples
multiples_even n a b =
    let e : a * 2 % 2 ≡ 0 = omega arith in
    let f : a * 2 / 2 ≡ a = omega arith in
    ap₂ (λ (u v : ℕ). u * b ⊕ multiples n v (xtime b)) e f
    ∙ ap (λ (u : ℕ). u ⊕ multiples n a (xtime b)) (zero-mul b)
    ∙ zero_l (multiples n a (xtime b))

xtime-low : (a : ℕ) → a < 128 → xtime a ≡ a * 2
unfolding xtime
xtime-low a h =
    let e : a * 2 % 256 ≡ a * 2 = omega arith in
    let f : bit 7 a ≡ 0 = omega arith in
    rw (e, f, zero-mul) (zero_r (a * 2))

moves : (a b : ℕ) → a < 128 → xtime a • b ≡ xtime (a • b)
unfolding ◌•◌
moves a b h =
    ap (λ (u : ℕ). multiples 8 u b) (xtime-low a h)
    ∙ multiples_even 7 a b
    ∙ sym (multiples_more 7 a (xtime b) h)
    ∙ sym (multiples-xtime 8 a b)

-- and of the bit that drops out: at each byte, by one computed test
wraps : ℕ → Bool
wraps b = eqb (xtime 0x80 • b) (xtime (0x80 • b))

all_wrap : T (below wraps 256)
unfolding wraps ◌•◌ multiples xtime xor
all_wrap = tt

wrap : (b : ℕ) → b < 256 → xtime 0x80 • b ≡ xtime (0x80 • b)
unfolding wraps
wrap b h = eqb→eq (xtime 0x80 • b) (xtime (0x80 • b)) (at_below wraps 256 all_wrap b h)

splits : (n : ℕ) → n ≡ n / 128 * 128 ⊕ n % 128
unfolding xor
splits n =
    let e = xor_shifted (n / 128) 7 (n % 128) (omega arith) in
    omega (arith, e)

-- so it is so of a byte
product_xtime : (a b : ℕ) → a < 256 → b < 256 → xtime a • b ≡ xtime (a • b)
product_xtime a b ha hb =
    ap (λ (u : ℕ). xtime u • b) (splits a)
    ∙ ap (λ (u : ℕ). u • b) (xtime_sum (a / 128 * 128) (a % 128))
    ∙ product_sum (xtime (a / 128 * 128)) (xtime (a % 128)) b
    ∙ ap₂ xor (bits (λ p. xtime (p * 128) • b ≡ xtime ((p * 128) • b)) (moves 0 b (lit< tt)) (wrap b hb) (a / 128) (omega arith)) (moves (a % 128) b (omega arith))
    ∙ sym (xtime_sum ((a / 128 * 128) • b) ((a % 128) • b))
    ∙ ap xtime (sym (product_sum (a / 128 * 128) (a % 128) b) ∙ ap (λ (u : ℕ). u • b) (sym (splits a)))

multiples_product : (n a b c : ℕ) → b < 256 → c < 256 → multiples n a (b • c) ≡ multiples n a b • c
unfolding multiples
multiples_product zero a b c hb hc = sym (zero_product c)
multiples_product (suc n) a b c hb hc =
    ap₂ xor (times_product b c (a % 2) (digit a))
    (ap (multiples n (a / 2)) (sym (product_xtime b c hb hc)) ∙ multiples_product n (a / 2) (xtime b) c (xtime-byte b) hc)
    ∙ sym (product_sum (a % 2 * b) (multiples n (a / 2) (xtime b)) c)

pub product_assoc : (a b c : ℕ) → b < 256 → c < 256 → a • (b • c) ≡ (a • b) • c
unfolding ◌•◌
product_assoc = multiples_product 8
