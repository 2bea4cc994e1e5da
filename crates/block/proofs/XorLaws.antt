-- Exclusive or is associative and commutative, cancels, and stays within its width: digit by digit, by induction on the halves.
use mathlib.Core.Path.{◌≡◌, refl, sym, ap, ap₂, ◌∙◌}
use Prim.Native.Nat.{ℕ, zero, suc, ◌+◌, ◌-◌, ◌*◌, ◌/◌, ◌%◌, ◌^◌, ◌<◌}
use native.Mathlib.Nat.{not-suc-le-zero, le_of_suc-le-suc, mod-eq_of_lt}
use native.Mathlib.Omega.{arith}
use lib.Bits.{bit_xor, bit_and, bit_or, and_mask, and_le_l, and_le_r, or_add_and, xor_add_and, differ, xor_step, xor_shr, xor_mod, xor_comm, xor_self, xor_zero_l, xor_zero_r, xor_lt}
use lib.Arith.{bin_ind}
use lib.Pow.{split, high as high_part, low as low_part}
use Rattle.block.specs.Words.{xor}

past_two : (n : ℕ) → suc (suc n) < 2 → ⊥
past_two n h = not-suc-le-zero (le_of_suc-le-suc (le_of_suc-le-suc h))

digits_assoc : (x y z : ℕ) → x < 2 → y < 2 → z < 2 → differ (bit_xor x y) z ≡ differ x (bit_xor y z)
digits_assoc zero zero z hx hy hz = refl
digits_assoc zero (suc zero) zero hx hy hz = refl
digits_assoc zero (suc zero) (suc zero) hx hy hz = refl
digits_assoc zero (suc zero) (suc (suc z)) hx hy hz = absurd (past_two z hz)
digits_assoc zero (suc (suc y)) z hx hy hz = absurd (past_two y hy)
digits_assoc (suc zero) zero zero hx hy hz = refl
digits_assoc (suc zero) zero (suc zero) hx hy hz = refl
digits_assoc (suc zero) zero (suc (suc z)) hx hy hz = absurd (past_two z hz)
digits_assoc (suc zero) (suc zero) zero hx hy hz = refl
digits_assoc (suc zero) (suc zero) (suc zero) hx hy hz = refl
digits_assoc (suc zero) (suc zero) (suc (suc z)) hx hy hz = absurd (past_two z hz)
digits_assoc (suc zero) (suc (suc y)) z hx hy hz = absurd (past_two y hy)
digits_assoc (suc (suc x)) y z hx hy hz = absurd (past_two x hx)

digit : (n : ℕ) → n % 2 < 2
digit n = omega arith

bits_assoc : (a b c : ℕ) → bit_xor (bit_xor a b) c ≡ bit_xor a (bit_xor b c)
bits_assoc a =
    bin_ind (λ (n : ℕ). (b c : ℕ) → bit_xor (bit_xor n b) c ≡ bit_xor n (bit_xor b c)) (λ b c. refl)
    (λ n ih b c.
    xor_step (bit_xor n b) c
    ∙ ap₂ (λ (x y : ℕ). bit_xor x (c / 2) * 2 + differ y (c % 2)) (xor_shr n b 1) (xor_mod n b 1)
    ∙ ap₂ (λ (x y : ℕ). x * 2 + y) (ih (b / 2) (c / 2)) (digits_assoc (n % 2) (b % 2) (c % 2) (digit n) (digit b) (digit c))
    ∙ ap₂ (λ (x y : ℕ). bit_xor (n / 2) x * 2 + differ (n % 2) y) (sym (xor_shr b c 1)) (sym (xor_mod b c 1))
    ∙ sym (xor_step n (bit_xor b c))) a

pub assoc : (a b c : ℕ) → xor (xor a b) c ≡ xor a (xor b c)
unfolding xor
assoc = bits_assoc

pub comm : (a b : ℕ) → xor a b ≡ xor b a
unfolding xor
comm = xor_comm

pub self : (a : ℕ) → xor a a ≡ 0
unfolding xor
self = xor_self

-- numbers whose differences, gathered, are none
pub none_gathered : (a b c d : ℕ) → bit_or (xor a c) (xor b d) ≡ 0 → (a ≡ c) × (b ≡ d)
unfolding xor
none_gathered a b c d e =
    let x = bit_xor a c in
    let y = bit_xor b d in
    let ex : x ≡ 0 = omega (arith, or_add_and x y, and_le_l x y, and_le_r x y) in
    let ey : y ≡ 0 = omega (arith, or_add_and x y, and_le_l x y, and_le_r x y) in
    (omega (arith, xor_add_and a c, and_le_l a c, and_le_r a c), omega (arith, xor_add_and b d, and_le_l b d, and_le_r b d))

pub zero_l : (a : ℕ) → xor 0 a ≡ a
unfolding xor
zero_l = xor_zero_l

pub zero_r : (a : ℕ) → xor a 0 ≡ a
unfolding xor
zero_r = xor_zero_r

pub below : (w : ℕ) {a b : ℕ} → a < 2 ^ w → b < 2 ^ w → xor a b < 2 ^ w
unfolding xor
below w {a} {b} ha hb = xor_lt w a b ha hb

-- a mask that is put on twice is off again
pub twice : (a b : ℕ) → xor a (xor a b) ≡ b
twice a b = sym (assoc a a b) ∙ ap (λ (x : ℕ). xor x b) (self a) ∙ zero_l b

pub cancel_l : (a : ℕ) {b c : ℕ} → xor a b ≡ xor a c → b ≡ c
cancel_l a {b} {c} e = sym (twice a b) ∙ ap (xor a) e ∙ twice a c

pub cancel_r : (a : ℕ) {b c : ℕ} → xor b a ≡ xor c a → b ≡ c
cancel_r a {b} {c} e = cancel_l a (comm a b ∙ e ∙ comm c a)

pub left_comm : (a b c : ℕ) → xor a (xor b c) ≡ xor b (xor a c)
left_comm a b c = sym (assoc a b c) ∙ ap (λ (x : ℕ). xor x c) (comm a b) ∙ assoc b a c

pub middle : (a b c d : ℕ) → xor (xor a b) (xor c d) ≡ xor (xor a c) (xor b d)
middle a b c d = assoc a b (xor c d) ∙ ap (xor a) (left_comm b c d) ∙ sym (assoc a c (xor b d))

-- the low k bits, and the bits above them, go by themselves
pub low : (a b k : ℕ) → xor a b % 2 ^ k ≡ xor (a % 2 ^ k) (b % 2 ^ k)
unfolding xor
low a b k = xor_mod a b k

pub high : (a b k : ℕ) → xor a b / 2 ^ k ≡ xor (a / 2 ^ k) (b / 2 ^ k)
unfolding xor
high a b k = xor_shr a b k

-- so the XOR of two numbers that are made of parts is made of the XORs of the parts
pub joined : (k a b c d : ℕ) → b < 2 ^ k → d < 2 ^ k → xor (a * 2 ^ k + b) (c * 2 ^ k + d) ≡ xor a c * 2 ^ k + xor b d
joined k a b c d hb hd =
    let x = a * 2 ^ k + b in
    let y = c * 2 ^ k + d in
    sym (split (xor x y) k)
    ∙ ap₂ (λ (u v : ℕ). u * 2 ^ k + v)
    (high x y k ∙ ap₂ xor (high_part a k hb) (high_part c k hd))
    (low x y k ∙ ap₂ xor (low_part a k hb) (low_part c k hd))

-- a byte XOR all ones has every bit turned over
pub ones : (a : ℕ) → a < 256 → xor a 0xff ≡ 255 - a
unfolding xor
ones a h =
    let m : bit_and a 0xff ≡ a = and_mask a 8 ∙ mod-eq_of_lt h in
    let s : bit_xor a 0xff + bit_and a 0xff * 2 ≡ a + 0xff = xor_add_and a 0xff in
    omega arith
