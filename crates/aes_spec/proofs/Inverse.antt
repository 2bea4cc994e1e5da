-- Every byte has one inverse: x^254 is one, by one computed test over the bytes, and by associativity there is no other.
use mathlib.Core.Path.{◌≡◌, refl, sym, ap, ◌∙◌, subst}
use mathlib.Core.Bool.{Bool, true, false, cond}
use mathlib.Core.Logic.{⊎_elim}
use Prim.Native.Nat.{ℕ, zero, suc, ◌<◌}
use native.Mathlib.Nat.{suc-ne-zero, not-suc-le-zero, le_of_suc-le-suc, eq-or-lt_of_le}
use native.Mathlib.Omega.{arith}
use lib.Dec.{T, eqb, eqb→eq, ltb, ltb→lt, lit<}
use Rattle.block.specs.Words.{xor}
use Rattle.block.proofs.Table.{both, both_left, both_right, below, at_below}
use Rattle.aes_spec.specs.Field.{xtime, multiples, ◌•◌, IsInverse, find, inverse}
use Rattle.aes_spec.proofs.Field.{one_product, product_assoc}

-- ---- what find finds

find_passes : (p : ℕ → Bool) (n k : ℕ) → k < n → T (p k) → T (p (find p n))
unfolding find
find_passes p zero k h t = absurd (not-suc-le-zero h)
find_passes p (suc n) k h t =
    go (p n) refl (⊎_elim (λ e f. absurd (subst T (ap p e ∙ f) t)) (λ l f. find_passes p n k l t) (eq-or-lt_of_le (le_of_suc-le-suc h)))
  where
    go : (b : Bool) → p n ≡ b → (p n ≡ false → T (p (find p n))) → T (p (cond b n (find p n)))
    go true e rest = subst T (sym e) tt
    go false e rest = rest e

find_below : (p : ℕ → Bool) (n : ℕ) → 0 < n → find p n < n
unfolding find
find_below p zero h = h
find_below p (suc zero) h = go (p 0)
  where
    go : (b : Bool) → cond b 0 0 < 1
    go true = lit< tt
    go false = lit< tt
find_below p (suc (suc n)) h = go (p (suc n)) (find_below p (suc n) (omega arith))
  where
    go : (b : Bool) → find p (suc n) < suc n → cond b (suc n) (find p (suc n)) < suc (suc n)
    go true k = omega arith
    go false k = omega arith

-- ---- x^254

-- s, s^2, s^4, .., n of them, multiplied
squares : ℕ → ℕ → ℕ
squares zero s = 1
squares (suc n) s = s • squares n (s • s)

-- x^254 is x^2 x^4 .. x^128
power254 : ℕ → ℕ
power254 x = squares 7 (x • x)

-- y is the inverse of x: as a test
abbrev pub inverts : ℕ → ℕ → Bool
inverts zero y = eqb y 0
inverts (suc x) y = both (ltb y 256) (eqb (suc x • y) 1)

pub inverse_told : (x y : ℕ) → T (inverts x y) → IsInverse x y
inverse_told zero y t =
    let e : y ≡ 0 = eqb→eq y 0 t in
    record { byte = omega arith; one = λ p. omega arith; none = λ z. e }
inverse_told (suc x) y t =
    record {
      byte = ltb→lt y 256 (both_left (ltb y 256) (eqb (suc x • y) 1) t);
      one = λ p. eqb→eq (suc x • y) 1 (both_right (ltb y 256) (eqb (suc x • y) 1) t);
      none = λ e. omega arith;
    }

-- x^254 is the inverse of x, and x of x^254
mutually : ℕ → Bool
mutually x = both (inverts x (power254 x)) (inverts (power254 x) x)

all_mutually : T (below mutually 256)
unfolding mutually power254 squares ◌•◌ multiples xtime xor
all_mutually = tt

power_is : (x : ℕ) → x < 256 → IsInverse x (power254 x)
unfolding mutually
power_is x h = inverse_told x (power254 x) (both_left (inverts x (power254 x)) _ (at_below mutually 256 all_mutually x h))

power_back : (x : ℕ) → x < 256 → IsInverse (power254 x) x
unfolding mutually
power_back x h = inverse_told (power254 x) x (both_right (inverts x (power254 x)) _ (at_below mutually 256 all_mutually x h))

-- ---- no other

same : ℕ → Bool
same x = eqb (x • 1) x

all_same : T (below same 256)
unfolding same ◌•◌ multiples xtime xor
all_same = tt

product_one : (x : ℕ) → x < 256 → x • 1 ≡ x
unfolding same
product_one x h = eqb→eq (x • 1) x (at_below same 256 all_same x h)

power-left : (x : ℕ) → suc x < 256 → power254 (suc x) • suc x ≡ 1
power-left x h = (power_back (suc x) h).one (positive (power254 (suc x)) (λ e. suc-ne-zero x ((power_back (suc x) h).none e)))
  where
    positive : (p : ℕ) → (p ≡ 0 → ⊥) → 0 < p
    positive zero f = absurd (f refl)
    positive (suc p) f = omega arith

-- y = 1 y = (x^254 x) y = x^254 (x y) = x^254 1
power-only : (x y : ℕ) → x < 256 → IsInverse x y → y ≡ power254 x
power-only zero y h i = i.none refl ∙ sym ((power_is zero h).none refl)
power-only (suc x) y h i =
    sym (one_product y)
    ∙ ap (λ (u : ℕ). u • y) (sym (power-left x h))
    ∙ sym (product_assoc (power254 (suc x)) (suc x) y h i.byte)
    ∙ ap (λ (u : ℕ). power254 (suc x) • u) (i.one (omega arith))
    ∙ product_one (power254 (suc x)) (power_is (suc x) h).byte

-- ---- the inverse that is found

inverse_right : (x : ℕ) → x < 256 → 0 < x → x • inverse x ≡ 1
unfolding inverse
inverse_right x h p =
    eqb→eq (x • find (λ y. eqb (x • y) 1) 256) 1
    (find_passes (λ y. eqb (x • y) 1) 256 (power254 x) (power_is x h).byte (subst (λ (u : ℕ). T (eqb u 1)) (sym ((power_is x h).one p)) tt))

inverse-zero : inverse 0 ≡ 0
unfolding inverse find ◌•◌ multiples xtime xor
inverse-zero = refl

-- it is the inverse
pub inverse_is : (x : ℕ) → x < 256 → IsInverse x (inverse x)
unfolding inverse
inverse_is x h =
    record { byte = find_below (λ y. eqb (x • y) 1) 256 (lit< tt); one = inverse_right x h; none = λ e. ap inverse e ∙ inverse-zero }

-- and there is no other
pub inverse-only : (x y : ℕ) → x < 256 → IsInverse x y → y ≡ inverse x
inverse-only x y h i = power-only x y h i ∙ sym (power-only x (inverse x) h (inverse_is x h))

-- the inverse of the inverse
pub inverse-twice : (x : ℕ) → x < 256 → x ≡ inverse (inverse x)
inverse-twice x h =
    inverse-only (inverse x) x (inverse_is x h).byte
    (subst (λ (u : ℕ). IsInverse u x) (sym (power-only x (inverse x) h (inverse_is x h))) (power_back x h))
