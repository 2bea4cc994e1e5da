-- Doubling each byte of a word at once: a mask keeps the bits that stay within their byte, so no byte runs into the next.
use mathlib.Core.Path.{◌≡◌, refl, sym, ap, ap₂, ◌∙◌, subst}
use mathlib.Core.List.{List, [], ◌∷◌, map}
use Prim.Native.Nat.{ℕ, zero, suc, ◌+◌, ◌-◌, ◌*◌, ◌/◌, ◌%◌, ◌^◌, ◌<◌}
use native.Mathlib.Nat.{zero-mul, add-mul, mul_assoc}
use native.Mathlib.Omega.{arith}
use lib.Dec.{lit<}
use lib.Bits.{bit_and, and_mod, and_shr, and_mask, and_le_r}
use lib.ListN.{length, length-map}
use Rattle.block.specs.Words.{xor}
use Rattle.block.specs.Bytes.{AllBytes, value, bytes}
use Rattle.block.specs.Xors.{xors}
use Rattle.block.proofs.Bytes.{value-bytes, bytes-value, length-bytes, bytes_mod}
use Rattle.block.proofs.Xors.{bytes-xor}
use Rattle.block.proofs.Lists.{all_nil, all_cons}
use Rattle.aes_spec.specs.Field.{xtime}

-- ---- a mask

-- m in each of n bytes
repeated : ℕ → ℕ → ℕ
repeated zero m = 0
repeated (suc n) m = m + 256 * repeated n m

-- 2 ^ k - 1 keeps the k low bits of each byte
masked : (n k x : ℕ) → 2 ^ k - 1 < 256 → bytes n (bit_and x (repeated n (2 ^ k - 1))) ≡ map (λ b. b % 2 ^ k) (bytes n x)
unfolding bytes repeated
masked zero k x h = refl
masked (suc n) k x h =
    let m = 2 ^ k - 1 in
    let r = repeated n m in
    let e : (m + 256 * r) % 256 ≡ m = omega arith in
    let f : (m + 256 * r) / 256 ≡ r = omega arith in
    ap₂ (λ (u v : ℕ). u ∷ bytes n v)
    (and_mod x (m + 256 * r) 8 ∙ ap (bit_and (x % 256)) e ∙ and_mask (x % 256) k)
    (and_shr x (m + 256 * r) 8 ∙ ap (bit_and (x / 256)) f)
    ∙ ap (λ (l : List ℕ). (x % 256 % 2 ^ k) ∷ l) (masked n k (x / 256) h)

-- ---- each byte times k

value_times : (k : ℕ) (f : ℕ → ℕ) (l : List ℕ) → value (map (λ b. f b * k) l) ≡ value (map f l) * k
unfolding value
value_times k f [] = sym (zero-mul k)
value_times k f (b ∷ l) =
    let v = value (map f l) in
    ap (λ (u : ℕ). f b * k + 256 * u) (value_times k f l)
    ∙ ap (λ (u : ℕ). f b * k + u) (sym (mul_assoc 256 v k))
    ∙ sym (add-mul (f b) (256 * v) k)

all_map : (f : ℕ → ℕ) → ((b : ℕ) → f b < 256) → (l : List ℕ) → AllBytes (map f l)
all_map f h [] = all_nil
all_map f h (b ∷ l) = all_cons (f b) (map f l) (h b) (all_map f h l)

bytes_times : (n k x : ℕ) (f : ℕ → ℕ) (l : List ℕ) → x < 256 ^ n → ((b : ℕ) → f b * k < 256) → bytes n x ≡ map f l
    → bytes n (x * k) ≡ map (λ b. f b * k) l
bytes_times n k x f l h small e =
    let m = map (λ b. f b * k) l in
    let c : length m ≡ n = length-map l (λ b. f b * k) ∙ sym (length-map l f) ∙ sym (ap length e) ∙ length-bytes n x in
    ap (λ (v : ℕ). bytes n (v * k)) (sym (value-bytes n x h) ∙ ap value e)
    ∙ ap (bytes n) (sym (value_times k f l))
    ∙ subst (λ (i : ℕ). bytes i (value m) ≡ m) c (bytes-value m (all_map (λ b. f b * k) small l))

-- ---- the two halves of xtime

moved_up : (b : ℕ) → b % 128 * 2 ≡ b * 2 % 256
moved_up b = omega arith

dropped : (x : ℕ) → x / 128 % 256 % 2 ≡ x % 256 / 128 % 2
dropped x =
    let e : x / 128 % 256 % 2 ≡ x / 128 % 2 = omega arith in
    let f : x % 256 / 128 ≡ x / 128 % 2 = omega arith in
    omega arith

past : (x : ℕ) → x / 128 / 256 ≡ x / 256 / 128
past x = omega arith

xtime_halves : (n x : ℕ) → xors (map (λ b. b % 128 * 2) (bytes n x)) (map (λ b. b % 2 * 0x1b) (bytes n (x / 128))) ≡ map xtime (bytes n x)
unfolding bytes xtime
xtime_halves zero x = refl
xtime_halves (suc n) x =
    let low = map (λ b. b % 128 * 2) (bytes n (x / 256)) in
    let high : ℕ → List ℕ = λ v. map (λ b. b % 2 * 0x1b) (bytes n v) in
    ap₂ (λ (u v : ℕ). xor u (v * 0x1b) ∷ xors low (high (x / 128 / 256))) (moved_up (x % 256)) (dropped x)
    ∙ ap (λ (v : ℕ). xtime (x % 256) ∷ xors low (high v)) (past x)
    ∙ ap (λ (l : List ℕ). xtime (x % 256) ∷ l) (xtime_halves n (x / 256))

pub doubled : (x : ℕ) → bytes 4 (xor (bit_and x 0x7f7f7f7f * 2 % 0x100000000) (bit_and (x / 128) 0x01010101 * 0x1b)) ≡ map xtime (bytes 4 x)
unfolding repeated
doubled x =
    let u = bit_and x 0x7f7f7f7f in
    let v = bit_and (x / 128) 0x01010101 in
    let hu : u < 256 ^ 4 = omega (arith, and_le_r x 0x7f7f7f7f) in
    let hv : v < 256 ^ 4 = omega (arith, and_le_r (x / 128) 0x01010101) in
    bytes-xor 4 (u * 2 % 0x100000000) (v * 0x1b)
    ∙ ap₂ xors
    (bytes_mod 4 (u * 2) ∙ bytes_times 4 2 u (λ b. b % 128) (bytes 4 x) hu (λ b. omega arith) (masked 4 7 x (lit< tt)))
    (bytes_times 4 0x1b v (λ b. b % 2) (bytes 4 (x / 128)) hv (λ b. omega arith) (masked 4 1 (x / 128) (lit< tt)))
    ∙ xtime_halves 4 x
