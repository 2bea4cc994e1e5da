-- Numbers and their bytes: each is read back from the other, one byte at a time.
use mathlib.Core.Path.{◌≡◌, refl, sym, ap, ap₂, ◌∙◌, subst}
use mathlib.Core.List.{List, [], ◌∷◌, ◌++◌}
use Prim.Native.Nat.{ℕ, zero, suc, ◌+◌, ◌*◌, ◌/◌, ◌%◌, ◌^◌, ◌≤◌, ◌<◌}
use native.Mathlib.Nat.{pow-succ', pow-suc, mod-lt, zero-lt-suc, mul_comm, mul_assoc, add_comm, div-add-mod'}
use native.Mathlib.Omega.{arith}
use lib.ListN.{length, take, drop, replicate}
use lib.Arith.{mod-mul}
use lib.Pow.{pow-add}
use Rattle.block.specs.Bytes.{AllBytes, value, bytes, part, word}
use Rattle.block.proofs.Lists.{all_tail, length_part, all_part, part-take}

pub value_lt : (l : List ℕ) → AllBytes l → value l < 256 ^ length l
unfolding value
value_lt [] h = omega arith
value_lt (b ∷ l) h =
    let p : 256 ^ suc (length l) ≡ 256 * 256 ^ length l = pow-succ' 256 (length l) in
    let q : value l < 256 ^ length l = value_lt l (all_tail b l h) in
    let r : b < 256 = h 0 in
    omega arith

pub length-bytes : (n x : ℕ) → length (bytes n x) ≡ n
unfolding bytes
length-bytes zero x = refl
length-bytes (suc n) x = ap suc (length-bytes n (x / 256))

pub all_bytes : (n x : ℕ) → AllBytes (bytes n x)
unfolding bytes
all_bytes zero x i = omega arith
all_bytes (suc n) x zero = mod-lt x (zero-lt-suc 255)
all_bytes (suc n) x (suc i) = all_bytes n (x / 256) i

-- a number is read back from its bytes
pub value-bytes : (n x : ℕ) → x < 256 ^ n → value (bytes n x) ≡ x
unfolding value bytes
value-bytes zero x h = omega arith
value-bytes (suc n) x h =
    let p : 256 ^ suc n ≡ 256 * 256 ^ n = pow-succ' 256 n in
    let e : value (bytes n (x / 256)) ≡ x / 256 = value-bytes n (x / 256) (omega arith) in
    omega arith

-- and bytes from their number
pub bytes-value : (l : List ℕ) → AllBytes l → bytes (length l) (value l) ≡ l
unfolding value bytes
bytes-value [] h = refl
bytes-value (b ∷ l) h =
    let r : b < 256 = h 0 in
    let m : (b + 256 * value l) % 256 ≡ b = omega arith in
    let d : (b + 256 * value l) / 256 ≡ value l = omega arith in
    ap₂ (λ (x y : ℕ). x ∷ bytes (length l) y) m d ∙ ap (λ (t : List ℕ). b ∷ t) (bytes-value l (all_tail b l h))

-- so a number is known by its bytes
pub bytes_inj : (n : ℕ) {x y : ℕ} → x < 256 ^ n → y < 256 ^ n → bytes n x ≡ bytes n y → x ≡ y
bytes_inj n {x} {y} hx hy e = sym (value-bytes n x hx) ∙ ap value e ∙ value-bytes n y hy

-- the number 0, and the greatest number of n bytes
pub bytes-zeros : (n : ℕ) → bytes n 0 ≡ replicate n 0
unfolding bytes
bytes-zeros zero = refl
bytes-zeros (suc n) = ap (λ (l : List ℕ). 0 ∷ l) (bytes-zeros n)

pub bytes-ones : (n x : ℕ) → x + 1 ≡ 256 ^ n → bytes n x ≡ replicate n 0xff
unfolding bytes
bytes-ones zero x e = refl
bytes-ones (suc n) x e =
    let p : 256 ^ suc n ≡ 256 * 256 ^ n = pow-succ' 256 n in
    let m : x % 256 ≡ 255 = omega arith in
    ap₂ (λ (b : ℕ) (l : List ℕ). b ∷ l) m (bytes-ones n (x / 256) (omega arith))

-- n bytes reach as far as 8 n bits
pub reach : (n : ℕ) → 256 ^ n ≡ 2 ^ (8 * n)
reach zero = refl
reach (suc n) =
    let e : 8 * suc n ≡ 8 * n + 8 = omega arith in
    pow-suc 256 n ∙ ap (λ (m : ℕ). m * 256) (reach n) ∙ sym (ap (λ (m : ℕ). 2 ^ m) e ∙ pow-add 2 (8 * n) 8)

-- ---- the word at a place of a list

pub word_lt : (n : ℕ) (l : List ℕ) (i : ℕ) → AllBytes l → word n l i < 256 ^ n
word_lt n l i h = subst (λ (k : ℕ). word n l i < 256 ^ k) (length_part n l i) (value_lt (part n l i) (all_part n l i h))

-- the bytes of a word that was read are the bytes that it was read from
pub unpack : (n : ℕ) (l : List ℕ) (i : ℕ) → AllBytes l → i + n ≤ length l → bytes n (word n l i) ≡ take n (drop i l)
unpack n l i h k =
    ap (λ (j : ℕ). bytes j (word n l i)) (sym (length_part n l i)) ∙ bytes-value (part n l i) (all_part n l i h) ∙ part-take n l i k

-- ---- words side by side

pow_pos : (k : ℕ) → 0 < 256 ^ k
pow_pos zero = omega arith
pow_pos (suc k) =
    let p : 256 ^ suc k ≡ 256 ^ k * 256 = pow-suc 256 k in
    omega (arith, pow_pos k)

swap_out : (p y : ℕ) → p * 256 * y ≡ 256 * (p * y)
swap_out p y = ap (λ (v : ℕ). v * y) (mul_comm p 256) ∙ mul_assoc 256 p y

rejoin : (x c : ℕ) → x % c + c * (x / c) ≡ x
rejoin x c = add_comm (x % c) (c * (x / c)) ∙ ap (λ (v : ℕ). v + x % c) (mul_comm c (x / c)) ∙ div-add-mod' x c

-- x in the k low bytes, y in the j bytes above
pub bytes-join : (k j x y : ℕ) → x < 256 ^ k → bytes (k + j) (x + 256 ^ k * y) ≡ bytes k x ++ bytes j y
unfolding bytes
bytes-join zero j x y h =
    let e : x + 256 ^ 0 * y ≡ y = omega arith in
    let z : 0 + j ≡ j = omega arith in
    ap₂ (λ (i v : ℕ). bytes i v) z e
bytes-join (suc k) j x y h =
    let p : 256 ^ suc k ≡ 256 ^ k * 256 = pow-suc 256 k in
    let q = 256 ^ k * y in
    let s : suc k + j ≡ suc (k + j) = omega arith in
    let t : x + 256 ^ suc k * y ≡ x + 256 * q = ap (λ (v : ℕ). x + v * y) p ∙ ap (λ (v : ℕ). x + v) (swap_out (256 ^ k) y) in
    let m : (x + 256 * q) % 256 ≡ x % 256 = omega arith in
    let d : (x + 256 * q) / 256 ≡ x / 256 + q = omega arith in
    ap₂ (λ (i v : ℕ). bytes i v) s t
    ∙ ap₂ (λ (b v : ℕ). b ∷ bytes (k + j) v) m d
    ∙ ap (λ (l : List ℕ). (x % 256) ∷ l) (bytes-join k j (x / 256) y (omega arith))

-- the low bytes know the number only below their reach
pub bytes_mod : (k x : ℕ) → bytes k (x % 256 ^ k) ≡ bytes k x
unfolding bytes
bytes_mod zero x = refl
bytes_mod (suc k) x =
    let p : x % 256 ^ suc k ≡ (x / 256 % 256 ^ k) * 256 + x % 256 = ap (λ (v : ℕ). x % v) (pow-suc 256 k) ∙ mod-mul x (pow_pos k) (zero-lt-suc 255) in
    let m : (x % 256 ^ suc k) % 256 ≡ x % 256 = omega arith in
    let d : (x % 256 ^ suc k) / 256 ≡ x / 256 % 256 ^ k = omega arith in
    ap₂ (λ (b v : ℕ). b ∷ bytes k v) m d ∙ ap (λ (l : List ℕ). (x % 256) ∷ l) (bytes_mod k (x / 256))

pub bytes-split : (k j x : ℕ) → bytes (k + j) x ≡ bytes k x ++ bytes j (x / 256 ^ k)
bytes-split k j x =
    ap (bytes (k + j)) (sym (rejoin x (256 ^ k)))
    ∙ bytes-join k j (x % 256 ^ k) (x / 256 ^ k) (mod-lt x (pow_pos k))
    ∙ ap (λ (l : List ℕ). l ++ bytes j (x / 256 ^ k)) (bytes_mod k x)

pub value_low : (k x : ℕ) → value (bytes k x) ≡ x % 256 ^ k
value_low k x = ap value (sym (bytes_mod k x)) ∙ value-bytes k (x % 256 ^ k) (mod-lt x (pow_pos k))
