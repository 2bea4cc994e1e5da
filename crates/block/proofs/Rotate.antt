-- A rotation swaps the low bits with the high ones, so it stays in its width, another rotation undoes it, and it goes by the bits of an XOR.
use mathlib.Core.Path.{◌≡◌, sym, ap, ap₂, ◌∙◌, subst}
use mathlib.Core.Logic.{◌⊎◌, inl, inr}
use Prim.Native.Nat.{ℕ, suc, ◌+◌, ◌-◌, ◌*◌, ◌/◌, ◌%◌, ◌^◌, ◌≤◌, ◌<◌}
use native.Mathlib.Nat.{mod-lt, sub-add_cancel, add-sub_cancel, mul-mod_left, add-zero, add_comm, pow-suc}
use native.Mathlib.Omega.{arith}
use native.Mathlib.Decide.{dec_le}
use lib.Arith.{digits_lt}
use lib.Pow.{pow_pos, pow-add, split, high, low, mod-pow-add, shl-shr, shr_lt}
use Rattle.block.specs.Words.{rotl, rotr, xor}
use Rattle.block.proofs.XorLaws.{joined, low as xor_low, high as xor-high}

-- the j low bits change place with the k bits above them
turn : ℕ → ℕ → ℕ → ℕ
turn j k x = (x % 2 ^ j) * 2 ^ k + x / 2 ^ j

turn_lt : (j k : ℕ) {x : ℕ} → x < 2 ^ (j + k) → turn j k x < 2 ^ (j + k)
unfolding turn
turn_lt j k {x} h =
    subst (λ (n : ℕ). (x % 2 ^ j) * 2 ^ k + x / 2 ^ j < n) (sym (pow-add 2 j k))
    (digits_lt (mod-lt x (pow_pos j)) (shr_lt k j (subst (λ (n : ℕ). x < 2 ^ n) (add_comm j k) h)))

turn-turn : (j k : ℕ) {x : ℕ} → x < 2 ^ (j + k) → turn k j (turn j k x) ≡ x
unfolding turn
turn-turn j k {x} h =
    let hi : x / 2 ^ j < 2 ^ k = shr_lt k j (subst (λ (n : ℕ). x < 2 ^ n) (add_comm j k) h) in
    ap₂ (λ (a b : ℕ). a * 2 ^ j + b) (low (x % 2 ^ j) k hi) (high (x % 2 ^ j) k hi) ∙ split x j

rotl-turn : (j k x : ℕ) → rotl (j + k) k x ≡ turn j k x
unfolding turn
rotl-turn j k x =
    ap₂ (λ (a b : ℕ). a + x / 2 ^ b)
    (mod-pow-add (x * 2 ^ k) j k
    ∙ ap₂ (λ (a b : ℕ). (a % 2 ^ j) * 2 ^ k + b) (shl-shr x k) (mul-mod_left x (2 ^ k))
    ∙ add-zero ((x % 2 ^ j) * 2 ^ k)) (add-sub_cancel j k)

rotl_is : (w k x : ℕ) → k ≤ w → rotl w k x ≡ turn (w - k) k x
rotl_is w k x h = ap (λ (n : ℕ). (x * 2 ^ k) % 2 ^ n + x / 2 ^ (n - k)) (sym (sub-add_cancel h)) ∙ rotl-turn (w - k) k x

pub rotl_lt : (w k : ℕ) {x : ℕ} → k ≤ w → x < 2 ^ w → rotl w k x < 2 ^ w
rotl_lt w k {x} h hx =
    subst (λ (n : ℕ). n < 2 ^ w) (sym (rotl_is w k x h))
    (subst (λ (n : ℕ). turn (w - k) k x < 2 ^ n) (sub-add_cancel h)
    (turn_lt (w - k) k (subst (λ (n : ℕ). x < 2 ^ n) (sym (sub-add_cancel h)) hx)))

-- rotating right by k undoes rotating left by k
pub rotr-rotl : (w k : ℕ) {x : ℕ} → k ≤ w → x < 2 ^ w → rotr w k (rotl w k x) ≡ x
rotr-rotl w k {x} h hx =
    rotl_is w (w - k) (rotl w k x) (omega arith)
    ∙ ap₂ (λ (j y : ℕ). turn j (w - k) y) (omega arith) (rotl_is w k x h)
    ∙ turn-turn (w - k) k (subst (λ (n : ℕ). x < 2 ^ n) (sym (sub-add_cancel h)) hx)

pub rotl_inj : (w k : ℕ) {x y : ℕ} → k ≤ w → x < 2 ^ w → y < 2 ^ w → rotl w k x ≡ rotl w k y → x ≡ y
rotl_inj w k {x} {y} h hx hy e = sym (rotr-rotl w k h hx) ∙ ap (rotr w k) e ∙ rotr-rotl w k h hy

-- ---- rotation and XOR

turn-xor : (j k : ℕ) {x y : ℕ} → x < 2 ^ (j + k) → y < 2 ^ (j + k) → turn j k (xor x y) ≡ xor (turn j k x) (turn j k y)
unfolding turn
turn-xor j k {x} {y} hx hy =
    let above : (z : ℕ) → z < 2 ^ (j + k) → z / 2 ^ j < 2 ^ k = λ z h. shr_lt k j (subst (λ (n : ℕ). z < 2 ^ n) (add_comm j k) h) in
    ap₂ (λ (a b : ℕ). a * 2 ^ k + b) (xor_low x y j) (xor-high x y j)
    ∙ sym (joined k (x % 2 ^ j) (x / 2 ^ j) (y % 2 ^ j) (y / 2 ^ j) (above x hx) (above y hy))

-- the XOR of two words, rotated, is the XOR of the rotated words
pub rotl-xor : (w k : ℕ) {x y : ℕ} → k ≤ w → x < 2 ^ w → y < 2 ^ w → rotl w k (xor x y) ≡ xor (rotl w k x) (rotl w k y)
rotl-xor w k {x} {y} h hx hy =
    let wide : (z : ℕ) → z < 2 ^ w → z < 2 ^ (w - k + k) = λ z hz. subst (λ (n : ℕ). z < 2 ^ n) (sym (sub-add_cancel h)) hz in
    rotl_is w k (xor x y) h
    ∙ turn-xor (w - k) k (wide x hx) (wide y hy)
    ∙ sym (ap₂ xor (rotl_is w k x h) (rotl_is w k y h))

-- ---- a rotation by one bit

one_right : (w x : ℕ) → 0 < w → rotr w 1 x ≡ x % 2 * 2 ^ (w - 1) + x / 2
unfolding turn
one_right w x h =
    let d : w - (w - 1) ≡ 1 = omega arith in
    rotl_is w (w - 1) x (omega arith) ∙ ap (λ (j : ℕ). turn j (w - 1) x) d

-- it keeps only the words all zeros and all ones: every bit is its neighbour's
pub one_right_keeps : (w x : ℕ) → 0 < w → rotr w 1 x ≡ x → (x ≡ 0) ⊎ (x + 1 ≡ 2 ^ w)
one_right_keeps w x h r =
    let p = 2 ^ (w - 1) in
    let e : x ≡ x % 2 * p + x / 2 = sym r ∙ one_right w x h in
    let s : w ≡ suc (w - 1) = omega arith in
    let q : 2 ^ w ≡ p * 2 = ap (λ (u : ℕ). 2 ^ u) s ∙ pow-suc 2 (w - 1) in
    elim (dec_le 1 (x % 2)) [
      | yes o ↦
          let b : x % 2 ≡ 1 = omega arith in
          let m : x % 2 * p ≡ 1 * p = ap (λ (u : ℕ). u * p) b in
          inr (omega arith)
      | no z ↦
          let b : x % 2 ≡ 0 = omega arith in
          let m : x % 2 * p ≡ 0 * p = ap (λ (u : ℕ). u * p) b in
          inl (omega arith)
    ]
