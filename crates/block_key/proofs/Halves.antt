-- Doubling on two halves of 64 bits: p comes in as often as a bit drops out, once or not at all, so no test is needed; in 120
-- bits the bit that the low half drops enters the high one, and p stays in the low half.
use mathlib.Core.Path.{◌≡◌, sym, ap, ap₂, ◌∙◌}
use mathlib.Core.Bool.{Bool, true, false, cond}
use Prim.Native.Nat.{ℕ, ◌+◌, ◌-◌, ◌*◌, ◌/◌, ◌%◌, ◌^◌, ◌<◌}
use native.Mathlib.Omega.{arith}
use native.Mathlib.Decide.{dec_le}
use borrow.Author.Tests.{le-leb, lt-leb}
use mathlib.Core.List.{List, ◌++◌, append_assoc}
use lib.ListN.{length, take, drop, length-append}
use lib.Seq.{take_at, drop_at}
use lib.Dec.{leb}
use Rattle.block.specs.Words.{xor}
use Rattle.block.specs.Bytes.{value, bytes}
use Rattle.block.proofs.XorLaws.{zero_r, low, high}
use Rattle.block.proofs.Bytes.{length-bytes, value-bytes, bytes-join, bytes_mod, bytes-split}
use Rattle.cipher.specs.Cipher.{one, two}
use Rattle.mode.specs.Words.{double, double120, double_by}
use Rattle.mode.specs.Keys.{doubled, on_low}

-- b is the bit that drops out
by_bit : (w p x b : ℕ) (t : Bool) → leb (2 ^ (w - 1)) x ≡ t → b ≡ cond t 1 0 → xor (x * 2 % 2 ^ w) (b * p) ≡ double_by w p x
unfolding double_by
by_bit w p x b true e q =
    let r : b * p ≡ p = ap (λ (c : ℕ). c * p) q ∙ omega arith in
    ap (xor (x * 2 % 2 ^ w)) r ∙ sym (ap (λ (t : Bool). cond t (xor (x * 2 % 2 ^ w) p) (x * 2 % 2 ^ w)) e)
by_bit w p x b false e q =
    let r : b * p ≡ 0 = ap (λ (c : ℕ). c * p) q ∙ omega arith in
    ap (xor (x * 2 % 2 ^ w)) r ∙ zero_r (x * 2 % 2 ^ w) ∙ sym (ap (λ (t : Bool). cond t (xor (x * 2 % 2 ^ w) p) (x * 2 % 2 ^ w)) e)

-- ---- 64 bits

pub double_is : (x : ℕ) → x < 2 ^ 64 → xor (x * 2 % 2 ^ 64) (x / 2 ^ 63 * 0x1b) ≡ double x
double_is x h =
    elim (dec_le (2 ^ 63) x) [
      | yes k ↦ by_bit 64 0x1b x (x / 2 ^ 63) true (le-leb (2 ^ 63) x k) (omega arith)
      | no k ↦ by_bit 64 0x1b x (x / 2 ^ 63) false (lt-leb (2 ^ 63) x (omega arith)) (omega arith)
    ]

-- the low half doubled
pub double-low : (a b : ℕ) → a < 2 ^ 64 → bytes 8 (double a) ++ bytes 8 b ≡ doubled one (bytes 8 a ++ bytes 8 b)
unfolding on_low
double-low a b h =
    let t : take 8 (bytes 8 a ++ bytes 8 b) ≡ bytes 8 a = take_at (bytes 8 a) (bytes 8 b) 8 (length-bytes 8 a) in
    let d : drop 8 (bytes 8 a ++ bytes 8 b) ≡ bytes 8 b = drop_at (bytes 8 a) (bytes 8 b) 8 (length-bytes 8 a) in
    sym (ap₂ (λ (x y : List ℕ). bytes 8 (double (value x)) ++ y) t d ∙ ap (λ (v : ℕ). bytes 8 (double v) ++ bytes 8 b) (value-bytes 8 a h))

-- ---- 120 bits

double120_is : (x : ℕ) → x < 2 ^ 120 → xor (x * 2 % 2 ^ 120) (x / 2 ^ 119 * 0x245) ≡ double120 x
double120_is x h =
    elim (dec_le (2 ^ 119) x) [
      | yes k ↦ by_bit 120 0x245 x (x / 2 ^ 119) true (le-leb (2 ^ 119) x k) (omega arith)
      | no k ↦ by_bit 120 0x245 x (x / 2 ^ 119) false (lt-leb (2 ^ 119) x (omega arith)) (omega arith)
    ]

mod_of : (r q : ℕ) → r < 2 ^ 120 → (r + 2 ^ 120 * q) % 2 ^ 120 ≡ r
mod_of r q h = omega arith

-- the parts of twice a + 2^64 h: what stays in the low half, what stands in the high one, and the bit that drops out
module _ (a h : ℕ) (ha : a < 2 ^ 64) (hh : h < 2 ^ 56) where
  abbrev lower : ℕ
  lower = a * 2 % 2 ^ 64

  abbrev upper : ℕ
  upper = h % 2 ^ 55 * 2 + a / 2 ^ 63

  upper_fits : upper < 2 ^ 56
  upper_fits = omega arith

  doubled-parts : (a + 2 ^ 64 * h) * 2 ≡ lower + 2 ^ 64 * upper + 2 ^ 120 * (h / 2 ^ 55)
  doubled-parts =
      let p : a * 2 ≡ lower + 2 ^ 64 * (a / 2 ^ 63) = omega arith in
      let q : h ≡ h % 2 ^ 55 + 2 ^ 55 * (h / 2 ^ 55) = omega arith in
      omega arith

  twice-low : (a + 2 ^ 64 * h) * 2 % 2 ^ 120 ≡ lower + 2 ^ 64 * upper
  twice-low =
      let l : lower < 2 ^ 64 = omega arith in
      let f : lower + 2 ^ 64 * upper < 2 ^ 120 = omega (arith, upper_fits) in
      ap (λ (x : ℕ). x % 2 ^ 120) doubled-parts ∙ mod_of (lower + 2 ^ 64 * upper) (h / 2 ^ 55) f

  twice-top : (a + 2 ^ 64 * h) / 2 ^ 119 ≡ h / 2 ^ 55
  twice-top = omega arith

sum_fits : (u t : ℕ) → u < 2 ^ 56 → t < 2 ^ 8 → u + t * 2 ^ 56 < 2 ^ 64
sum_fits u t hu ht = omega arith

cut_low : (l u : ℕ) → l < 2 ^ 64 → (l + 2 ^ 64 * u) % 2 ^ 64 ≡ l
cut_low l u h = omega arith

cut_high : (l u : ℕ) → l < 2 ^ 64 → (l + 2 ^ 64 * u) / 2 ^ 64 ≡ u
cut_high l u h = omega arith

small : (k : ℕ) → k < 2 ^ 64 → (k % 2 ^ 64 ≡ k) × (k / 2 ^ 64 ≡ 0)
small k h = (omega arith, omega arith)

pair_fits : (a h : ℕ) → a < 2 ^ 64 → h < 2 ^ 56 → a + 2 ^ 64 * h < 2 ^ 120
pair_fits a h ha hh = omega arith

wide_fits : (a b : ℕ) → a < 2 ^ 64 → b < 2 ^ 64 → b % 2 ^ 56 % 2 ^ 55 * 2 + a / 2 ^ 63 + b / 2 ^ 56 * 2 ^ 56 < 2 ^ 64
wide_fits a b ha hb = sum_fits (b % 2 ^ 56 % 2 ^ 55 * 2 + a / 2 ^ 63) (b / 2 ^ 56) (upper_fits a (b % 2 ^ 56) ha (omega arith)) (omega arith)

-- the low 120 bits doubled
double-wide : (a b : ℕ) → a < 2 ^ 64 → b < 2 ^ 64
    → bytes 8 (xor (a * 2 % 2 ^ 64) (b % 2 ^ 56 / 2 ^ 55 * 0x245)) ++ bytes 8 (b % 2 ^ 56 % 2 ^ 55 * 2 + a / 2 ^ 63 + b / 2 ^ 56 * 2 ^ 56)
    ≡ doubled two (bytes 8 a ++ bytes 8 b)
unfolding on_low
double-wide a b ha hb =
    let h = b % 2 ^ 56 in
    let t = b / 2 ^ 56 in
    let hh : h < 2 ^ 56 = omega arith in
    let l = a * 2 % 2 ^ 64 in
    let u = h % 2 ^ 55 * 2 + a / 2 ^ 63 in
    let k = h / 2 ^ 55 * 0x245 in
    let x = a + 2 ^ 64 * h in
    let hl : l < 2 ^ 64 = omega arith in
    let hk : k < 2 ^ 64 = omega arith in
    let F : List ℕ = bytes 8 a ++ bytes 7 b in
    let lf : length F ≡ 15 = length-append (bytes 8 a) (bytes 7 b) ∙ omega (arith, length-bytes 8 a, length-bytes 7 b) in
    let ez : bytes 8 a ++ bytes 8 b ≡ F ++ bytes 1 t = ap (λ (y : List ℕ). bytes 8 a ++ y) (bytes-split 7 1 b)
    ∙ sym (append_assoc (bytes 8 a) (bytes 7 b) (bytes 1 t)) in
    let vf : value F ≡ x = ap value (ap (λ (y : List ℕ). bytes 8 a ++ y) (sym (bytes_mod 7 b)) ∙ sym (bytes-join 8 7 a h ha))
    ∙ value-bytes 15 x (pair_fits a h ha hh) in
    let ed : double120 x ≡ xor (l + 2 ^ 64 * u) k = sym (double120_is x (pair_fits a h ha hh))
    ∙ ap₂ (λ (y c : ℕ). xor y (c * 0x245)) (twice-low a h ha hh) (twice-top a h ha hh) in
    let el : xor (l + 2 ^ 64 * u) k % 2 ^ 64 ≡ xor l k = low (l + 2 ^ 64 * u) k 64 ∙ ap₂ xor (cut_low l u hl) (small k hk).0 in
    let eu : xor (l + 2 ^ 64 * u) k / 2 ^ 64 ≡ u = high (l + 2 ^ 64 * u) k 64 ∙ ap₂ xor (cut_high l u hl) (small k hk).1 ∙ zero_r u in
    let eb : bytes 15 (double120 x) ≡ bytes 8 (xor l k) ++ bytes 7 u =
    ap (bytes 15) ed ∙ bytes-split 8 7 (xor (l + 2 ^ 64 * u) k) ∙ ap₂ (λ (y z : List ℕ). y ++ z) (sym (bytes_mod 8 (xor (l + 2 ^ 64 * u) k)) ∙ ap (bytes 8) el)
    (ap (bytes 7) eu) in
    let et : bytes 8 (u + t * 2 ^ 56) ≡ bytes 7 u ++ bytes 1 t = ap (λ (y : ℕ). bytes 8 (u + y)) (omega arith) ∙ bytes-join 7 1 u t (upper_fits a h ha hh) in
    ap (λ (y : List ℕ). bytes 8 (xor l k) ++ y) et
    ∙ sym (append_assoc (bytes 8 (xor l k)) (bytes 7 u) (bytes 1 t))
    ∙ sym (ap (λ (z : List ℕ). bytes 15 (double120 (value (take 15 z))) ++ drop 15 z) ez
    ∙ ap₂ (λ (y z : List ℕ). bytes 15 (double120 (value y)) ++ z) (take_at F (bytes 1 t) 15 lf) (drop_at F (bytes 1 t) 15 lf)
    ∙ ap (λ (y : ℕ). bytes 15 (double120 y) ++ bytes 1 t) vf
    ∙ ap (λ (y : List ℕ). y ++ bytes 1 t) eb)

-- ---- the same as the code adds it up: what stands below the bit that drops out, twice

bit_is : (b : ℕ) → b / 2 ^ 55 % 2 ≡ b % 2 ^ 56 / 2 ^ 55
bit_is b = omega arith

below_is : (b : ℕ) → b % 2 ^ 55 ≡ b % 2 ^ 56 % 2 ^ 55
below_is b = omega arith

top_is : (b : ℕ) → (b / 2 ^ 55 - b / 2 ^ 55 % 2) * 2 ^ 55 ≡ b / 2 ^ 56 * 2 ^ 56
top_is b = omega arith

twice : (l c t : ℕ) → l + c + (l + t) ≡ l * 2 + c + t
twice l c t = omega arith

upper_is : (a b : ℕ) → b % 2 ^ 55 + a / 2 ^ 63 + (b % 2 ^ 55 + (b / 2 ^ 55 - b / 2 ^ 55 % 2) * 2 ^ 55)
    ≡ b % 2 ^ 56 % 2 ^ 55 * 2 + a / 2 ^ 63 + b / 2 ^ 56 * 2 ^ 56
upper_is a b =
    twice (b % 2 ^ 55) (a / 2 ^ 63) ((b / 2 ^ 55 - b / 2 ^ 55 % 2) * 2 ^ 55) ∙ ap₂ (λ (l t : ℕ). l * 2 + a / 2 ^ 63 + t) (below_is b) (top_is b)

pub twice_fits : (a b : ℕ) → a < 2 ^ 64 → b < 2 ^ 64 → b % 2 ^ 55 + a / 2 ^ 63 + (b % 2 ^ 55 + (b / 2 ^ 55 - b / 2 ^ 55 % 2) * 2 ^ 55) < 2 ^ 64
twice_fits a b ha hb = rw (upper_is a b) (wide_fits a b ha hb)

pub double-twice : (a b : ℕ) → a < 2 ^ 64 → b < 2 ^ 64
    → bytes 8 (xor (a * 2 % 2 ^ 64) (b / 2 ^ 55 % 2 * 0x245)) ++ bytes 8 (b % 2 ^ 55 + a / 2 ^ 63 + (b % 2 ^ 55 + (b / 2 ^ 55 - b / 2 ^ 55 % 2) * 2 ^ 55))
    ≡ doubled two (bytes 8 a ++ bytes 8 b)
double-twice a b ha hb = ap₂ (λ (x y : ℕ). bytes 8 (xor (a * 2 % 2 ^ 64) (x * 0x245)) ++ bytes 8 y) (bit_is b) (upper_is a b) ∙ double-wide a b ha hb
