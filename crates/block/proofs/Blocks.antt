-- A block of sixteen bytes and the two numbers that hold it know each other.
use mathlib.Core.Path.{◌≡◌, sym, ap, ap₂, ◌∙◌}
use mathlib.Core.List.{List, [], ◌++◌, append-nil}
use mathlib.Core.Logic.{◌⊎◌, inl, inr}
use Prim.Native.Nat.{ℕ, ◌+◌, ◌^◌, ◌<◌}
use native.Mathlib.Omega.{arith}
use lib.ListN.{length, take, drop, drop_of_length-le, length-append, length-drop}
use lib.Seq.{take_at, drop_at}
use lib.Bits.{bit_or}
use lib.Dec.{eqb}
use borrow.Author.Tests.{eqb-true}
use Rattle.block.specs.Words.{xor}
use Rattle.block.specs.Bytes.{bytes, same_bytes}
use Rattle.block.specs.Xors.{xors}
use Rattle.block.specs.declared.Block.{Block}
use Rattle.block.specs.Blocks.{wide}
use Rattle.block.proofs.XorLaws.{self, none_gathered}
use Rattle.block.proofs.Lists.{append_inj}
use Rattle.block.proofs.Tests.{test_iff}
use Rattle.block.proofs.SameBytes.{same_refl, same_true}
use Rattle.block.proofs.Bytes.{length-bytes, bytes_inj}
use Rattle.block.proofs.Xors.{bytes-xor, xors_append}

-- ---- two words of k bytes side by side

pub length_two : (k a b : ℕ) → length (bytes k a ++ bytes k b) ≡ k + k
length_two k a b = length-append (bytes k a) (bytes k b) ∙ ap₂ (λ (x y : ℕ). x + y) (length-bytes k a) (length-bytes k b)

pub two-xor : (k a b c d : ℕ) → bytes k (xor a c) ++ bytes k (xor b d) ≡ xors (bytes k a ++ bytes k b) (bytes k c ++ bytes k d)
two-xor k a b c d =
    ap₂ (λ (x y : List ℕ). x ++ y) (bytes-xor k a c) (bytes-xor k b d)
    ∙ sym (xors_append (bytes k a) (bytes k b) (bytes k c) (bytes k d) (length-bytes k a ∙ sym (length-bytes k c)))

pub two_told : (k : ℕ) {a b c d : ℕ} → a < 256 ^ k → b < 256 ^ k → c < 256 ^ k → d < 256 ^ k
    → bytes k a ++ bytes k b ≡ bytes k c ++ bytes k d → (a ≡ c) × (b ≡ d)
two_told k {a} {b} {c} {d} ha hb hc hd e =
    let s = append_inj (bytes k a) (bytes k b) (bytes k c) (bytes k d) (length-bytes k a ∙ sym (length-bytes k c)) e in
    (bytes_inj k ha hc s.0, bytes_inj k hb hd s.1)

-- ---- of 8 bytes

pub length-wide : (a b : ℕ) → length (bytes 8 a ++ bytes 8 b) ≡ 16
length-wide a b = length_two 8 a b

pub wide-xor : (a b c d : ℕ) → bytes 8 (xor a c) ++ bytes 8 (xor b d) ≡ xors (bytes 8 a ++ bytes 8 b) (bytes 8 c ++ bytes 8 d)
wide-xor a b c d = two-xor 8 a b c d

pub first_eight : (a b : ℕ) → take 8 (bytes 8 a ++ bytes 8 b) ≡ bytes 8 a
first_eight a b = take_at (bytes 8 a) (bytes 8 b) 8 (length-bytes 8 a)

pub last_eight : (a b : ℕ) → drop 8 (bytes 8 a ++ bytes 8 b) ≡ bytes 8 b
last_eight a b = drop_at (bytes 8 a) (bytes 8 b) 8 (length-bytes 8 a)

-- a full block that has not 16 bytes has 8
pub is_eight : {k : ℕ} → (k ≡ 16) ⊎ (k ≡ 8) → (k ≡ 16 → ⊥) → k ≡ 8
is_eight (inl e) h = absurd (h e)
is_eight (inr e) h = e

-- the two halves of a list of sixteen, each overwritten
pub two_puts : (out p q : List ℕ) → length out ≡ 16 → length p ≡ 8 → length q ≡ 8
    → take 8 (p ++ drop 8 out) ++ (q ++ drop 8 (drop 8 (p ++ drop 8 out))) ≡ p ++ q
two_puts out p q lo lp lq =
    let r : List ℕ = p ++ drop 8 out in
    let lr : length r ≡ 16 = length-append p (drop 8 out) ∙ omega (arith, length-drop 8 out) in
    let e : drop 8 (drop 8 r) ≡ [] = drop_of_length-le (drop 8 r) {i = 8} (omega (arith, length-drop 8 r)) in
    ap₂ (λ (x y : List ℕ). x ++ (q ++ y)) (take_at p (drop 8 out) 8 lp) e
    ∙ ap (λ (x : List ℕ). p ++ x) (append-nil q)

-- a block is known by its bytes: a contract that fixes them fixes it
pub wide_told : (x y : Block) → x.a < 2 ^ 64 → x.b < 2 ^ 64 → y.a < 2 ^ 64 → y.b < 2 ^ 64 → wide x ≡ wide y → x ≡ y
wide_told x y xa xb ya yb e =
    let q = two_told 8 xa xb ya yb e in
    ap₂ (λ (c d : ℕ). record { a = c; b = d }) q.0 q.1

-- two blocks are the same where their differences, gathered, are none
pub same_gathered : (x y : Block) → x.a < 2 ^ 64 → x.b < 2 ^ 64 → y.a < 2 ^ 64 → y.b < 2 ^ 64
    → eqb (bit_or (xor x.a y.a) (xor x.b y.b)) 0 ≡ same_bytes (wide x) (wide y)
same_gathered x y xa xb ya yb =
    test_iff _ _
    (λ e.
    let q = none_gathered x.a x.b y.a y.b (eqb-true _ 0 e) in
    ap₂ (λ (a b : ℕ). same_bytes (bytes 8 a ++ bytes 8 b) (wide y)) q.0 q.1 ∙ same_refl (wide y))
    (λ e.
    let q = wide_told x y xa xb ya yb (same_true (wide x) (wide y) e) in
    ap (λ (z : Block). eqb (bit_or (xor z.a y.a) (xor z.b y.b)) 0) q
    ∙ ap₂ (λ (a b : ℕ). eqb (bit_or a b) 0) (self y.a) (self y.b))
