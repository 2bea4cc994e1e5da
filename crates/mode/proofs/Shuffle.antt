-- The shuffle goes by the words of an XOR, and keeps exactly two blocks: its moves make the four words one, which a rotation by one bit must keep.
use mathlib.Core.Path.{◌≡◌, refl, sym, ap, ap₂, ◌∙◌, subst}
use mathlib.Core.Logic.{◌⊎◌, inl, inr}
use mathlib.Core.List.{List, ◌++◌}
use Prim.Native.Nat.{ℕ, ◌+◌, ◌-◌, ◌*◌, ◌/◌, ◌^◌, ◌≤◌, ◌<◌}
use native.Mathlib.Omega.{arith}
use lib.ListN.{length, take, drop, replicate, replicate-append-replicate}
use lib.Seq.{take-add, drop-drop}
use Rattle.block.specs.Words.{xor, rotr}
use Rattle.block.specs.Bytes.{AllBytes, value, bytes, word}
use Rattle.block.specs.Xors.{xors}
use Rattle.block.proofs.Lists.{two-takes, append_inj}
use Rattle.block.proofs.Bytes.{bytes-zeros, bytes-ones, reach, word_lt, unpack}
use Rattle.block.proofs.Xors.{xors_append, xors-zero, word-xors}
use Rattle.block.proofs.Rotate.{rotl_lt, rotl-xor, one_right_keeps}
use Rattle.block.proofs.Blocks.{length_two, two-xor, two_told}
use Rattle.cipher.specs.Cipher.{Block}
use Rattle.mode.specs.Words.{Four, four, four_of, bytes_of, shuffle}
use Rattle.mode.specs.Slips.{TwoBlocks}
use Rattle.mode.proofs.Words.{four_times, shuffle_block}

-- ---- four words of k bytes

four-xor : (k : ℕ) (x y : Four)
    → bytes_of k (four (xor x.X3 y.X3) (xor x.X2 y.X2) (xor x.X1 y.X1) (xor x.X0 y.X0)) ≡ xors (bytes_of k x) (bytes_of k y)
four-xor k x y =
    ap₂ (λ (p q : List ℕ). p ++ q) (two-xor k x.X0 x.X1 y.X0 y.X1) (two-xor k x.X2 x.X3 y.X2 y.X3)
    ∙ sym (xors_append (bytes k x.X0 ++ bytes k x.X1) (bytes k x.X2 ++ bytes k x.X3) (bytes k y.X0 ++ bytes k y.X1)
    (bytes k y.X2 ++ bytes k y.X3)
    (length_two k x.X0 x.X1 ∙ sym (length_two k y.X0 y.X1)))

-- a block is its four words
whole : (k : ℕ) (b : List ℕ) → AllBytes b → length b ≡ (k + k) + (k + k) → bytes_of k (four_of k b) ≡ b
whole k b hb l =
    let e2 : 2 * k ≡ k + k = omega arith in
    let e3 : 3 * k ≡ (k + k) + k = omega arith in
    let r = drop (k + k) b in
    let d : drop ((k + k) + k) b ≡ drop k r = sym (drop-drop k (k + k) b) in
    ap₂ (λ (x y : List ℕ). x ++ y)
    (ap₂ (λ (x y : List ℕ). x ++ y) (unpack k b 0 hb (omega arith)) (unpack k b k hb (omega arith)) ∙ sym (take-add k k b))
    (ap₂ (λ (x y : List ℕ). x ++ y)
    (unpack k b (2 * k) hb (omega arith) ∙ ap (λ (i : ℕ). take k (drop i b)) e2)
    (unpack k b (3 * k) hb (omega arith) ∙ ap (λ (i : ℕ). take k (drop i b)) e3 ∙ ap (take k) d)
    ∙ sym (take-add k k r))
    ∙ two-takes (k + k) b l

-- ---- the shuffle

module _ (n : ℕ) (sizes : (n ≡ 16) ⊎ (n ≡ 8)) where
  quarter : 0 < n / 4
  quarter = two sizes
    where
      two : (n ≡ 16) ⊎ (n ≡ 8) → 0 < n / 4
      two (inl e) = omega arith
      two (inr e) = omega arith

  -- the shuffle of an XOR is the XOR of the shuffles
  pub shuffle-xor : (a b : List ℕ) → Block n a → Block n b → shuffle n (xors a b) ≡ xors (shuffle n a) (shuffle n b)
  unfolding shuffle
  shuffle-xor a b ha hb =
      let k = n / 4 in
      let w = 8 * k in
      let f : (k + k) + (k + k) ≡ n = four_times n sizes in
      let pos : 0 < k = quarter in
      let la : length a ≡ n = ha.long in
      let lb : length b ≡ n = hb.long in
      let at : (i : ℕ) → i + k ≤ n → word k (xors a b) i ≡ xor (word k a i) (word k b i) = λ i h. word-xors k a b i ha.bytes hb.bytes (omega arith)
      (omega arith) in
      let fits : (l : List ℕ) (i : ℕ) → AllBytes l → word k l i < 2 ^ w = λ l i h. subst (λ (m : ℕ). word k l i < m) (reach k) (word_lt k l i h) in
      let turn : rotr w 1 (word k (xors a b) (2 * k)) ≡ xor (rotr w 1 (word k a (2 * k))) (rotr w 1 (word k b (2 * k))) =
      ap (rotr w 1) (at (2 * k) (omega arith)) ∙ rotl-xor w (w - 1) (omega arith) (fits a (2 * k) ha.bytes) (fits b (2 * k) hb.bytes) in
      ap₂ (λ (x y : List ℕ). x ++ y)
      (ap₂ (λ (x y : ℕ). bytes k x ++ bytes k y) (at (3 * k) (omega arith)) turn)
      (ap₂ (λ (x y : ℕ). bytes k x ++ bytes k y) (at 0 (omega arith)) (at k (omega arith)))
      ∙ four-xor k (four (word k a k) (word k a 0) (rotr w 1 (word k a (2 * k))) (word k a (3 * k)))
      (four (word k b k) (word k b 0) (rotr w 1 (word k b (2 * k))) (word k b (3 * k)))

  -- a block that it keeps is all zeros or all ones
  keeps : (b : List ℕ) → Block n b → shuffle n b ≡ b → (b ≡ replicate n 0) ⊎ (b ≡ replicate n 0xff)
  unfolding shuffle
  keeps b hb e =
      let k = n / 4 in
      let w = 8 * k in
      let f : (k + k) + (k + k) ≡ n = four_times n sizes in
      let pos : 0 < k = quarter in
      let lb : length b ≡ n = hb.long in
      let X0 = word k b 0 in
      let X1 = word k b k in
      let X2 = word k b (2 * k) in
      let X3 = word k b (3 * k) in
      let fits : (i : ℕ) → word k b i < 256 ^ k = λ i. word_lt k b i hb.bytes in
      let turned-fits : rotr w 1 X2 < 256 ^ k =
      subst (λ (m : ℕ). rotr w 1 X2 < m) (sym (reach k)) (rotl_lt w (w - 1) (omega arith) (subst (λ (m : ℕ). X2 < m) (reach k) (fits (2 * k)))) in
      let words : bytes_of k (four_of k b) ≡ b = whole k b hb.bytes (lb ∙ sym f) in
      let halves = append_inj (bytes k X3 ++ bytes k (rotr w 1 X2)) (bytes k X0 ++ bytes k X1) (bytes k X0 ++ bytes k X1) (bytes k X2 ++ bytes k X3)
      (length_two k X3 (rotr w 1 X2) ∙ sym (length_two k X0 X1)) (e ∙ sym words) in
      let lower = two_told k (fits (3 * k)) turned-fits (fits 0) (fits k) halves.0 in
      let upper = two_told k (fits 0) (fits k) (fits (2 * k)) (fits (3 * k)) halves.1 in
      let e3 : X3 ≡ X0 = lower.0 in
      let e2 : X2 ≡ X0 = sym upper.0 in
      let e1 : X1 ≡ X0 = upper.1 ∙ e3 in
      let r : rotr w 1 X0 ≡ X0 = ap (rotr w 1) (sym e2) ∙ lower.1 ∙ e1 in
      let all : (a : ℕ) → bytes k X0 ≡ replicate k a → b ≡ replicate n a = λ a h.
      sym words
      ∙ ap₂ (λ (x y : List ℕ). x ++ y)
      (ap (λ (x : ℕ). bytes k X0 ++ bytes k x) e1 ∙ ap₂ (λ (x y : List ℕ). x ++ y) h h ∙ replicate-append-replicate k k a)
      (ap₂ (λ (x y : ℕ). bytes k x ++ bytes k y) e2 e3 ∙ ap₂ (λ (x y : List ℕ). x ++ y) h h ∙ replicate-append-replicate k k a)
      ∙ replicate-append-replicate (k + k) (k + k) a
      ∙ ap (λ (m : ℕ). replicate m a) f in
      elim (one_right_keeps w X0 (omega arith) r) [
        | inl z ↦ inl (all 0 (ap (bytes k) z ∙ bytes-zeros k))
        | inr o ↦ inr (all 0xff (bytes-ones k X0 (o ∙ sym (reach k))))
      ]

-- and those two it does keep
abbrev Kept : ℕ → Type 0
Kept n = (shuffle n (replicate n 0) ≡ replicate n 0) × (shuffle n (replicate n 0xff) ≡ replicate n 0xff)

kept : (n : ℕ) → (n ≡ 16) ⊎ (n ≡ 8) → Kept n
unfolding shuffle value bytes
kept n (inl e) = subst Kept (sym e) (refl, refl)
kept n (inr e) = subst Kept (sym e) (refl, refl)

pub two_blocks : TwoBlocks
two_blocks n b sizes hb =
    let z = xors-zero n (shuffle n b) b (shuffle_block n b sizes).long hb.long in
    (λ e. keeps n sizes b hb (z.0 e), λ w. z.1 (stays w))
  where
    stays : (b ≡ replicate n 0) ⊎ (b ≡ replicate n 0xff) → shuffle n b ≡ b
    stays (inl e) = ap (shuffle n) e ∙ (kept n sizes).0 ∙ sym e
    stays (inr e) = ap (shuffle n) e ∙ (kept n sizes).1 ∙ sym e
