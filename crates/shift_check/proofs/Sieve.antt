-- The filter before 29: what is left there stays, rows that clash have one mark, and so a row whose mark is not there clashes with none before it.
use Prim.Native.Nat.{ℕ, zero, suc, ◌+◌, ◌*◌, ◌/◌, ◌%◌, ◌^◌, ◌<◌, ◌≤◌, max, suc-le-suc}
use native.Mathlib.Decide.{dec_lt}
use native.Mathlib.Nat.{not-suc-le-zero, zero-max, max-zero, suc-max-suc, max-le}
use native.Mathlib.Omega.{arith}
use mathlib.Core.Path.{◌≡◌, refl, sym, ap, ap₂, ◌∙◌}
use mathlib.Core.Bool.{Bool, true, false, true≢false}
use mathlib.Core.List.{List}
use lib.Arith.{bin_ind}
use lib.Bits.{bit_or, or_step, or_shr, or_comm, or_self}
use lib.Dec.{eqb, lit<}
use lib.ListN.{length, get_or, set, take, drop, replicate, length-set, length-replicate}
use lib.Pow.{shl_exact, low}
use lib.Seq.{get_or-set_same, get_or-set_other}
use borrow.Author.Tests.{eq-eqb, eqb-true, eqb-false}
use Rattle.block.specs.Bytes.{value}
use Rattle.block.specs.Blocks.{wide, filled}
use Rattle.block.specs.declared.Block.{Block}
use Rattle.block.proofs.Bytes.{value-bytes}
use Rattle.block.proofs.Blocks.{first_eight, last_eight}
use Rattle.block.proofs.Tests.{both_true}
use Rattle.block.proofs.SameBytes.{same_true}
use Rattle.shift_format.specs.Format.{row_at, nonce_at, nonce_read_at}
use Rattle.shift_check.specs.Check.{unread_set, clash, nonce_seen}
use Rattle.shift_check.specs.Spared.{Spared}
use Rattle.shift_check.specs.Marks.{folded, mixed, mark_of, word_of, bits_of, has, with, Sieved}
use Rattle.shift_check.proofs.Searches.{any_none}
use Rattle.shift_check.proofs.Nonces.{spare_nonce}

-- ---- bits

-- ones moved up by less than 64 places
one_up : (k : ℕ) → 1 * 2 ^ (k % 64) % 2 ^ 64 ≡ 2 ^ (k % 64)
one_up k = shl_exact 1 (k % 64) 64 (lit< tt) (omega arith) ∙ omega arith

pub ones_up : (x : ℕ) → bit_or (1 * 2 ^ (x / 2 ^ 19 % 64) % 2 ^ 64) (1 * 2 ^ (x / 2 ^ 32 % 64) % 2 ^ 64) ≡ bits_of x
unfolding bits_of
ones_up x = ap₂ bit_or (one_up (x / 2 ^ 19)) (one_up (x / 2 ^ 32))

-- or is associative, digit by digit
max_assoc : (x y z : ℕ) → max (max x y) z ≡ max x (max y z)
max_assoc zero y z = ap (λ (u : ℕ). max u z) (zero-max y) ∙ sym (zero-max (max y z))
max_assoc (suc x) zero z = ap (λ (u : ℕ). max u z) (max-zero (suc x)) ∙ ap (max (suc x)) (sym (zero-max z))
max_assoc (suc x) (suc y) zero = max-zero (max (suc x) (suc y)) ∙ ap (max (suc x)) (sym (max-zero (suc y)))
max_assoc (suc x) (suc y) (suc z) =
    ap (λ (u : ℕ). max u (suc z)) (suc-max-suc x y)
    ∙ suc-max-suc (max x y) z
    ∙ ap suc (max_assoc x y z)
    ∙ sym (ap (max (suc x)) (suc-max-suc y z) ∙ suc-max-suc x (max y z))

low_digit : (n : ℕ) → n % 2 ≤ 1
low_digit n = omega arith

or_low : (a b : ℕ) → bit_or a b % 2 ≡ max (a % 2) (b % 2)
or_low a b = ap (λ (x : ℕ). x % 2) (or_step a b) ∙ low (bit_or (a / 2) (b / 2)) 1 (suc-le-suc (max-le (low_digit a) (low_digit b)))

or_assoc : (a b c : ℕ) → bit_or (bit_or a b) c ≡ bit_or a (bit_or b c)
or_assoc a =
    bin_ind (λ (n : ℕ). (b c : ℕ) → bit_or (bit_or n b) c ≡ bit_or n (bit_or b c)) (λ b c. refl)
    (λ n ih b c.
    or_step (bit_or n b) c
    ∙ ap₂ (λ (x y : ℕ). bit_or x (c / 2) * 2 + max y (c % 2)) (or_shr n b 1) (or_low n b)
    ∙ ap₂ (λ (x y : ℕ). x * 2 + y) (ih (b / 2) (c / 2)) (max_assoc (n % 2) (b % 2) (c % 2))
    ∙ ap₂ (λ (x y : ℕ). bit_or (n / 2) x * 2 + max (n % 2) y) (sym (or_shr b c 1)) (sym (or_low b c))
    ∙ sym (or_step n (bit_or b c))) a

or_again : (w m : ℕ) → bit_or (bit_or w m) m ≡ bit_or w m
or_again w m = or_assoc w m m ∙ ap (bit_or w) (or_self m)

or_keeps : (w m k : ℕ) → bit_or w m ≡ w → bit_or (bit_or w k) m ≡ bit_or w k
or_keeps w m k h = or_assoc w k m ∙ ap (bit_or w) (or_comm k m) ∙ sym (or_assoc w m k) ∙ ap (λ (x : ℕ). bit_or x k) h

-- ---- marks

word_low : (x : ℕ) → word_of x < 128
unfolding word_of
word_low x = omega arith

with-length : (seen : List ℕ) (x : ℕ) → length (with seen x) ≡ length seen
unfolding with
with-length seen x = length-set seen (word_of x) _

module _ (seen : List ℕ) (x : ℕ) (h : word_of x < length seen) where
  abbrev was : ℕ
  was = get_or seen (word_of x) 0

  -- what is left is there
  left_there : has (with seen x) x ≡ true
  unfolding has with
  left_there =
      let g = get_or-set_same seen (word_of x) (bit_or was (bits_of x)) 0 h in
      eq-eqb _ _ (ap (λ (u : ℕ). bit_or u (bits_of x)) g ∙ or_again was (bits_of x) ∙ sym g)

  -- what was there is there still
  still-there : (y : ℕ) → has seen y ≡ true → has (with seen x) y ≡ true
  unfolding has with
  still-there y e = word-case (eqb (word_of y) (word_of x)) refl
    where
      new : ℕ
      new = bit_or was (bits_of x)

      word-case : (b : Bool) → eqb (word_of y) (word_of x) ≡ b
          → eqb (bit_or (get_or (set seen (word_of x) new) (word_of y) 0) (bits_of y)) (get_or (set seen (word_of x) new) (word_of y) 0) ≡ true
      word-case true q =
          let p = eqb-true (word_of y) (word_of x) q in
          let g = ap (λ (k : ℕ). get_or (set seen (word_of x) new) k 0) p ∙ get_or-set_same seen (word_of x) new 0 h in
          let z : bit_or (get_or seen (word_of y) 0) (bits_of y) ≡ get_or seen (word_of y) 0 = eqb-true _ _ e in
          eq-eqb _ _ (ap (λ (u : ℕ). bit_or u (bits_of y)) g ∙ or_keeps was (bits_of y) (bits_of x) (rw p at z) ∙ sym g)
      word-case false q =
          let g = get_or-set_other seen (word_of x) (word_of y) new 0 (eqb-false (word_of y) (word_of x) q) in
          eq-eqb _ _ (ap (λ (u : ℕ). bit_or u (bits_of y)) g ∙ eqb-true _ _ e ∙ sym g)

-- ---- rows

-- a nonce as one word
abbrev nonce_word : List ℕ → ℕ
nonce_word s = folded (value (take 8 s)) (value (drop 8 s))

pub block_word : (x : Block) (s : List ℕ) → x.a < 2 ^ 64 → x.b < 2 ^ 64 → wide x ≡ s → folded x.a x.b ≡ nonce_word s
block_word x s p q e =
    ap₂ folded
    (sym (ap (λ (t : List ℕ). value (take 8 t)) (sym e) ∙ ap value (first_eight x.a x.b) ∙ value-bytes 8 x.a p))
    (sym (ap (λ (t : List ℕ). value (drop 8 t)) (sym e) ∙ ap value (last_eight x.a x.b) ∙ value-bytes 8 x.b q))

-- rows that clash have one mark
clash-marks : (w : ℕ) (f : List ℕ) (i j : ℕ) → unread_set w f i ≡ false → unread_set w f j ≡ false → clash w f i j ≡ true → mark_of w f i ≡ mark_of w f j
unfolding clash mark_of
clash-marks w f i j si sj e =
    let p = both_true (eqb (row_at w f i).suite (row_at w f j).suite) _ e in
    let q = both_true (eqb (row_at w f i).key (row_at w f j).key) _ p.1 in
    let n : nonce_at w f i ≡ nonce_at w f j = spare_nonce w f i si ∙ ap filled (same_true (nonce_read_at w f i) (nonce_read_at w f j) q.1)
    ∙ sym (spare_nonce w f j sj) in
    ap₂ (λ (s k : ℕ). mixed s k (nonce_word (nonce_at w f i))) (eqb-true _ _ p.0) (eqb-true _ _ q.0)
    ∙ ap (λ (s : List ℕ). mixed (row_at w f j).suite (row_at w f j).key (nonce_word s)) n

-- the marks of the rows before row i are there
pub record Left (w : ℕ) (f : List ℕ) (i : ℕ) (seen : List ℕ) : Type 0 where
  pub whole : length seen ≡ 128
  pub there : (j : ℕ) → j < i → has seen (mark_of w f j) ≡ true

pub left_none : (w : ℕ) (f : List ℕ) → Left w f 0 (replicate 128 0)
left_none w f = record { whole = length-replicate {A = ℕ} 128 0; there = λ j l. absurd (not-suc-le-zero l) }

pub left_more : (w : ℕ) (f : List ℕ) (i : ℕ) (seen : List ℕ) → Left w f i seen → Left w f (i + 1) (with seen (mark_of w f i))
left_more w f i seen h =
    let l : word_of (mark_of w f i) < length seen = omega (arith, h.whole, word_low (mark_of w f i)) in
    record {
      whole = with-length seen (mark_of w f i) ∙ h.whole;
      there = λ j b. elim (dec_lt j i) [
        | yes m ↦ still-there seen (mark_of w f i) l (mark_of w f j) (h.there j m)
        | no m ↦ (let q : i ≡ j = omega arith in ap (λ (k : ℕ). has (with seen (mark_of w f i)) (mark_of w f k)) (sym q) ∙ left_there seen (mark_of w f i) l)
      ];
    }

-- a row whose mark is not there clashes with none of them
pub sieved : (w : ℕ) (f : List ℕ) (i : ℕ) (seen : List ℕ) → Left w f i seen → Spared w f i → Sieved w f i (has seen (mark_of w f i))
unfolding nonce_seen
sieved w f i seen h s = record { clear = λ e si. any_none (clash w f i) i (λ j l. clash-case j l e si (clash w f i j) refl) }
  where
    clash-case : (j : ℕ) → j < i → has seen (mark_of w f i) ≡ false → unread_set w f i ≡ false → (b : Bool) → clash w f i j ≡ b → b ≡ false
    clash-case j l e si false c = refl
    clash-case j l e si true c = absurd (true≢false (sym (h.there j l) ∙ ap (has seen) (sym (clash-marks w f i j si (s.spare j l) c)) ∙ e))
