-- Every block key is a block of sixteen bytes, in both versions, by induction on the marks; and there are as many marks as
-- blocks and one for the tag, so no key is missing.
use mathlib.Core.Path.{◌≡◌, refl, ap, ap₂, ◌∙◌}
use Prim.Native.Nat.{ℕ, zero, suc, ◌+◌, ◌≤◌, ◌<◌}
use native.Mathlib.Nat.{not-suc-le-zero, le_of_suc-le-suc}
use native.Mathlib.Omega.{arith}
use mathlib.Core.Bool.{Bool, true, false, cond}
use mathlib.Core.List.{List, [], ◌∷◌, ◌++◌}
use lib.ListN.{length, get_or, take, drop, length-append, length-drop, length-set}
use lib.Dec.{ltb}
use Rattle.block.specs.Words.{xor}
use Rattle.block.specs.Bytes.{AllBytes, value, bytes}
use Rattle.block.proofs.XorLaws.{below}
use Rattle.block.proofs.Lists.{all_nil, all_tail, all_cons, all_append, all_drop, all_set}
use Rattle.block.proofs.Bytes.{length-bytes, all_bytes}
use Rattle.cipher.specs.Cipher.{Block, Version, one, two}
use Rattle.mode.specs.Blocks.{lengths}
use Rattle.mode.specs.Words.{double, double120}
use Rattle.mode.specs.Keys.{short_mark, text_marks, late, placed, marks, marked, on_low, next_key, keys}
use Rattle.mode.specs.Mode.{first_key, later_keys}

pub marked_block : (m : ℕ) (z : List ℕ) → m < 256 → Block 16 z → Block 16 (marked m z)
unfolding marked
marked_block m z h b =
    let v = xor (get_or z 15 0) m in
    record { long = length-set z 15 v ∙ b.long; bytes = all_set z 15 v b.bytes (below 8 (b.bytes 15) h) }

low_block : (k : ℕ) (f : ℕ → ℕ) (z : List ℕ) → k ≤ 16 → Block 16 z → Block 16 (on_low k f z)
unfolding on_low
low_block k f z h b =
    let x = f (value (take k z)) in
    let lz : length z ≡ 16 = b.long in
    record {
      long = length-append (bytes k x) (drop k z) ∙ omega (arith, length-bytes k x, length-drop k z);
      bytes = all_append (bytes k x) (drop k z) (all_bytes k x) (all_drop k z b.bytes);
    }

pub next_block : (v : Version) (m : ℕ) (z : List ℕ) → m < 256 → Block 16 z → Block 16 (next_key v m z)
unfolding next_key
next_block one m z h b = low_block 8 double (marked m z) (omega arith) (marked_block m z h b)
next_block two m z h b = low_block 15 double120 (marked m z) (omega arith) (marked_block m z h b)

-- ---- marks are bytes, and there are as many as blocks

pub short_lt : (n short k : ℕ) → short < 256 → short_mark n short k < 256
short_lt n short k h = go (ltb k n)
  where
    go : (t : Bool) → cond t short 0 < 256
    go true = h
    go false = omega arith

pub text_marks-bytes : (n first short : ℕ) (ks : List ℕ) → first < 256 → short < 256 → AllBytes (text_marks n first short ks)
unfolding text_marks
text_marks-bytes n first short [] hf hs i = omega arith
text_marks-bytes n first short (k ∷ ks) hf hs zero = below 8 hf (short_lt n short k hs)
text_marks-bytes n first short (k ∷ ks) hf hs (suc i) = text_marks-bytes n 0 short ks (omega arith) hs i

text_marks-count : (n first short : ℕ) (ks : List ℕ) → length (text_marks n first short ks) ≡ length ks
unfolding text_marks
text_marks-count n first short [] = refl
text_marks-count n first short (k ∷ ks) = ap suc (text_marks-count n 0 short ks)

late-bytes : (h : ℕ) (ms : List ℕ) → h < 256 → AllBytes ms → AllBytes (late h ms)
unfolding late
late-bytes h [] hh hm = all_cons (xor h 0x80) [] (below 8 hh (omega arith)) all_nil
late-bytes h (m ∷ ms) hh hm = all_cons h (late m ms) hh (late-bytes m ms (hm 0) (all_tail m ms hm))

late-count : (h : ℕ) (ms : List ℕ) → length (late h ms) ≡ suc (length ms)
unfolding late
late-count h [] = refl
late-count h (m ∷ ms) = ap suc (late-count m ms)

placed-bytes : (v : Version) (ms : List ℕ) → AllBytes ms → AllBytes (placed v ms)
placed-bytes one ms h = all_append ms (0x80 ∷ []) h (all_cons 0x80 [] (omega arith) all_nil)
placed-bytes two ms h = late-bytes 0 ms (omega arith) h

placed-count : (v : Version) (ms : List ℕ) → length (placed v ms) ≡ suc (length ms)
placed-count one ms = length-append ms (0x80 ∷ []) ∙ omega arith
placed-count two ms = late-count 0 ms

module _ (v : Version) (n a m : ℕ) where
  pub marks-bytes : AllBytes (marks v n a m)
  unfolding marks
  marks-bytes =
      placed-bytes v _
      (all_append (text_marks n 0x08 0x10 (lengths n a)) _ (text_marks-bytes n 0x08 0x10 (lengths n a) (omega arith) (omega arith))
      (text_marks-bytes n 0x20 0x40 (lengths n m) (omega arith) (omega arith)))

  pub marks-count : length (marks v n a m) ≡ suc (length (lengths n a) + length (lengths n m))
  unfolding marks
  marks-count =
      let p = text_marks n 0x08 0x10 (lengths n a) in
      let q = text_marks n 0x20 0x40 (lengths n m) in
      placed-count v (p ++ q)
      ∙ ap suc (length-append p q ∙ ap₂ (λ (x y : ℕ). x + y) (text_marks-count n 0x08 0x10 (lengths n a)) (text_marks-count n 0x20 0x40 (lengths n m)))

-- ---- keys enough for f blocks and the tag

abbrev pub Enough : ℕ → List (List ℕ) → Type 0
Enough zero ks = Block 16 (first_key ks)
Enough (suc f) ks = Block 16 (first_key ks) × Enough f (later_keys ks)

pub enough_first : (f : ℕ) (ks : List (List ℕ)) → Enough f ks → Block 16 (first_key ks)
enough_first zero ks e = e
enough_first (suc f) ks e = e.0

pub enough_keys : (v : Version) (f : ℕ) (z : List ℕ) (ms : List ℕ) → Block 16 z → AllBytes ms → f < length ms → Enough f (keys v z ms)
unfolding keys
enough_keys v f z [] hz hm h = absurd (not-suc-le-zero h)
enough_keys v zero z (m ∷ ms) hz hm h = next_block v m z (hm 0) hz
enough_keys v (suc f) z (m ∷ ms) hz hm h =
    let hn = next_block v m z (hm 0) hz in
    (hn, enough_keys v f (next_key v m z) ms hn (λ i. hm (suc i)) (le_of_suc-le-suc h))
