-- Bytes held and joined, bytes written, and the block that held bytes and a part make, as laws on lists.
use mathlib.Core.Path.{◌≡◌, sym, ap, ap₂, ◌∙◌}
use mathlib.Core.Bool.{false}
use Prim.Native.Nat.{ℕ, suc, ◌+◌, ◌-◌, ◌*◌, ◌/◌, ◌≤◌, ◌<◌}
use native.Mathlib.Nat.{le_of_eq}
use native.Mathlib.Omega.{arith}
use mathlib.Core.List.{List, [], ◌++◌, append_assoc, append-nil}
use lib.ListN.{length, take, drop, replicate, length-append, length-drop, take-append-drop, drop_of_length-le}
use borrow.Rule.Slice.PartMut.{post_of, put_mid, Post-is}
use lib.Seq.{take_at, drop_at, take_all, take-length, take-append-add, drop-append-add, length-take-le, paste}
use Rattle.block.specs.Blocks.{filled}
use Rattle.block.proofs.Lists.{drop-replicate}
use Rattle.cipher.specs.Cipher.{Cipher}
use Rattle.mode.specs.Blocks.{blocks}
use Rattle.mode.proofs.Cut.{length_whole, cut-whole, cut-rest}
use Rattle.mode.specs.Walk.{States, whole, rest, walked}
use Rattle.block_walk.specs.Progress.{wholes}
use Rattle.block_walk.proofs.Front.{front-blocks, front_rest, short-blocks, front-walk, one-walk}
use Rattle.session_blocks.specs.Written.{written}

-- ---- bytes held

-- p copied after x
pub joined_is : (x p : List ℕ) (h : ℕ) → length x ≡ h → h + length p ≤ 16 → paste (filled x) h p (length p) ≡ filled (x ++ p)
joined_is x p h e le =
    let z : List ℕ = replicate (16 - length x) 0 in
    let eh : h + length p ≡ length x + length p = omega arith in
    let ez : 16 - length x - length p ≡ 16 - length (x ++ p) = omega (arith, length-append x p) in
    ap₂ (λ (a b : List ℕ). (a ++ b) ++ drop (h + length p) (filled x)) (take_at x z h e) (take-length p)
    ∙ ap (λ (r : List ℕ). (x ++ p) ++ r)
    (ap (λ (k : ℕ). drop k (filled x)) eh ∙ drop-append-add x z (length p) ∙ drop-replicate (length p) (16 - length x) 0 ∙ ap (λ (k : ℕ). replicate k 0) ez)

-- ---- bytes written

-- k elements written at the front, as the code lends them
module _ (out c : List ℕ) (k : ℕ) (lc : length c ≡ k) (ho : k ≤ length out) where
  abbrev pub once : List ℕ
  once = put_mid 0 (k - 0) out c

  once_is : once ≡ c ++ drop k out
  once_is = ap (λ (r : List ℕ). c ++ r) (Post-is 0 k out (omega arith))

  -- and it is borrowed again
  pub lent_again : take (k - 0) (drop 0 once) ≡ c
  lent_again =
      let ek : k - 0 ≡ k = omega arith in
      ap₂ (λ (j : ℕ) (l : List ℕ). take j l) ek once_is ∙ take_at c (drop k out) k lc

  pub once-long : length once ≡ length out
  once-long = ap length once_is ∙ length-append c (drop k out) ∙ omega (arith, length-drop k out)

  pub twice-written : (y new : List ℕ) → length y ≡ length (take (k - 0) (drop 0 once)) → y ≡ new → put_mid 0 (k - 0) once y ≡ written new out
  twice-written y new ly e =
      let lk : k ≡ length new = sym (ap length lent_again ∙ lc) ∙ sym ly ∙ ap length e in
      ap₂ (λ (a b : List ℕ). a ++ b) e (Post-is 0 k once (omega arith) ∙ ap (drop k) once_is ∙ drop_at c (drop k out) k lc ∙ ap (λ (j : ℕ). drop j out) lk)

  -- or p after them, up to the end
  pub then-rest : (p : List ℕ) → put_mid k (length out - k) once p ≡ c ++ p
  then-rest p =
      let none : post_of k (length out - k) once ≡ [] = Post-is k (length out) once ho ∙ drop_of_length-le once {i = length out} (le_of_eq once-long) in
      ap₂ (λ (a b : List ℕ). a ++ (p ++ b)) (ap (take k) once_is ∙ take_at c (drop k out) k lc) none ∙ ap (λ (r : List ℕ). c ++ r) (append-nil p)

  pub rest-long : length (take (length out - k) (drop k once)) ≡ length out - k
  rest-long = length-take-le (length out - k) (drop k once) (omega (arith, length-drop k once, once-long))

-- ---- the whole blocks of held bytes x and a part p, as the code takes them: w bytes, which end after x

module _ (n : ℕ) (pos : 0 < n) (x p : List ℕ) (h w : ℕ) (lx : length x ≡ h) (lw : w ≡ length (x ++ p) / n * n) (hw : h ≤ w) where
  far : w ≡ length x + (w - h)
  far = omega arith

  pub whole_is : x ++ take (w - h - 0) (drop 0 p) ≡ whole n (x ++ p)
  unfolding whole
  whole_is =
      let k : w - h - 0 ≡ w - h = omega arith in
      ap (λ (j : ℕ). x ++ take j p) k ∙ sym (ap (λ (j : ℕ). take j (x ++ p)) (sym lw ∙ far) ∙ take-append-add x p (w - h))

  pub rest-is : take (length p - (w - h)) (drop (w - h) p) ≡ rest n (x ++ p)
  unfolding rest
  rest-is =
      take_all (length p - (w - h)) (drop (w - h) p) (le_of_eq (length-drop (w - h) p))
      ∙ sym (ap (λ (j : ℕ). drop j (x ++ p)) (sym lw ∙ far) ∙ drop-append-add x p (w - h))

-- whole blocks alone: they are all of them, and nothing is left
pub whole_alone : (n : ℕ) → 0 < n → (l : List ℕ) → (whole n (whole n l) ≡ whole n l) × (rest n (whole n l) ≡ [])
whole_alone n pos l =
    let e = length_whole n pos l in (
      ap (whole n) (sym (append-nil (whole n l))) ∙ cut-whole n pos (length l / n) (whole n l) [] e pos,
      ap (rest n) (sym (append-nil (whole n l))) ∙ cut-rest n pos (length l / n) (whole n l) [] e pos,
    )

module _ (κ : Cipher) (pos : 0 < κ.size) (short : ℕ) where
  abbrev n : ℕ
  n = κ.size

  -- held bytes x and the first bytes of p make a block: k of b's bytes, and j of those after, as the code lends them
  module _ (x p b : List ℕ) (h need : ℕ) (lx : length x ≡ h) (ln : h + need ≡ n) (lp : need ≤ length p) (most : n ≤ 16)
      (eb : b ≡ filled (x ++ take (need - 0) (drop 0 p))) where
    lt : length (take need p) ≡ need
    lt = length-take-le need p lp

    lb : length (x ++ take need p) ≡ n
    lb = length-append x (take need p) ∙ omega (arith, lt)

    block-is : (k : ℕ) → k ≡ n → take (k - 0) (drop 0 b) ≡ x ++ take need p
    block-is k e =
        let ek : k - 0 ≡ n = omega arith in
        let en : need - 0 ≡ need = omega arith in
        ap₂ (λ (i : ℕ) (l : List ℕ). take i l) ek (eb ∙ ap (λ (i : ℕ). filled (x ++ take i p)) en)
        ∙ take_at (x ++ take need p) (replicate (16 - length (x ++ take need p)) 0) n lb

    behind : take (length p - need) (drop need p) ≡ drop need p
    behind = take_all (length p - need) (drop need p) (le_of_eq (length-drop need p))

    split : x ++ p ≡ (x ++ take need p) ++ drop need p
    split = ap (λ (l : List ℕ). x ++ l) (sym (take-append-drop need p)) ∙ sym (append_assoc x (take need p) (drop need p))

    pub more-walk : (m k : ℕ) (s t r : States) → k ≡ n → t ≡ walked κ false m short s (blocks n (whole n (take (k - 0) (drop 0 b))))
        → r ≡ walked κ false 0 short t (blocks n (whole n (take (length p - need) (drop need p))))
        → r ≡ walked κ false m short s (blocks n (whole n (x ++ p)))
    more-walk m k s t r ek et er =
        let in_first = et ∙ ap (λ (l : List ℕ). walked κ false m short s (blocks n (whole n l))) (block-is k ek)
        ∙ one-walk κ pos false short m s (x ++ take need p) lb in
        er
        ∙ ap₂ (λ (y : States) (l : List ℕ). walked κ false 0 short y (blocks n (whole n l))) in_first behind
        ∙ sym (ap (λ (l : List ℕ). walked κ false m short s (blocks n (whole n l))) split
        ∙ front-walk κ pos false short m s (x ++ take need p) (drop need p) lb)

    pub more-rest : (r : List ℕ) → r ≡ filled (rest n (take (length p - need) (drop need p))) → r ≡ filled (rest n (x ++ p))
    more-rest r e =
        e ∙ ap (λ (l : List ℕ). filled (rest n l)) behind
        ∙ sym (ap (λ (l : List ℕ). filled (rest n l)) split ∙ ap filled (front_rest n pos (x ++ take need p) (drop need p) lb))

    pub more-count : (k : ℕ) → k ≡ n → length (wholes n (take (k - 0) (drop 0 b))) + length (wholes n (take (length p - need) (drop need p)))
        ≡ length (wholes n (x ++ p))
    more-count k ek =
        let first : length (wholes n (x ++ take need p)) ≡ 1 =
        ap (λ (l : List ℕ). length (wholes n l)) (sym (append-nil (x ++ take need p))) ∙ ap length (front-blocks n pos (x ++ take need p) [] lb)
        ∙ ap (λ (bs : List (List ℕ)). suc (length bs)) (short-blocks n pos [] pos) in
        let all : length (wholes n (x ++ p)) ≡ suc (length (wholes n (drop need p))) =
        ap (λ (l : List ℕ). length (wholes n l)) split ∙ ap length (front-blocks n pos (x ++ take need p) (drop need p) lb) in
        ap₂ (λ (l m : List ℕ). length (wholes n l) + length (wholes n m)) (block-is k ek) behind ∙ omega (arith, first, all)
