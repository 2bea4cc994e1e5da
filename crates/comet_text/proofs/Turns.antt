-- After the whole blocks of a text comes a short block or nothing. With it the walk has covered all blocks, and the output is the whole text.
use mathlib.Core.Path.{◌≡◌, sym, ap, ap₂, ◌∙◌}
use mathlib.Core.Bool.{Bool, cond}
use Prim.Native.Nat.{ℕ, ◌+◌, ◌-◌, ◌^◌, ◌%◌, ◌<◌}
use native.Mathlib.Nat.{mod-eq_of_lt, le_of_eq}
use native.Mathlib.Omega.{arith}
use mathlib.Core.List.{List, [], ◌++◌, append-nil}
use lib.ListN.{length, take, drop, length-append, drop_of_length-le}
use lib.Seq.{take_at, take_all, drop_at}
use borrow.Rule.Slice.PartMut.{post_of, put_mid, Post-is}
use Rattle.block.proofs.Lists.{nil_of}
use lib.Dec.{ltb}
use Rattle.block.specs.Words.{xor, add}
use Rattle.cipher.specs.Cipher.{Cipher}
use Rattle.mode.specs.Blocks.{blocks}
use Rattle.mode.specs.Walk.{States, whole, rest, turned, hidden, message_of, walked, covered}
use Rattle.mode.proofs.Cut.{rest-less, blocks-whole-rest}
use Rattle.mode.proofs.Walk.{later, later_first, walked-append, covered-append}
use Rattle.block_walk.specs.Progress.{wholes}
use Rattle.block_walk.proofs.Front.{one_block, no_block, left-within, left-long, walk-short, cover-short, walk_none, cover-none}

-- u and k: the states and the mark after the whole blocks of l
module _ (κ : Cipher) (pos : 0 < κ.size) (d : Bool) (first short : ℕ) (s : States) (l : List ℕ)
    (u : States) (k : ℕ) (eu : u ≡ walked κ d first short s (wholes κ.size l)) (ek : k ≡ cond (ltb (length l) κ.size) first 0) where
  abbrev n : ℕ
  n = κ.size

  here : later first (wholes n l) ≡ k
  here = later_first n first pos l ∙ sym ek

  walk-on : walked κ d first short s (blocks n l) ≡ walked κ d k short u (blocks n (rest n l))
  walk-on =
      ap (walked κ d first short s) (sym (blocks-whole-rest n pos l)) ∙ walked-append κ d first short s (wholes n l) (blocks n (rest n l))
      ∙ ap₂ (λ (j : ℕ) (w : States). walked κ d j short w (blocks n (rest n l))) here (sym eu)

  cover_on : covered κ d first short s (blocks n l) ≡ covered κ d first short s (wholes n l) ++ covered κ d k short u (blocks n (rest n l))
  cover_on =
      ap (covered κ d first short s) (sym (blocks-whole-rest n pos l)) ∙ covered-append κ d first short s (wholes n l) (blocks n (rest n l))
      ∙ ap₂ (λ (j : ℕ) (w : States). covered κ d first short s (wholes n l) ++ covered κ d j short w (blocks n (rest n l))) here (sym eu)

  -- a short block x is left
  module _ (x : List ℕ) (ex : x ≡ rest n l) (some : 0 < length (rest n l)) where
    pub last-walk : (r : States) → r ≡ turned κ (xor k short) u (message_of κ d (xor k short) u x) → r ≡ walked κ d first short s (blocks n l)
    last-walk r er =
        er ∙ ap (λ (b : List ℕ). turned κ (xor k short) u (message_of κ d (xor k short) u b)) ex
        ∙ sym (walk-on ∙ walk-short κ pos d short k u (rest n l) some (rest-less n pos l))

    last-cover : (o : List ℕ) → o ≡ hidden κ (xor k short) u x → covered κ d first short s (wholes n l) ++ o ≡ covered κ d first short s (blocks n l)
    last-cover o eo =
        ap (λ (b : List ℕ). covered κ d first short s (wholes n l) ++ b)
        (eo ∙ ap (hidden κ (xor k short) u) ex ∙ sym (cover-short κ pos d short k u (rest n l) some (rest-less n pos l)))
        ∙ sym cover_on

  -- nothing is left
  module _ (none : length (rest n l) ≡ 0) where
    pub none_walk : u ≡ walked κ d first short s (blocks n l)
    none_walk = sym (walk-on ∙ walk_none κ pos d short k u (rest n l) none)

  -- text holds what was output for the whole blocks, and after it, from i on, what is left
  module _ (text : List ℕ) (i : ℕ) (et : text ≡ covered κ d first short s (wholes n l) ++ rest n l) (lt : length text ≡ length l)
      (ei : i ≡ length (whole n l)) where
    abbrev front : List ℕ
    front = covered κ d first short s (wholes n l)

    long : length front ≡ i
    long = omega (arith, ap length et, length-append front (rest n l), left-long n pos l i ei, left-within n pos l i ei, lt)

    -- the part that the code borrows
    pub lent : take (length l - i) (drop i text) ≡ rest n l
    lent =
        ap (take (length l - i)) (ap (drop i) et ∙ drop_at front (rest n l) i long)
        ∙ take_all (length l - i) (rest n l) (le_of_eq (left-long n pos l i ei))

    -- the short block was overwritten with o
    pub last_out : 0 < length (rest n l) → (o : List ℕ) → o ≡ hidden κ (xor k short) u (take (length l - i) (drop i text))
        → put_mid i (length l - i) text o ≡ covered κ d first short s (blocks n l)
    last_out some o eo =
        let nothing : post_of i (length l - i) text ≡ [] = Post-is i (length l) text (left-within n pos l i ei)
        ∙ drop_of_length-le text {i = length l} (le_of_eq lt) in
        ap₂ (λ (a b : List ℕ). a ++ (o ++ b)) (ap (take i) et ∙ take_at front (rest n l) i long) nothing
        ∙ ap (λ (b : List ℕ). front ++ b) (append-nil o)
        ∙ last-cover (take (length l - i) (drop i text)) lent some o eo

    pub none_out : length (rest n l) ≡ 0 → text ≡ covered κ d first short s (blocks n l)
    none_out none = et ∙ ap (λ (b : List ℕ). front ++ b) (nil_of (rest n l) none ∙ sym (cover-none κ pos d short k u (rest n l) none)) ∙ sym cover_on

-- how many blocks l has
module _ (n : ℕ) (pos : 0 < n) (l : List ℕ) where
  blocks-all : length (blocks n l) ≡ length (wholes n l) + length (blocks n (rest n l))
  blocks-all = sym (ap length (blocks-whole-rest n pos l)) ∙ length-append (wholes n l) (blocks n (rest n l))

  pub last_more : 0 < length (rest n l) → length (wholes n l) + 1 ≡ length (blocks n l)
  last_more some =
      let one : length (blocks n (rest n l)) ≡ 1 = ap length (one_block n pos (rest n l) some (rest-less n pos l)) in omega (arith, blocks-all, one)

  pub none_more : length (rest n l) ≡ 0 → length (wholes n l) ≡ length (blocks n l)
  none_more none =
      let zero_left : length (blocks n (rest n l)) ≡ 0 = ap length (no_block n pos (rest n l) none) in omega (arith, blocks-all, zero_left)

  pub short-one : 0 < length l → length l < n → 1 ≡ length (blocks n l)
  short-one some less = sym (ap length (one_block n pos l some less))

  -- no byte, with y calls before it
  pub empty-count : (y : ℕ) → length l ≡ 0 → y < 2 ^ 64 → y ≡ add 64 y (length (blocks n l))
  empty-count y e h =
      let z : y + length (blocks n l) ≡ y = omega (arith, ap length (no_block n pos l e)) in
      sym (ap (λ (j : ℕ). j % 2 ^ 64) z ∙ mod-eq_of_lt h)
