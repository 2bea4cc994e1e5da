-- A whole block in front of a text, a short block alone, and nothing: what the walk does with each, in both directions.
use mathlib.Core.Path.{◌≡◌, sym, ap, ap₂, ◌∙◌, subst}
use mathlib.Core.Bool.{Bool}
use mathlib.Core.Logic.{inl}
use Prim.Native.Nat.{ℕ, ◌+◌, ◌-◌, ◌*◌, ◌/◌, ◌≤◌, ◌<◌}
use native.Mathlib.Nat.{one-mul, le_of_eq, div-add-mod'}
use native.Mathlib.Omega.{arith}
use mathlib.Core.List.{List, [], ◌∷◌, ◌++◌, append_assoc, append-nil}
use lib.ListN.{length, take, drop, length-append, length-drop, take-append-drop, drop_of_length-le}
use lib.Seq.{take_at, take_all, drop-drop, length-take-le}
use Rattle.block.specs.Words.{xor}
use Rattle.block.proofs.Lists.{nil_of}
use Rattle.cipher.specs.Cipher.{Cipher}
use Rattle.mode.specs.Blocks.{blocks}
use Rattle.mode.specs.Walk.{States, whole, rest, mark_of, turned, hidden, message_of, walked, covered}
use Rattle.mode.proofs.Blocks.{blocks-nil, blocks-cons, blocks_more}
use Rattle.mode.proofs.Cut.{length_whole, whole_append, rest-append, rest-less, whole-short}
use Rattle.mode.proofs.Walk.{mark_full, mark_short}
use Rattle.block_walk.specs.Progress.{wholes}

module _ (n : ℕ) (pos : 0 < n) where
  -- a whole block in front
  module _ (b l : List ℕ) (e : length b ≡ n) where
    once : length b ≡ 1 * n
    once = e ∙ sym (one-mul n)

    pub front-blocks : wholes n (b ++ l) ≡ b ∷ wholes n l
    front-blocks = ap (blocks n) (whole_append n pos 1 b l once) ∙ blocks-cons n pos b (whole n l) (omega arith) (omega arith) (inl e)

    pub front_rest : rest n (b ++ l) ≡ rest n l
    front_rest = rest-append n pos 1 b l once

    pub front_long : length (whole n (b ++ l)) ≡ n + length (whole n l)
    front_long = ap length (whole_append n pos 1 b l once) ∙ length-append b (whole n l) ∙ ap (λ (k : ℕ). k + length (whole n l)) e

  -- less than a block is no whole one
  pub short-blocks : (l : List ℕ) → length l < n → wholes n l ≡ []
  short-blocks l h = ap (blocks n) (whole-short n pos l h) ∙ blocks-nil n pos

  -- and, where it is not nothing, one short one
  pub one_block : (x : List ℕ) → 0 < length x → length x < n → blocks n x ≡ x ∷ []
  one_block x h k =
      blocks_more n pos x h
      ∙ ap₂ (λ (a b : List ℕ). a ∷ blocks n b) (take_all n x (omega arith)) (drop_of_length-le x {i = n} (omega arith))
      ∙ ap (λ (r : List (List ℕ)). x ∷ r) (blocks-nil n pos)

  pub no_block : (x : List ℕ) → length x ≡ 0 → blocks n x ≡ []
  no_block x e = ap (blocks n) (nil_of x e) ∙ blocks-nil n pos

  -- the block from i to e of l, and what is left of l
  module _ (l : List ℕ) (i e : ℕ) (q : e ≡ i + n) (h : e ≤ length l) where
    pub cut_off : drop i l ≡ take (e - i) (drop i l) ++ drop e l
    cut_off =
        let k : i + (e - i) ≡ e = omega arith in
        sym (take-append-drop (e - i) (drop i l)) ∙ ap (λ (r : List ℕ). take (e - i) (drop i l) ++ r) (drop-drop (e - i) i l ∙ ap (λ (j : ℕ). drop j l) k)

    pub block-long : length (take (e - i) (drop i l)) ≡ n
    block-long = length-take-le (e - i) (drop i l) (omega (arith, length-drop i l)) ∙ omega arith

    pub turn-blocks : wholes n (drop i l) ≡ take (e - i) (drop i l) ∷ wholes n (drop e l)
    turn-blocks = ap (wholes n) cut_off ∙ front-blocks (take (e - i) (drop i l)) (drop e l) block-long

    pub turn-long : length (whole n (drop i l)) ≡ n + length (whole n (drop e l))
    turn-long = ap (λ (x : List ℕ). length (whole n x)) cut_off ∙ front_long (take (e - i) (drop i l)) (drop e l) block-long

  -- what is left of l after its whole blocks, as the code lends it
  module _ (l : List ℕ) (i : ℕ) (e : i ≡ length (whole n l)) where
    place : i ≡ length l / n * n
    place = e ∙ length_whole n pos l

    pub left-within : i ≤ length l
    left-within = omega (arith, place, div-add-mod' (length l) n)

    pub behind : drop i l ≡ rest n l
    unfolding rest
    behind = ap (λ (k : ℕ). drop k l) place

    pub left : take (length l - i) (drop i l) ≡ rest n l
    left = take_all (length l - i) (drop i l) (le_of_eq (length-drop i l)) ∙ behind

    pub left-long : length (rest n l) ≡ length l - i
    left-long = sym (ap length left) ∙ length-take-le (length l - i) (drop i l) (le_of_eq (sym (length-drop i l)))

    pub left-short : length (take (length l - i) (drop i l)) < n
    left-short = subst (λ (x : List ℕ). length x < n) (sym left) (rest-less n pos l)

module _ (κ : Cipher) (pos : 0 < κ.size) (d : Bool) (short : ℕ) where
  abbrev n : ℕ
  n = κ.size

  -- a whole block has no short mark
  pub walk-full : (m : ℕ) (s : States) (b : List ℕ) (bs : List (List ℕ)) → length b ≡ n
      → walked κ d m short s (b ∷ bs) ≡ walked κ d 0 short (turned κ m s (message_of κ d m s b)) bs
  unfolding walked
  walk-full m s b bs e = ap (λ (k : ℕ). walked κ d 0 short (turned κ k s (message_of κ d k s b)) bs) (mark_full n m short (length b) e)

  pub cover-full : (m : ℕ) (s : States) (b : List ℕ) (bs : List (List ℕ)) → length b ≡ n
      → covered κ d m short s (b ∷ bs) ≡ hidden κ m s b ++ covered κ d 0 short (turned κ m s (message_of κ d m s b)) bs
  unfolding covered
  cover-full m s b bs e = ap (λ (k : ℕ). hidden κ k s b ++ covered κ d 0 short (turned κ k s (message_of κ d k s b)) bs) (mark_full n m short (length b) e)

  pub front-walk : (m : ℕ) (s : States) (b l : List ℕ) → length b ≡ n
      → walked κ d m short s (wholes n (b ++ l)) ≡ walked κ d 0 short (turned κ m s (message_of κ d m s b)) (wholes n l)
  front-walk m s b l e = ap (walked κ d m short s) (front-blocks n pos b l e) ∙ walk-full m s b (wholes n l) e

  -- a short block
  pub walk-short : (m : ℕ) (s : States) (x : List ℕ) → 0 < length x → length x < n
      → walked κ d m short s (blocks n x) ≡ turned κ (xor m short) s (message_of κ d (xor m short) s x)
  unfolding walked
  walk-short m s x h k =
      ap (walked κ d m short s) (one_block n pos x h k) ∙ ap (λ (j : ℕ). turned κ j s (message_of κ d j s x)) (mark_short n m short (length x) k)

  pub cover-short : (m : ℕ) (s : States) (x : List ℕ) → 0 < length x → length x < n → covered κ d m short s (blocks n x) ≡ hidden κ (xor m short) s x
  unfolding covered
  cover-short m s x h k =
      ap (covered κ d m short s) (one_block n pos x h k) ∙ append-nil (hidden κ (mark_of κ m short x) s x)
      ∙ ap (λ (j : ℕ). hidden κ j s x) (mark_short n m short (length x) k)

  -- nothing
  pub walk_none : (m : ℕ) (s : States) (x : List ℕ) → length x ≡ 0 → walked κ d m short s (blocks n x) ≡ s
  unfolding walked
  walk_none m s x e = ap (walked κ d m short s) (no_block n pos x e)

  pub cover-none : (m : ℕ) (s : States) (x : List ℕ) → length x ≡ 0 → covered κ d m short s (blocks n x) ≡ []
  unfolding covered
  cover-none m s x e = ap (covered κ d m short s) (no_block n pos x e)

  -- no whole block
  pub short-walk : (m : ℕ) (s : States) (l : List ℕ) → length l < n → walked κ d m short s (wholes n l) ≡ s
  unfolding walked
  short-walk m s l h = ap (walked κ d m short s) (short-blocks n pos l h)

  pub short-cover : (m : ℕ) (s : States) (l : List ℕ) → length l < n → covered κ d m short s (wholes n l) ≡ []
  unfolding covered
  short-cover m s l h = ap (covered κ d m short s) (short-blocks n pos l h)

  -- one whole block alone
  pub one-walk : (m : ℕ) (s : States) (b : List ℕ) → length b ≡ n → walked κ d m short s (wholes n b) ≡ turned κ m s (message_of κ d m s b)
  one-walk m s b e =
      ap (λ (x : List ℕ). walked κ d m short s (wholes n x)) (sym (append-nil b)) ∙ front-walk m s b [] e
      ∙ short-walk 0 (turned κ m s (message_of κ d m s b)) [] pos

  -- a loop's turn: the block from i to e of l is absorbed, under the mark m
  module _ (l : List ℕ) (i e : ℕ) (q : e ≡ i + n) (h : e ≤ length l) (m : ℕ) (s t : States)
      (et : t ≡ turned κ m s (message_of κ d m s (take (e - i) (drop i l)))) where
    abbrev block : List ℕ
    block = take (e - i) (drop i l)

    pub turn-walk : walked κ d 0 short t (wholes n (drop e l)) ≡ walked κ d m short s (wholes n (drop i l))
    turn-walk =
        ap (λ (x : States). walked κ d 0 short x (wholes n (drop e l))) et
        ∙ sym (ap (walked κ d m short s) (turn-blocks n pos l i e q h) ∙ walk-full m s block (wholes n (drop e l)) (block-long n pos l i e q h))

    -- what was output so far, after the part of out from i to e was borrowed and has come back as x
    pub turn-cover : (out x post all : List ℕ) → i ≤ length out → length x ≡ e - i → x ≡ hidden κ m s block
        → take i out ++ covered κ d m short s (wholes n (drop i l)) ≡ all
        → take e (take i out ++ (x ++ post)) ++ covered κ d 0 short t (wholes n (drop e l)) ≡ all
    turn-cover out x post all ho lx ex inv =
        let lt : length (take i out) ≡ i = length-take-le i out ho in
        let behind : List ℕ = covered κ d 0 short t (wholes n (drop e l)) in
        ap (λ (y : List ℕ). y ++ behind)
        (ap (take e) (sym (append_assoc (take i out) x post)) ∙ take_at (take i out ++ x) post e (length-append (take i out) x ∙ omega arith))
        ∙ append_assoc (take i out) x behind
        ∙ ap (λ (y : List ℕ). take i out ++ y)
        (ap₂ (λ (y : List ℕ) (z : States). y ++ covered κ d 0 short z (wholes n (drop e l))) ex et
        ∙ sym (ap (covered κ d m short s) (turn-blocks n pos l i e q h) ∙ cover-full m s block (wholes n (drop e l)) (block-long n pos l i e q h)))
        ∙ inv

-- what is equal from i on is equal from e on
pub drop-later : (i e : ℕ) (a b : List ℕ) → i ≤ e → drop i a ≡ drop i b → drop e a ≡ drop e b
drop-later i e a b h q =
    let k : i + (e - i) ≡ e = omega arith in
    ap (λ (j : ℕ). drop j a) (sym k) ∙ sym (drop-drop (e - i) i a) ∙ ap (drop (e - i)) q ∙ drop-drop (e - i) i b ∙ ap (λ (j : ℕ). drop j b) k
