-- A text is its first block and the blocks of the rest: every law of the cutting goes by that one step.
use mathlib.Core.Path.{◌≡◌, refl, sym, ap, ap₂, ◌∙◌, subst}
use mathlib.Core.Logic.{◌⊎◌, inl, inr}
use Prim.Native.Nat.{ℕ, zero, suc, ◌+◌, ◌-◌, ◌*◌, ◌≤◌, ◌<◌, min}
use native.Mathlib.Nat.{not-suc-le-zero, le_refl, zero-mul, zero-add, suc-mul, add_comm, add_assoc}
use native.Mathlib.Omega.{arith}
use native.Mathlib.Decide.{dec_le}
use mathlib.Core.List.{List, [], ◌∷◌, ◌++◌, append-nil}
use lib.ListN.{length, take, drop, length-drop, length-take, length-append, drop_of_length-le}
use lib.Seq.{take_all, take_at, take-add, drop_at, drop-drop, length-take-le}
use Rattle.block.specs.Bytes.{AllBytes}
use Rattle.block.proofs.Lists.{nil_of, all_take, all_drop}
use Rattle.mode.specs.Blocks.{chop, blocks, chop_lengths, lengths}

-- a part that ends where the list does
cut : (t : List ℕ) (n k : ℕ) → k ≡ min n (length t) → take k t ≡ take n t
cut t n k q =
    elim (dec_le n (length t)) [
      | yes h ↦ let e : k ≡ n = omega arith in ap (λ (x : ℕ). take x t) e
      | no h ↦ take_all k t (omega arith) ∙ sym (take_all n t (omega arith))
    ]

past : (t : List ℕ) (k e : ℕ) → e ≡ min k (length t) → drop e t ≡ drop k t
past t k e q =
    elim (dec_le k (length t)) [
      | yes h ↦ let r : e ≡ k = omega arith in ap (λ (x : ℕ). drop x t) r
      | no h ↦ drop_of_length-le t {i = e} (omega arith) ∙ sym (drop_of_length-le t {i = k} (omega arith))
    ]

-- the blocks' lengths
abbrev pub sizes : List (List ℕ) → List ℕ
sizes [] = []
sizes (b ∷ bs) = length b ∷ sizes bs

length_sizes : (bs : List (List ℕ)) → length (sizes bs) ≡ length bs
length_sizes [] = refl
length_sizes (b ∷ bs) = ap suc (length_sizes bs)

module _ (n : ℕ) (pos : 0 < n) where
  -- any count that is large enough gives the same blocks
  chop-same : (f g : ℕ) (l : List ℕ) → length l ≤ f → length l ≤ g → chop n f l ≡ chop n g l
  unfolding chop
  chop-same zero zero l hf hg = refl
  chop-same zero (suc g) [] hf hg = refl
  chop-same zero (suc g) (x ∷ xs) hf hg = absurd (not-suc-le-zero hf)
  chop-same (suc f) zero [] hf hg = refl
  chop-same (suc f) zero (x ∷ xs) hf hg = absurd (not-suc-le-zero hg)
  chop-same (suc f) (suc g) [] hf hg = refl
  chop-same (suc f) (suc g) (x ∷ xs) hf hg =
      ap (λ (r : List (List ℕ)). take n (x ∷ xs) ∷ r)
      (chop-same f g (drop n (x ∷ xs)) (omega (arith, length-drop n (x ∷ xs))) (omega (arith, length-drop n (x ∷ xs))))

  -- an empty text has no block
  pub blocks-nil : blocks n [] ≡ []
  unfolding blocks chop
  blocks-nil = refl

  -- any other has a first block, and then the blocks of the rest
  pub blocks_more : (l : List ℕ) → 0 < length l → blocks n l ≡ take n l ∷ blocks n (drop n l)
  unfolding blocks chop
  blocks_more [] h = absurd (not-suc-le-zero h)
  blocks_more (x ∷ xs) h =
      ap (λ (r : List (List ℕ)). take n (x ∷ xs) ∷ r)
      (chop-same (length xs) (length (drop n (x ∷ xs))) (drop n (x ∷ xs)) (omega (arith, length-drop n (x ∷ xs))) (le_refl (length (drop n (x ∷ xs)))))

  lengths-same : (f g l : ℕ) → l ≤ f → l ≤ g → chop_lengths n f l ≡ chop_lengths n g l
  unfolding chop_lengths
  lengths-same zero zero l hf hg = refl
  lengths-same zero (suc g) zero hf hg = refl
  lengths-same zero (suc g) (suc l) hf hg = absurd (not-suc-le-zero hf)
  lengths-same (suc f) zero zero hf hg = refl
  lengths-same (suc f) zero (suc l) hf hg = absurd (not-suc-le-zero hg)
  lengths-same (suc f) (suc g) zero hf hg = refl
  lengths-same (suc f) (suc g) (suc l) hf hg =
      ap (λ (r : List ℕ). min n (suc l) ∷ r) (lengths-same f g (suc l - n) (omega arith) (omega arith))

  pub lengths-nil : lengths n 0 ≡ []
  unfolding lengths chop_lengths
  lengths-nil = refl

  pub lengths-more : (l : ℕ) → 0 < l → lengths n l ≡ min n l ∷ lengths n (l - n)
  unfolding lengths chop_lengths
  lengths-more zero h = absurd (not-suc-le-zero h)
  lengths-more (suc l) h =
      ap (λ (r : List ℕ). min n (suc l) ∷ r) (lengths-same l (suc l - n) (suc l - n) (omega arith) (le_refl (suc l - n)))

  -- what a loop over the blocks does in a turn: the block from i to e
  pub blocks-turn : (l : List ℕ) (i e : ℕ) → i < length l → e ≡ min (i + n) (length l)
      → blocks n (drop i l) ≡ take (e - i) (drop i l) ∷ blocks n (drop e l)
  blocks-turn l i e h q =
      let ld : length (drop i l) ≡ length l - i = length-drop i l in
      blocks_more (drop i l) (omega arith)
      ∙ ap₂ (λ (b r : List ℕ). b ∷ blocks n r) (sym (cut (drop i l) n (e - i) (omega arith))) (drop-drop n i l ∙ sym (past l (i + n) e q))

  -- the blocks have these lengths
  none-sizes : (l : List ℕ) → length l ≡ 0 → sizes (blocks n l) ≡ lengths n (length l)
  none-sizes l z = ap (λ (x : List ℕ). sizes (blocks n x)) (nil_of l z) ∙ ap sizes blocks-nil ∙ sym (ap (lengths n) z ∙ lengths-nil)

  pub blocks-sizes : (f : ℕ) (l : List ℕ) → length l ≤ f → sizes (blocks n l) ≡ lengths n (length l)
  blocks-sizes zero l h = none-sizes l (omega arith)
  blocks-sizes (suc f) l h =
      elim (dec_le 1 (length l)) [
        | yes p ↦
            ap sizes (blocks_more l p)
            ∙ ap₂ (λ (x : ℕ) (r : List ℕ). x ∷ r) (length-take n l) (blocks-sizes f (drop n l) (omega (arith, length-drop n l))
            ∙ ap (lengths n) (length-drop n l))
            ∙ sym (lengths-more (length l) p)
        | no p ↦ none-sizes l (omega arith)
      ]

  -- so there are as many
  pub count_same : (l : List ℕ) → length (blocks n l) ≡ length (lengths n (length l))
  count_same l = sym (length_sizes (blocks n l)) ∙ ap length (blocks-sizes (length l) l (le_refl (length l)))

  pub as_many : (s t : List ℕ) → length s ≡ length t → length (blocks n s) ≡ length (blocks n t)
  as_many s t e = count_same s ∙ ap (λ (l : ℕ). length (lengths n l)) e ∙ sym (count_same t)

  -- a block in front: full, or nothing after it
  pub blocks-cons : (x r : List ℕ) → 0 < length x → length x ≤ n → (length x ≡ n) ⊎ (r ≡ []) → blocks n (x ++ r) ≡ x ∷ blocks n r
  blocks-cons x r p h (inl e) =
      blocks_more (x ++ r) (omega (arith, length-append x r))
      ∙ ap₂ (λ (a b : List ℕ). a ∷ blocks n b) (take_at x r n e) (drop_at x r n e)
  blocks-cons x r p h (inr e) =
      ap (λ (t : List ℕ). blocks n (x ++ t)) e ∙ ap (blocks n) (append-nil x)
      ∙ blocks_more x p
      ∙ ap₂ (λ (a b : List ℕ). a ∷ blocks n b) (take_all n x h) (drop_of_length-le x {i = n} h ∙ sym e)

  -- the blocks of l around block j
  pub blocks-split : (j : ℕ) (l : List ℕ) → j * n < length l
      → blocks n l ≡ blocks n (take (j * n) l) ++ (take n (drop (j * n) l) ∷ blocks n (drop (j * n + n) l))
  blocks-split zero l h =
      let e0 : 0 * n ≡ 0 = zero-mul n in
      let e1 : 0 * n + n ≡ n = ap (λ (x : ℕ). x + n) e0 ∙ zero-add n in
      blocks_more l (subst (λ (x : ℕ). x < length l) e0 h)
      ∙ sym (ap₂ (λ (x y : ℕ). blocks n (take x l) ++ (take n (drop x l) ∷ blocks n (drop y l))) e0 e1
      ∙ ap (λ (r : List (List ℕ)). r ++ (take n l ∷ blocks n (drop n l))) blocks-nil)
  blocks-split (suc j) l h =
      let e : suc j * n ≡ n + j * n = suc-mul j n ∙ add_comm (j * n) n in
      let hl : n + j * n < length l = subst (λ (x : ℕ). x < length l) e h in
      let r = drop n l in
      let lr : length r ≡ length l - n = length-drop n l in
      let f = take n l in
      let lf : length f ≡ n = length-take-le n l (omega arith) in
      let ih = blocks-split j r (omega arith) in
      let front : blocks n (take (suc j * n) l) ≡ f ∷ blocks n (take (j * n) r) =
      ap (λ (x : ℕ). blocks n (take x l)) e ∙ ap (blocks n) (take-add n (j * n) l) ∙ blocks-cons f (take (j * n) r) (omega arith) (omega arith) (inl lf) in
      let e2 : suc j * n + n ≡ n + (j * n + n) = ap (λ (x : ℕ). x + n) e ∙ add_assoc n (j * n) n in
      blocks_more l (omega arith)
      ∙ ap (λ (x : List (List ℕ)). f ∷ x) ih
      ∙ ap₂ (λ (x : List (List ℕ)) (y : List ℕ). x ++ (take n y ∷ blocks n (drop (j * n + n) r))) (sym front)
      (drop-drop (j * n) n l ∙ ap (λ (x : ℕ). drop x l) (sym e))
      ∙ ap (λ (y : List ℕ). blocks n (take (suc j * n) l) ++ (take n (drop (suc j * n) l) ∷ blocks n y))
      (drop-drop (j * n + n) n l ∙ ap (λ (x : ℕ). drop x l) (sym e2))

  -- the first j * n bytes are j blocks
  pub first-blocks : (j : ℕ) (l : List ℕ) → j * n ≤ length l → length (blocks n (take (j * n) l)) ≡ j
  first-blocks zero l h = ap (λ (k : ℕ). length (blocks n (take k l))) (zero-mul n) ∙ ap length blocks-nil
  first-blocks (suc j) l h =
      let e : suc j * n ≡ n + j * n = suc-mul j n ∙ add_comm (j * n) n in
      let lf : length (take n l) ≡ n = length-take-le n l (omega arith) in
      ap (λ (k : ℕ). length (blocks n (take k l))) e
      ∙ ap (λ (x : List ℕ). length (blocks n x)) (take-add n (j * n) l)
      ∙ ap length (blocks-cons (take n l) (take (j * n) (drop n l)) (omega arith) (omega arith) (inl lf))
      ∙ ap suc (first-blocks j (drop n l) (omega (arith, length-drop n l)))

-- blocks of at most n bytes
pub data AllBlocks (n : ℕ) : List (List ℕ) → Type 0 where
  none : AllBlocks n []
  more : {b : List ℕ} {bs : List (List ℕ)} → AllBytes b → length b ≤ n → AllBlocks n bs → AllBlocks n (b ∷ bs)

pub all_blocks : (f n : ℕ) → 0 < n → (l : List ℕ) → length l ≤ f → AllBytes l → AllBlocks n (blocks n l)
all_blocks zero n pos l h hl = subst (AllBlocks n) (sym (ap (blocks n) (nil_of l (omega arith)) ∙ blocks-nil n pos)) none
all_blocks (suc f) n pos l h hl =
    elim (dec_le 1 (length l)) [
      | yes p ↦ subst (AllBlocks n) (sym (blocks_more n pos l p))
          (more (all_take n l hl) (omega (arith, length-take n l)) (all_blocks f n pos (drop n l) (omega (arith, length-drop n l)) (all_drop n l hl)))
      | no p ↦ subst (AllBlocks n) (sym (ap (blocks n) (nil_of l (omega arith)) ∙ blocks-nil n pos)) none
    ]
