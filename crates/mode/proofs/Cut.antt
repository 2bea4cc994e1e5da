-- Whole blocks and the bytes after them: what was cut off stays cut off when more bytes come.
use mathlib.Core.Path.{◌≡◌, sym, ap, ap₂, ◌∙◌, subst}
use Prim.Native.Nat.{ℕ, zero, suc, ◌+◌, ◌*◌, ◌/◌, ◌%◌, ◌≤◌, ◌<◌}
use native.Mathlib.Nat.{zero-mul, suc-mul, div-add-mod', mod-lt, mul-add-div_right, add-mul, div-eq_of_lt}
use native.Mathlib.Omega.{arith}
use mathlib.Core.List.{List, [], ◌∷◌, ◌++◌, append_assoc, append-nil}
use lib.ListN.{length, take, drop, length-append, length-drop, take-append-drop}
use lib.Seq.{take-append-add, drop-append-add, take-append-le, drop-append-le, length-take-le}
use Rattle.block.proofs.Lists.{nil_of}
use Rattle.mode.specs.Blocks.{blocks}
use Rattle.mode.specs.Walk.{whole, rest}
use Rattle.mode.proofs.Blocks.{blocks-nil, blocks_more}

module _ (n : ℕ) (pos : 0 < n) where
  -- whole blocks in front
  pub blocks-append : (j : ℕ) (x r : List ℕ) → length x ≡ j * n → blocks n (x ++ r) ≡ blocks n x ++ blocks n r
  blocks-append zero x r e =
      let z : x ≡ [] = nil_of x (e ∙ zero-mul n) in
      ap (λ (y : List ℕ). blocks n (y ++ r)) z ∙ sym (ap (λ (y : List ℕ). blocks n y ++ blocks n r) z
      ∙ ap (λ (y : List (List ℕ)). y ++ blocks n r) (blocks-nil n pos))
  blocks-append (suc j) x r e =
      let e' : length x ≡ j * n + n = e ∙ suc-mul j n in
      let lx : 0 < length x = omega arith in
      let ih = blocks-append j (drop n x) r (length-drop n x ∙ omega arith) in
      blocks_more n pos (x ++ r) (omega (arith, length-append x r))
      ∙ ap₂ (λ (a b : List ℕ). a ∷ blocks n b) (take-append-le n x r (omega arith)) (drop-append-le n x r (omega arith))
      ∙ ap (λ (b : List (List ℕ)). take n x ∷ b) ih
      ∙ sym (ap (λ (b : List (List ℕ)). b ++ blocks n r) (blocks_more n pos x lx))

  module _ (l : List ℕ) where
    least : length l / n * n ≤ length l
    least = omega (arith, div-add-mod' (length l) n)

    pub length_whole : length (whole n l) ≡ length l / n * n
    unfolding whole
    length_whole = length-take-le (length l / n * n) l least

    pub length_rest : length (rest n l) ≡ length l % n
    unfolding rest
    length_rest = length-drop (length l / n * n) l ∙ omega (arith, div-add-mod' (length l) n)

    pub rest-less : length (rest n l) < n
    rest-less = subst (λ (k : ℕ). k < n) (sym length_rest) (mod-lt (length l) pos)

    pub whole-rest : whole n l ++ rest n l ≡ l
    unfolding whole rest
    whole-rest = take-append-drop (length l / n * n) l

    -- fewer bytes than a block
    pub whole-short : length l < n → whole n l ≡ []
    whole-short h = nil_of (whole n l) (length_whole ∙ ap (λ (q : ℕ). q * n) (div-eq_of_lt h) ∙ zero-mul n)

    pub rest-short : length l < n → rest n l ≡ l
    rest-short h = sym (ap (λ (x : List ℕ). x ++ rest n l) (whole-short h)) ∙ whole-rest

    pub blocks-whole-rest : blocks n (whole n l) ++ blocks n (rest n l) ≡ blocks n l
    blocks-whole-rest = sym (blocks-append (length l / n) (whole n l) (rest n l) length_whole) ∙ ap (blocks n) whole-rest

  -- whole blocks in front stay whole, and change nothing after them
  module _ (j : ℕ) (x l : List ℕ) (e : length x ≡ j * n) where
    places : length (x ++ l) / n * n ≡ length x + length l / n * n
    places =
        ap (λ (k : ℕ). k / n * n) (length-append x l ∙ ap (λ (k : ℕ). k + length l) e)
        ∙ ap (λ (q : ℕ). q * n) (mul-add-div_right pos j (length l))
        ∙ add-mul j (length l / n) n
        ∙ ap (λ (k : ℕ). k + length l / n * n) (sym e)

    pub whole_append : whole n (x ++ l) ≡ x ++ whole n l
    unfolding whole
    whole_append = ap (λ (k : ℕ). take k (x ++ l)) places ∙ take-append-add x l (length l / n * n)

    pub rest-append : rest n (x ++ l) ≡ rest n l
    unfolding rest
    rest-append = ap (λ (k : ℕ). drop k (x ++ l)) places ∙ drop-append-add x l (length l / n * n)

  -- more bytes after l
  pub whole-more : (l p : List ℕ) → whole n (l ++ p) ≡ whole n l ++ whole n (rest n l ++ p)
  whole-more l p =
      ap (λ (x : List ℕ). whole n (x ++ p)) (sym (whole-rest l)) ∙ ap (whole n) (append_assoc (whole n l) (rest n l) p)
      ∙ whole_append (length l / n) (whole n l) (rest n l ++ p) (length_whole l)

  pub rest_more : (l p : List ℕ) → rest n (l ++ p) ≡ rest n (rest n l ++ p)
  rest_more l p =
      ap (λ (x : List ℕ). rest n (x ++ p)) (sym (whole-rest l)) ∙ ap (rest n) (append_assoc (whole n l) (rest n l) p)
      ∙ rest-append (length l / n) (whole n l) (rest n l ++ p) (length_whole l)

  pub blocks-more-bytes : (l p : List ℕ) → blocks n (whole n (l ++ p)) ≡ blocks n (whole n l) ++ blocks n (whole n (rest n l ++ p))
  blocks-more-bytes l p = ap (blocks n) (whole-more l p) ∙ blocks-append (length l / n) (whole n l) (whole n (rest n l ++ p)) (length_whole l)

  -- the cut that a loop finds: whole blocks in front, less than a block after
  pub cut-whole : (j : ℕ) (x r : List ℕ) → length x ≡ j * n → length r < n → whole n (x ++ r) ≡ x
  cut-whole j x r e h = whole_append j x r e ∙ ap (λ (y : List ℕ). x ++ y) (whole-short r h) ∙ append-nil x

  pub cut-rest : (j : ℕ) (x r : List ℕ) → length x ≡ j * n → length r < n → rest n (x ++ r) ≡ r
  cut-rest j x r e h = rest-append j x r e ∙ rest-short r h
