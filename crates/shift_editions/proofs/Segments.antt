-- Laws on parts of lists (`stretch`): a part of a joined list lies in the first or the second list, and lists with one common
-- part give the same bytes and words inside it.
use Prim.Native.Nat.{ℕ, zero, suc, ◌+◌, ◌-◌, ◌≤◌, ◌<◌}
use native.Mathlib.Nat.{add-zero}
use native.Mathlib.Omega.{arith}
use mathlib.Core.Path.{◌≡◌, refl, sym, ap, ap₂, ◌∙◌}
use mathlib.Core.List.{List, ◌∷◌, ◌++◌}
use lib.ListN.{length, take, drop, get_or, length-drop}
use lib.Seq.{take-add, take-take, take_at, drop_at, drop-drop, length-take-le, take-append-le, drop-append-le, get_or-take, get_or-drop}
use Rattle.block.specs.Bytes.{part, word, value}
use Rattle.block.proofs.Lists.{part-take}
use Rattle.shift_format.specs.Part.{stretch}

-- after the first m elements
pub skip : (x y : List ℕ) (m k : ℕ) → length x ≡ m → drop (m + k) (x ++ y) ≡ drop k y
skip x y m k e = sym (drop-drop k m (x ++ y)) ∙ ap (drop k) (drop_at x y m e)

-- a part of a part
pub inside : (g : List ℕ) (p v k m : ℕ) → p + v ≤ length g → k + m ≤ v → stretch (stretch g p v) k m ≡ stretch g (p + k) m
inside g p v k m h l =
    let x = drop p g in
    let q : v ≡ k + (v - k) = omega arith in
    let long : length (take k x) ≡ k = length-take-le k x (omega (arith, length-drop p g)) in
    ap (λ (j : ℕ). take m (drop k (take j x))) q
    ∙ ap (λ (y : List ℕ). take m (drop k y)) (take-add k (v - k) x)
    ∙ ap (take m) (drop_at (take k x) (take (v - k) (drop k x)) k long)
    ∙ take-take m (v - k) (drop k x) (omega arith)
    ∙ ap (take m) (drop-drop k p g)

-- a part of the first list, of the second
pub in_first : (x y : List ℕ) (k m : ℕ) → k + m ≤ length x → stretch (x ++ y) k m ≡ stretch x k m
in_first x y k m h = ap (take m) (drop-append-le k x y (omega arith)) ∙ take-append-le m (drop k x) y (omega (arith, length-drop k x))

pub in_second : (x y : List ℕ) (n k m : ℕ) → length x ≡ n → stretch (x ++ y) (n + k) m ≡ stretch y k m
in_second x y n k m e = ap (take m) (skip x y n k e)

-- the whole of a list at the front
pub at_front : (x y : List ℕ) (m : ℕ) → length x ≡ m → stretch (x ++ y) 0 m ≡ x
at_front x y m e = take_at x y m e

-- words and bytes of a part
pub word-stretch : (n : ℕ) (f : List ℕ) (p : ℕ) → p + n ≤ length f → word n f p ≡ value (stretch f p n)
word-stretch n f p h = ap value (part-take n f p h)

pub byte-stretch : (f : List ℕ) (p n k : ℕ) → k < n → get_or f (p + k) 0 ≡ get_or (stretch f p n) k 0
byte-stretch f p n k l = sym (get_or-take n (drop p f) k 0 l ∙ get_or-drop p f k 0)

-- two lists have the same part: so what is read inside it is the same
module _ (f g : List ℕ) (q p v : ℕ) (hf : q + v ≤ length f) (hg : p + v ≤ length g) (e : stretch g p v ≡ stretch f q v) where
  pub seg_same : (k m : ℕ) → k + m ≤ v → stretch g (p + k) m ≡ stretch f (q + k) m
  seg_same k m l = sym (inside g p v k m hg l) ∙ ap (λ (x : List ℕ). stretch x k m) e ∙ inside f q v k m hf l

  pub word_in : (k m : ℕ) → k + m ≤ v → word m g (p + k) ≡ word m f (q + k)
  word_in k m l = word-stretch m g (p + k) (omega arith) ∙ ap value (seg_same k m l) ∙ sym (word-stretch m f (q + k) (omega arith))

  pub byte-in : (k : ℕ) → k < v → get_or g (p + k) 0 ≡ get_or f (q + k) 0
  byte-in k l = byte-stretch g p v k l ∙ ap (λ (x : List ℕ). get_or x k 0) e ∙ sym (byte-stretch f q v k l)

-- two lists are the same from a place on
part-from : (f g : List ℕ) (m a b : ℕ) → drop a g ≡ drop b f → part m g a ≡ part m f b
part-from f g zero a b e = refl
part-from f g (suc m) a b e =
    ap₂ (λ (x : ℕ) (l : List ℕ). x ∷ l)
    (ap (λ (k : ℕ). get_or g k 0) (sym (add-zero a)) ∙ sym (get_or-drop a g 0 0) ∙ ap (λ (l : List ℕ). get_or l 0 0) e ∙ get_or-drop b f 0 0
    ∙ ap (λ (k : ℕ). get_or f k 0) (add-zero b))
    (part-from f g m (a + 1) (b + 1) (sym (drop-drop 1 a g) ∙ ap (drop 1) e ∙ drop-drop 1 b f))

pub word-from : (f g : List ℕ) (m a b : ℕ) → drop a g ≡ drop b f → word m g a ≡ word m f b
word-from f g m a b e = ap value (part-from f g m a b e)

pub byte-from : (f g : List ℕ) (a b k : ℕ) → drop a g ≡ drop b f → get_or g (a + k) 0 ≡ get_or f (b + k) 0
byte-from f g a b k e = sym (get_or-drop a g k 0) ∙ ap (λ (l : List ℕ). get_or l k 0) e ∙ get_or-drop b f k 0
