-- Lists of bytes: what keeps every element a byte, and lists written out element by element.
use mathlib.Core.Path.{◌≡◌, refl, sym, ap, ap₂, ◌∙◌}
use mathlib.Core.List.{List, [], ◌∷◌, ◌++◌, append-nil}
use Prim.Native.Nat.{ℕ, zero, suc, ◌+◌, ◌-◌, ◌≤◌, ◌<◌}
use native.Mathlib.Nat.{not-suc-le-zero, le_of_suc-le-suc}
use native.Mathlib.Numerals.{add-one}
use native.Mathlib.Omega.{arith}
use lib.ListN.{length, get_or, set, take, drop, replicate, drop_of_length-le, take-append-drop, length-drop}
use lib.Seq.{drop-cons, take_all, take_at, drop_at, take-append_seam, drop-append_seam, sets, sets-eq}
use Rattle.block.specs.Bytes.{AllBytes, part}

pub nil_of : (l : List ℕ) → length l ≡ 0 → l ≡ []
nil_of [] e = refl
nil_of (x ∷ l) e = absurd (native.Mathlib.Nat.suc-ne-zero (length l) e)

-- ---- every element is a byte

pub all_nil : AllBytes []
all_nil i = omega arith

pub all_tail : (a : ℕ) (s : List ℕ) → AllBytes (a ∷ s) → AllBytes s
all_tail a s h i = h (suc i)

pub all_cons : (a : ℕ) (s : List ℕ) → a < 256 → AllBytes s → AllBytes (a ∷ s)
all_cons a s h k zero = h
all_cons a s h k (suc i) = k i

pub all_take : (n : ℕ) (s : List ℕ) → AllBytes s → AllBytes (take n s)
all_take zero s h i = omega arith
all_take (suc n) [] h i = omega arith
all_take (suc n) (a ∷ s) h zero = h zero
all_take (suc n) (a ∷ s) h (suc i) = all_take n s (all_tail a s h) i

pub all_drop : (n : ℕ) (s : List ℕ) → AllBytes s → AllBytes (drop n s)
all_drop zero s h i = h i
all_drop (suc n) [] h i = omega arith
all_drop (suc n) (a ∷ s) h i = all_drop n s (all_tail a s h) i

pub all_append : (s t : List ℕ) → AllBytes s → AllBytes t → AllBytes (s ++ t)
all_append [] t hs ht i = ht i
all_append (a ∷ s) t hs ht zero = hs zero
all_append (a ∷ s) t hs ht (suc i) = all_append s t (all_tail a s hs) ht i

pub all_replicate : (n a : ℕ) → a < 256 → AllBytes (replicate n a)
all_replicate zero a h i = omega arith
all_replicate (suc n) a h zero = h
all_replicate (suc n) a h (suc i) = all_replicate n a h i

pub all_set : (l : List ℕ) (i v : ℕ) → AllBytes l → v < 256 → AllBytes (set l i v)
all_set [] i v h k j = h j
all_set (a ∷ l) zero v h k zero = k
all_set (a ∷ l) zero v h k (suc j) = h (suc j)
all_set (a ∷ l) (suc i) v h k zero = h zero
all_set (a ∷ l) (suc i) v h k (suc j) = all_set l i v (all_tail a l h) k j

-- ---- lists written out

pub length_part : (n : ℕ) (l : List ℕ) (i : ℕ) → length (part n l i) ≡ n
length_part zero l i = refl
length_part (suc n) l i = ap suc (length_part n l (i + 1))

pub all_part : (n : ℕ) (l : List ℕ) (i : ℕ) → AllBytes l → AllBytes (part n l i)
all_part zero l i h j = omega arith
all_part (suc n) l i h zero = h i
all_part (suc n) l i h (suc j) = all_part n l (i + 1) h j

pub part-take : (n : ℕ) (l : List ℕ) (i : ℕ) → i + n ≤ length l → part n l i ≡ take n (drop i l)
part-take zero l i h = refl
part-take (suc n) l i h =
    let k : i < length l = omega arith in
    ap (λ (t : List ℕ). get_or l i 0 ∷ t) (part-take n l (i + 1) (omega arith) ∙ ap (λ (j : ℕ). take n (drop j l)) (add-one i))
    ∙ sym (ap (take (suc n)) (drop-cons l i 0 k))

-- a list of n elements, written out
pub part-whole : (n : ℕ) (l : List ℕ) → length l ≡ n → part n l 0 ≡ l
part-whole n l e = part-take n l 0 (omega arith) ∙ take_all n l (omega arith)

-- stores over a whole list
pub overwrite : (vs d : List ℕ) → length d ≡ length vs → sets d 0 vs ≡ vs
overwrite vs d e =
    sets-eq vs d 0 (omega arith)
    ∙ ap (λ (t : List ℕ). vs ++ t) (drop_of_length-le d {i = 0 + length vs} (omega arith))
    ∙ append-nil vs

-- the two halves of a list of 2 n elements
pub two-takes : (n : ℕ) (b : List ℕ) → length b ≡ n + n → take n b ++ take n (drop n b) ≡ b
two-takes n b e =
    ap (λ (x : List ℕ). take n b ++ x) (take_all n (drop n b) (omega (arith, length-drop n b)))
    ∙ take-append-drop n b

-- two parts of known length, side by side, are known from the whole
pub append_inj : (p q s t : List ℕ) → length p ≡ length s → p ++ q ≡ s ++ t → (p ≡ s) × (q ≡ t)
append_inj p q s t n e = (
  sym (take-append_seam p q) ∙ ap (take (length p)) e ∙ take_at s t (length p) (sym n),
  sym (drop-append_seam p q) ∙ ap (drop (length p)) e ∙ drop_at s t (length p) (sym n),
)

-- a list is told by its first part and the rest
pub parts_told : (n : ℕ) (s t : List ℕ) → take n s ≡ take n t → drop n s ≡ drop n t → s ≡ t
parts_told n s t p q = sym (take-append-drop n s) ∙ ap₂ (λ (l m : List ℕ). l ++ m) p q ∙ take-append-drop n t

-- of a value n times: the first j, and all but the first j
pub take-replicate : (j n a : ℕ) → j ≤ n → take j (replicate n a) ≡ replicate j a
take-replicate zero n a h = refl
take-replicate (suc j) zero a h = absurd (not-suc-le-zero h)
take-replicate (suc j) (suc n) a h = ap (λ (r : List ℕ). a ∷ r) (take-replicate j n a (le_of_suc-le-suc h))

pub drop-replicate : (j n a : ℕ) → drop j (replicate n a) ≡ replicate (n - j) a
drop-replicate zero n a = let e : n ≡ n - 0 = omega arith in ap (λ (k : ℕ). replicate k a) e
drop-replicate (suc j) zero a = let e : 0 ≡ 0 - suc j = omega arith in ap (λ (k : ℕ). replicate k a) e
drop-replicate (suc j) (suc n) a = let e : n - j ≡ suc n - suc j = omega arith in drop-replicate j n a ∙ ap (λ (k : ℕ). replicate k a) e
