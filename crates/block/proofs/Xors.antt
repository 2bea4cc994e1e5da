-- The exclusive or of two strings of bytes: the laws of one byte, at every place.
use mathlib.Core.Path.{◌≡◌, refl, sym, ap, ap₂, ◌∙◌, subst}
use mathlib.Core.List.{List, [], ◌∷◌, ◌++◌}
use mathlib.Core.Logic.{◌↔◌}
use Prim.Native.Nat.{ℕ, zero, suc, ◌+◌, ◌*◌, ◌/◌, ◌%◌, ◌^◌, ◌≤◌, ◌<◌}
use native.Mathlib.Nat.{le_of_suc-le-suc, not-suc-le-zero, suc_inj, suc-ne-zero}
use native.Mathlib.Omega.{arith}
use lib.ListN.{length, get_or, take, drop, replicate}
use Rattle.block.specs.Words.{xor}
use Rattle.block.specs.Bytes.{AllBytes, value, bytes, part, word}
use Rattle.block.specs.Xors.{xors}
use Rattle.block.proofs.XorLaws.{assoc, comm, self, twice, cancel_l, below, low, high}
use Rattle.block.proofs.Lists.{all_tail, length_part, all_part}
use Rattle.block.proofs.Bytes.{value_lt, value-bytes, bytes-value, reach}

pub length-xors : (s t : List ℕ) → length s ≤ length t → length (xors s t) ≡ length s
length-xors [] t h = refl
length-xors (a ∷ s) [] h = absurd (not-suc-le-zero h)
length-xors (a ∷ s) (b ∷ t) h = ap suc (length-xors s t (le_of_suc-le-suc h))

pub all_xors : (s t : List ℕ) → AllBytes s → AllBytes t → AllBytes (xors s t)
all_xors [] t hs ht i = hs i
all_xors (a ∷ s) [] hs ht i = ht i
all_xors (a ∷ s) (b ∷ t) hs ht zero = below 8 (hs zero) (ht zero)
all_xors (a ∷ s) (b ∷ t) hs ht (suc i) = all_xors s t (all_tail a s hs) (all_tail b t ht) i

pub xors_assoc : (s t u : List ℕ) → xors (xors s t) u ≡ xors s (xors t u)
xors_assoc [] t u = refl
xors_assoc (a ∷ s) [] u = refl
xors_assoc (a ∷ s) (b ∷ t) [] = refl
xors_assoc (a ∷ s) (b ∷ t) (c ∷ u) = ap₂ (λ (x : ℕ) (r : List ℕ). x ∷ r) (assoc a b c) (xors_assoc s t u)

pub xors_comm : (s t : List ℕ) → xors s t ≡ xors t s
xors_comm [] [] = refl
xors_comm [] (b ∷ t) = refl
xors_comm (a ∷ s) [] = refl
xors_comm (a ∷ s) (b ∷ t) = ap₂ (λ (x : ℕ) (r : List ℕ). x ∷ r) (comm a b) (xors_comm s t)

pub xors_middle : (s t u v : List ℕ) → xors (xors s t) (xors u v) ≡ xors (xors s u) (xors t v)
xors_middle s t u v =
    xors_assoc s t (xors u v)
    ∙ ap (xors s) (sym (xors_assoc t u v) ∙ ap (λ (x : List ℕ). xors x v) (xors_comm t u) ∙ xors_assoc u t v)
    ∙ sym (xors_assoc s u (xors t v))

-- put on and taken off again
pub xors_cancel : (s t : List ℕ) → length s ≤ length t → xors (xors s t) t ≡ s
xors_cancel [] t h = refl
xors_cancel (a ∷ s) [] h = absurd (not-suc-le-zero h)
xors_cancel (a ∷ s) (b ∷ t) h =
    ap₂ (λ (x : ℕ) (r : List ℕ). x ∷ r) (comm (xor a b) b ∙ ap (xor b) (comm a b) ∙ twice b a) (xors_cancel s t (le_of_suc-le-suc h))

-- so equal sums with one string come from equal strings
pub xors_inj : (x p q : List ℕ) → length p ≤ length x → length q ≤ length x → xors x p ≡ xors x q → p ≡ q
xors_inj x p q hp hq e =
    sym (xors_cancel p x hp) ∙ ap (λ (l : List ℕ). xors l x) (xors_comm p x ∙ e ∙ xors_comm x q) ∙ xors_cancel q x hq

-- the XOR of the first n bytes is the first n of the XOR
pub take-xors : (n : ℕ) (s t : List ℕ) → take n (xors s t) ≡ xors (take n s) (take n t)
take-xors zero s t = refl
take-xors (suc n) [] t = refl
take-xors (suc n) (a ∷ s) [] = refl
take-xors (suc n) (a ∷ s) (b ∷ t) = ap (λ (r : List ℕ). xor a b ∷ r) (take-xors n s t)

pub drop-xors : (n : ℕ) (s t : List ℕ) → length s ≡ length t → drop n (xors s t) ≡ xors (drop n s) (drop n t)
drop-xors zero s t e = refl
drop-xors (suc n) [] [] e = refl
drop-xors (suc n) [] (b ∷ t) e = absurd (suc-ne-zero (length t) (sym e))
drop-xors (suc n) (a ∷ s) [] e = absurd (suc-ne-zero (length s) e)
drop-xors (suc n) (a ∷ s) (b ∷ t) e = drop-xors n s t (suc_inj e)

-- zeros XOR zeros
pub xors-zeros : (n : ℕ) → xors (replicate n 0) (replicate n 0) ≡ replicate n 0
xors-zeros zero = refl
xors-zeros (suc n) = ap₂ (λ (x : ℕ) (r : List ℕ). x ∷ r) (self 0) (xors-zeros n)

-- the XOR of two strings of n bytes is all zeros exactly if they are equal
xors_self : (s : List ℕ) → xors s s ≡ replicate (length s) 0
xors_self [] = refl
xors_self (a ∷ s) = ap₂ (λ (x : ℕ) (r : List ℕ). x ∷ r) (self a) (xors_self s)

xors_none : (s t : List ℕ) → length s ≡ length t → xors s t ≡ replicate (length s) 0 → s ≡ t
xors_none [] [] l e = refl
xors_none [] (b ∷ t) l e = absurd (suc-ne-zero (length t) (sym l))
xors_none (a ∷ s) [] l e = absurd (suc-ne-zero (length s) l)
xors_none (a ∷ s) (b ∷ t) l e =
    let h : xor a b ≡ 0 = cc in
    let r : xors s t ≡ replicate (length s) 0 = cc in
    ap₂ (λ (x : ℕ) (r : List ℕ). x ∷ r) (cancel_l a (self a ∙ sym h)) (xors_none s t (suc_inj l) r)

pub xors-zero : (n : ℕ) (s t : List ℕ) → length s ≡ n → length t ≡ n → (xors s t ≡ replicate n 0) ↔ (s ≡ t)
xors-zero n s t hs ht =
    let z : ◌≡◌ {A = List ℕ} (replicate (length s) 0) (replicate n 0) = ap (λ (m : ℕ). replicate m 0) hs in
    (λ e. xors_none s t (hs ∙ sym ht) (e ∙ sym z), λ e. ap (xors s) (sym e) ∙ xors_self s ∙ z)

-- what is past the end of the first does not count
pub xors-take : (s t : List ℕ) (n : ℕ) → length s ≤ n → xors s (take n t) ≡ xors s t
xors-take [] t n h = refl
xors-take (a ∷ s) t zero h = absurd (not-suc-le-zero h)
xors-take (a ∷ s) [] (suc n) h = refl
xors-take (a ∷ s) (b ∷ t) (suc n) h = ap (λ (r : List ℕ). xor a b ∷ r) (xors-take s t n (le_of_suc-le-suc h))

pub get_or-xors : (s t : List ℕ) (i : ℕ) → i < length s → i < length t → get_or (xors s t) i 0 ≡ xor (get_or s i 0) (get_or t i 0)
get_or-xors [] t i h k = absurd (not-suc-le-zero h)
get_or-xors (a ∷ s) [] i h k = absurd (not-suc-le-zero k)
get_or-xors (a ∷ s) (b ∷ t) zero h k = refl
get_or-xors (a ∷ s) (b ∷ t) (suc i) h k = get_or-xors s t i (le_of_suc-le-suc h) (le_of_suc-le-suc k)

pub xors_append : (s t u v : List ℕ) → length s ≡ length u → xors (s ++ t) (u ++ v) ≡ xors s u ++ xors t v
xors_append [] t [] v e = refl
xors_append [] t (b ∷ u) v e = absurd (suc-ne-zero (length u) (sym e))
xors_append (a ∷ s) t [] v e = absurd (suc-ne-zero (length s) e)
xors_append (a ∷ s) t (b ∷ u) v e = ap (λ (r : List ℕ). xor a b ∷ r) (xors_append s t u v (suc_inj e))

-- the XOR of two numbers goes byte by byte
pub bytes-xor : (k x y : ℕ) → bytes k (xor x y) ≡ xors (bytes k x) (bytes k y)
unfolding bytes
bytes-xor zero x y = refl
bytes-xor (suc k) x y =
    ap₂ (λ (b r : ℕ). b ∷ bytes k r) (low x y 8) (high x y 8)
    ∙ ap (λ (t : List ℕ). xor (x % 256) (y % 256) ∷ t) (bytes-xor k (x / 256) (y / 256))

-- and so does the XOR of two words that were read
value-xor : (s t : List ℕ) → length s ≡ length t → AllBytes s → AllBytes t → value (xors s t) ≡ xor (value s) (value t)
value-xor s t l hs ht =
    let k = length s in
    let bs : value s < 2 ^ (8 * k) = subst (λ (m : ℕ). value s < m) (reach k) (value_lt s hs) in
    let bt : value t < 2 ^ (8 * k) = subst (λ (m : ℕ). value t < m) (ap (λ (m : ℕ). 256 ^ m) (sym l) ∙ reach k) (value_lt t ht) in
    let b : xor (value s) (value t) < 256 ^ k = subst (λ (m : ℕ). xor (value s) (value t) < m) (sym (reach k)) (below (8 * k) bs bt) in
    ap value (sym (bytes-xor k (value s) (value t)
    ∙ ap₂ xors (bytes-value s hs) (ap (λ (m : ℕ). bytes m (value t)) l ∙ bytes-value t ht)))
    ∙ value-bytes k (xor (value s) (value t)) b

part-xors : (k : ℕ) (s t : List ℕ) (i : ℕ) → i + k ≤ length s → i + k ≤ length t → part k (xors s t) i ≡ xors (part k s i) (part k t i)
part-xors zero s t i hs ht = refl
part-xors (suc k) s t i hs ht =
    ap₂ (λ (x : ℕ) (r : List ℕ). x ∷ r) (get_or-xors s t i (omega arith) (omega arith)) (part-xors k s t (i + 1) (omega arith) (omega arith))

pub word-xors : (k : ℕ) (s t : List ℕ) (i : ℕ) → AllBytes s → AllBytes t → i + k ≤ length s → i + k ≤ length t → word k (xors s t) i ≡ xor (word k s i) (word k t i)
word-xors k s t i hs ht ls lt =
    ap value (part-xors k s t i ls lt)
    ∙ value-xor (part k s i) (part k t i) (length_part k s i ∙ sym (length_part k t i)) (all_part k s i hs) (all_part k t i ht)
