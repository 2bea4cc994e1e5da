-- A loop that fills a list from the front: what it has written so far is the front of the list that is wanted.
use mathlib.Core.Path.{◌≡◌, refl, sym, ap, ap₂, ◌∙◌}
use Prim.Native.Nat.{ℕ, suc, ◌+◌, ◌-◌, ◌/◌, ◌^◌, ◌≤◌, ◌<◌}
use native.Mathlib.Numerals.{add-one}
use native.Mathlib.Omega.{arith}
use mathlib.Core.List.{List, [], ◌∷◌, ◌++◌, append-nil, append_assoc}
use lib.ListN.{length, get_or, take, drop, set, replicate, length-drop, take-append-drop}
use lib.Seq.{take-suc, take-suc-set, take_all, drop-drop, set_at, append_snoc, length-take-le}
use Rattle.block.specs.Bytes.{bytes}
use Rattle.block.proofs.Bytes.{bytes-split}

-- one more element of the wanted list t
pub fill_step : (r t : List ℕ) (i v : ℕ) → i < length r → i < length t → take i r ≡ take i t → v ≡ get_or t i 0 → take (i + 1) (set r i v) ≡ take (i + 1) t
fill_step r t i v hr ht e q =
    rw add-one (take-suc-set r i v hr ∙ ap₂ (λ (l : List ℕ) (x : ℕ). l ++ (x ∷ [])) e q ∙ sym (take-suc t i 0 ht))

-- all of it
pub fill_done : (r t : List ℕ) (i : ℕ) → length r ≤ i → length t ≤ i → take i r ≡ take i t → r ≡ t
fill_done r t i hr ht e = sym (take_all i r hr) ∙ e ∙ take_all i t ht

-- one more byte of b before the zeros
pub fill_zeros : (b r : List ℕ) (i : ℕ) → i < length b → length b ≤ 16 → r ≡ take i b ++ replicate (16 - i) 0
    → set r i (get_or b i 0) ≡ take (i + 1) b ++ replicate (16 - (i + 1)) 0
fill_zeros b r i h k q =
    let v = get_or b i 0 in
    let z : List ℕ = replicate (16 - (i + 1)) 0 in
    let e : 16 - i ≡ suc (16 - (i + 1)) = omega arith in
    ap (λ (l : List ℕ). set l i v) (q ∙ ap (λ (j : ℕ). take i b ++ replicate j 0) e)
    ∙ set_at (take i b) 0 z v i (length-take-le i b (omega arith))
    ∙ sym (append_snoc (take i b) v z)
    ∙ ap (λ (l : List ℕ). l ++ z) (sym (ap (λ (j : ℕ). take j b) (add-one i) ∙ take-suc b i 0 h))

-- no zeros after a full block
pub full_zeros : (b : List ℕ) → length b ≡ 16 → b ++ replicate (16 - length b) 0 ≡ b
full_zeros b e =
    let z : 16 - length b ≡ 0 = omega arith in
    ap (λ (k : ℕ). b ++ replicate k 0) z ∙ append-nil b

-- a number that is divided by 256 loses its first byte
bytes_tail : (n x : ℕ) → drop 1 (bytes (suc n) x) ≡ bytes n (x / 256)
unfolding bytes
bytes_tail n x = refl

-- fifteen bytes: the first eight as a number, and the last eight as one that was divided by 256
pub fifteen-joined : (b : List ℕ) (lo hi : ℕ) → length b ≡ 15 → bytes 8 lo ≡ take 8 (drop 0 b) → bytes 8 hi ≡ take 8 (drop 7 b) → hi < 256 ^ 8
    → bytes 8 lo ++ bytes 8 (hi / 256) ≡ b ++ (0 ∷ [])
unfolding bytes
fifteen-joined b lo hi lb el eh hh =
    let z : hi / 256 / 256 ^ 7 ≡ 0 = omega arith in
    let l7 : length (drop 7 b) ≤ 8 = omega (arith, length-drop 7 b) in
    let rest : bytes 7 (hi / 256) ≡ drop 8 b = sym (bytes_tail 7 hi) ∙ ap (drop 1) (eh ∙ take_all 8 (drop 7 b) l7) ∙ drop-drop 1 7 b in
    ap₂ (λ (s t : List ℕ). s ++ t) el (bytes-split 7 1 (hi / 256) ∙ ap₂ (λ (s : List ℕ) (v : ℕ). s ++ bytes 1 v) rest z)
    ∙ sym (append_assoc (take 8 b) (drop 8 b) (0 ∷ []))
    ∙ ap (λ (l : List ℕ). l ++ (0 ∷ [])) (take-append-drop 8 b)
