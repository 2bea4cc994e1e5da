-- Two strings compared in two parts: zeros after a part do not matter, and strings of other lengths are not equal.
use Prim.Native.Nat.{ℕ, zero, suc, ◌-◌, ◌≤◌}
use native.Mathlib.Omega.{arith}
use mathlib.Core.Path.{◌≡◌, sym, refl, ap, ap₂, ◌∙◌}
use mathlib.Core.Bool.{Bool, true, false, ◌&&◌, and_assoc}
use mathlib.Core.List.{List, [], ◌∷◌, ◌++◌}
use lib.ListN.{length, take, drop, replicate, length-drop}
use lib.Seq.{length-take-le, take-length}
use lib.Pointwise.{pointwise}
use lib.Dec.{eqb}
use Rattle.block.specs.Bytes.{same_bytes}
use Rattle.block.specs.Blocks.{filled}
use Rattle.block.proofs.SameBytes.{same_true, same_behind}

-- the first n, and the rest
split : (n : ℕ) (x y : List ℕ) → n ≤ length x → n ≤ length y → same_bytes x y ≡ same_bytes (take n x) (take n y) && same_bytes (drop n x) (drop n y)
split zero x y hx hy = refl
split (suc n) [] y hx hy = absurd (omega arith)
split (suc n) (a ∷ x) [] hx hy = absurd (omega arith)
split (suc n) (a ∷ x) (b ∷ y) hx hy = ap (λ (t : Bool). eqb a b && t) (split n x y (omega arith) (omega arith)) ∙ sym (and_assoc (eqb a b) _ _)

tail : (n m : ℕ) (l : List ℕ) → m ≡ length l - n → take m (drop n l) ≡ drop n l
tail n m l e = ap (λ (k : ℕ). take k (drop n l)) (e ∙ sym (length-drop n l)) ∙ take-length (drop n l)

-- fronts that are equal leave the answer to the rest, as `==` compares it; fronts that differ give it
module _ (n : ℕ) (x y : List ℕ) (hx : n ≤ length x) (hy : n ≤ length y) where
  pub from-rest : (m k : ℕ) (v r : Bool) → v ≡ same_bytes (take n x) (take n y) → v ≡ true
      → r ≡ pointwise eqb (take m (drop n x)) (take k (drop n y)) → m ≡ length x - n → k ≡ length y - n → r ≡ same_bytes x y
  from-rest m k v r p h q hm hk =
      q ∙ ap₂ same_bytes (tail n m x hm) (tail n k y hk)
      ∙ ap (λ (b : Bool). b && same_bytes (drop n x) (drop n y)) (sym h ∙ p)
      ∙ sym (split n x y hx hy)

  pub from-front : (v : Bool) → v ≡ same_bytes (take n x) (take n y) → v ≡ false → v ≡ same_bytes x y
  from-front v p h =
      h ∙ ap (λ (b : Bool). b && same_bytes (drop n x) (drop n y)) (sym h ∙ p) ∙ sym (split n x y hx hy)

-- the first n, with zeros after both
pub same-filled : (n : ℕ) (x y p r : List ℕ) → n ≤ length x → n ≤ length y → p ≡ filled (take n x) → r ≡ filled (take n y)
    → same_bytes p r ≡ same_bytes (take n x) (take n y)
same-filled n x y p r hx hy hp hr =
    let e : length (take n x) ≡ length (take n y) = length-take-le n x hx ∙ sym (length-take-le n y hy) in
    ap₂ same_bytes (hp ∙ ap (λ (m : ℕ). take n x ++ replicate (16 - m) 0) e) hr ∙ same_behind (take n x) (take n y) _ e

pub unequal : (x y : List ℕ) → (length x ≡ length y → ⊥) → same_bytes x y ≡ false
unequal x y h = on (same_bytes x y) refl
  where
    on : (t : Bool) → same_bytes x y ≡ t → t ≡ false
    on true q = absurd (h (ap length (same_true x y q)))
    on false q = refl
