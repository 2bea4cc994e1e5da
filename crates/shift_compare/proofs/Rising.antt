-- Lists whose numbers rise: what a filter keeps of rising numbers rises, and two such lists with the same numbers are the same list.
use Prim.Native.Nat.{ℕ, zero, suc, ◌+◌, ◌≤◌, ◌<◌}
use native.Mathlib.Omega.{arith}
use native.Mathlib.Nat.{not-suc-le-zero, le_of_suc-le-suc}
use mathlib.Core.Path.{◌≡◌, refl, sym, ap₂, subst}
use mathlib.Core.Bool.{Bool, true, false, cond}
use mathlib.Core.List.Memᴰ
use mathlib.Core.List.{List, [], ◌∷◌, Memᴰ}
use mathlib.Core.Logic.{⊎_elim}
use lib.ListN.{length, get_or}
use Rattle.shift_compare.specs.Kept.{kept}
use Rattle.shift_compare.specs.Promised.{Rises}
use Rattle.shift_compare.proofs.Members.{kept-has}

-- each number is below all after it
abbrev pub Climbs : List ℕ → Type 0
Climbs [] = Unit {0}
Climbs (x ∷ l) = ((y : ℕ) → Memᴰ y l → x < y) × Climbs l

climbs_cond : (x : ℕ) (l : List ℕ) (b : Bool) → ((y : ℕ) → Memᴰ y l → x < y) → Climbs l → Climbs (cond b (x ∷ l) l)
climbs_cond x l true h c = (h, c)
climbs_cond x l false h c = c

pub kept_climbs : (p : ℕ → Bool) (what : ℕ → ℕ) (i k : ℕ) → ((r s : ℕ) → i ≤ r → r < s → s < i + k → what r < what s) → Climbs (kept p what i k)
unfolding kept
kept_climbs p what i zero up = tt
kept_climbs p what i (suc k) up =
    climbs_cond (what i) (kept p what (suc i) k) (p i)
    (λ y m. let r = kept-has p what (suc i) k y m in subst (λ (z : ℕ). what i < z) r.is
    (up i r.at (omega arith) (omega (arith, r.low)) (omega (arith, r.high))))
    (kept_climbs p what (suc i) k (λ r s l g h. up r s (omega arith) g (omega arith)))

mem_at : (l : List ℕ) (i : ℕ) → i < length l → Memᴰ (get_or l i 0) l
mem_at [] i h = absurd (not-suc-le-zero h)
mem_at (x ∷ l) zero h = Memᴰ.head refl
mem_at (x ∷ l) (suc i) h = Memᴰ.tail (mem_at l i (le_of_suc-le-suc h))

pub climbs_rise : (l : List ℕ) → Climbs l → Rises l
climbs_rise [] c i j h m = absurd (not-suc-le-zero m)
climbs_rise (x ∷ l) c i zero h m = absurd (not-suc-le-zero h)
climbs_rise (x ∷ l) c zero (suc j) h m = c.0 (get_or l j 0) (mem_at l j (le_of_suc-le-suc m))
climbs_rise (x ∷ l) c (suc i) (suc j) h m = climbs_rise l c.1 i j (le_of_suc-le-suc h) (le_of_suc-le-suc m)

-- the first number of each is on the other, so both are the lowest
first_same : (x y : ℕ) (l m : List ℕ) → Climbs (x ∷ l) → Climbs (y ∷ m) → Memᴰ x (y ∷ m) → Memᴰ y (x ∷ l) → x ≡ y
first_same x y l m c d p q =
    ⊎_elim (λ (e : x ≡ y). e) (λ a. ⊎_elim (λ (e : y ≡ x). sym e) (λ b. absurd (omega (arith, c.0 y b, d.0 x a))) (Memᴰ.cases_cons q))
    (Memᴰ.cases_cons p)

-- what is after the first is on the other list, and is not its first
behind : (x y z : ℕ) (l m : List ℕ) → Climbs (x ∷ l) → x ≡ y → Memᴰ z l → Memᴰ z (y ∷ m) → Memᴰ z m
behind x y z l m c e p q = ⊎_elim (λ (h : z ≡ y). absurd (omega (arith, c.0 z p))) (λ r. r) (Memᴰ.cases_cons q)

pub climbs_same : (l m : List ℕ) → Climbs l → Climbs m → ((x : ℕ) → Memᴰ x l → Memᴰ x m) → ((x : ℕ) → Memᴰ x m → Memᴰ x l) → l ≡ m
climbs_same [] [] c d p q = refl
climbs_same [] (y ∷ m) c d p q = absurd (Memᴰ.not-nil (q y (Memᴰ.head refl)))
climbs_same (x ∷ l) [] c d p q = absurd (Memᴰ.not-nil (p x (Memᴰ.head refl)))
climbs_same (x ∷ l) (y ∷ m) c d p q =
    let e : x ≡ y = first_same x y l m c d (p x (Memᴰ.head refl)) (q y (Memᴰ.head refl)) in
    ap₂ (λ (a : ℕ) (s : List ℕ). a ∷ s) e
    (climbs_same l m c.1 d.1
    (λ z r. behind x y z l m c e r (p z (Memᴰ.tail r)))
    (λ z r. behind y x z m l d (sym e) r (q z (Memᴰ.tail r))))
