-- The cases of the comparison: a refusal of either file, 36, and the lists.
use Prim.Native.Nat.{ℕ, ◌≤◌}
use mathlib.Core.Path.{◌≡◌, sym}
use mathlib.Core.Bool.{Bool, true, false, true≢false}
use mathlib.Core.List.{List}
use lib.ListN.{length}
use borrow.Author.Tests.{ltb-false, le-ltb, ne_eqb}
use native.Mathlib.Omega.{arith}
use Rattle.block.proofs.Tests.{both_false}
use Rattle.shift_format.specs.Format.{count_of}
use Rattle.status.specs.declared.checked.Refusal.{Refusal}
use Rattle.status.specs.Answers.{answer, refusal_answer}
use Rattle.shift_check.specs.Check.{check_file}
use Rattle.status.proofs.Numbers.{refusal-some}
use Rattle.shift_compare.specs.declared.Counts.{Counts}
use Rattle.shift_compare.specs.Comparing.{only_first, only_second, differing, refused_in, Comparison, stopped, too_long_of, listed, comparison}
use Rattle.shift_compare.specs.Inside.{Sound, Passable, Passed, longer}
use Rattle.shift_compare.proofs.Passing.{only-most, differ-most}

module _ (f g x y z : List ℕ) where
  pub first-refused : (r : Refusal) → check_file f ≡ refusal_answer r → comparison f g x y z ≡ stopped (refused_in 1 (refusal_answer r)) x y z
  unfolding comparison
  first-refused r p = simp (p, ne_eqb _ _ (refusal-some r))

  pub second-refused : (r : Refusal) → (check_file f).number ≡ 0 → check_file g ≡ refusal_answer r
      → comparison f g x y z ≡ stopped (refused_in 2 (refusal_answer r)) x y z
  unfolding comparison
  second-refused r p q = simp (p, q, ne_eqb _ _ (refusal-some r))

  module _ (s : Sound f g) where
    pub too_long : too_long_of f g x y z ≡ true → comparison f g x y z ≡ stopped (refused_in 0 (answer 36 0)) x y z
    unfolding comparison
    too_long t = simp (s.first, s.second, t)

    pub lists-fit : too_long_of f g x y z ≡ false → comparison f g x y z ≡ listed f g x y z
    unfolding comparison
    lists-fit t = simp (s.first, s.second, t)

    -- a pass that writes nothing needs no room
    pub counting : Passable f g false x y z
    counting =
        record { sound = s; first = λ w. absurd (true≢false (sym w)); second = λ w. absurd (true≢false (sym w)); differ = λ w. absurd (true≢false (sym w)) }

    pub writing : too_long_of f g x y z ≡ false → Passable f g true x y z
    writing t =
        let a = both_false _ _ t in
        let b = both_false _ _ a.1 in
        record { sound = s; first = λ w. ltb-false _ _ a.0; second = λ w. ltb-false _ _ b.0; differ = λ w. ltb-false _ _ b.1 }

    pub all_listed : too_long_of f g x y z ≡ false → (n : Counts) (x' y' z' : List ℕ) → Passed f g true x y z n x' y' z'
        → ◌≡◌ {A = Comparison} (record {
          finding = record { number = 0; file = 0; row = 0; first = n.first; second = n.second; differ = n.differ };
          first = x';
          second = y';
          differ = z';
        }) (comparison f g x y z)
    all_listed t n x' y' z' h = simp (lists-fit t, h.counts, h.first, h.second, h.differ)

-- after a pass that only counts: the counts tell whether a list is too long
module _ (f g x₀ y₀ z₀ : List ℕ) (n : Counts) (x y z : List ℕ) (h : Passed f g false x₀ y₀ z₀ n x y z) where
  pub counted : longer n (length x) (length y) (length z) ≡ too_long_of f g x₀ y₀ z₀
  counted = rw (h.counts, h.first, h.second, h.differ)

-- no list is longer than its file has rows
pub roomy : (f g x y z : List ℕ) (n : Counts) → (n.first ≡ count_of f) × (n.second ≡ count_of g) × (n.differ ≡ count_of f)
    → longer n (length x) (length y) (length z) ≡ false → too_long_of f g x y z ≡ false
roomy f g x y z n m t =
    let a = both_false _ _ t in
    let b = both_false _ _ a.1 in
    let i : n.first ≤ length x = ltb-false _ _ a.0 in
    let j : n.second ≤ length y = ltb-false _ _ b.0 in
    let k : n.differ ≤ length z = ltb-false _ _ b.1 in
    let p = le-ltb (length x) (length (only_first f g)) (omega (arith, only-most f g, i, m.0)) in
    let q = le-ltb (length y) (length (only_second f g)) (omega (arith, only-most g f, j, m.1)) in
    let r = le-ltb (length z) (length (differing f g)) (omega (arith, differ-most f g, k, m.2)) in
    simp (p, q, r)

-- lists that are unchanged
module _ (f g x₀ y₀ z₀ x y z : List ℕ) (b : Bool) (h : (b ≡ too_long_of f g x₀ y₀ z₀) × (x ≡ x₀) × (y ≡ y₀) × (z ≡ z₀)) where
  pub still : b ≡ too_long_of f g x y z
  still = rw (h.1, h.2, h.3) h.0

  pub as-they-were : comparison f g x y z ≡ comparison f g x₀ y₀ z₀
  as-they-were = rw (h.1, h.2, h.3)
