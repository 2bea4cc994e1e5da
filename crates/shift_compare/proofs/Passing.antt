-- The loop over both files. The invariant `Going` says of each of the three lists by itself that its numbers so far and those
-- still to come are the whole list (`Filled`); a turn keeps it, and at the end nothing is left to come.
use Prim.Native.Nat.{ℕ, ◌+◌, ◌≤◌, ◌<◌}
use native.Mathlib.Omega.{arith}
use native.Mathlib.Nat.{sub-zero, le_trans}
use mathlib.Core.Path.{◌≡◌, refl, subst}
use mathlib.Core.Bool.{Bool, true, not, ◌&&◌, cond}
use mathlib.Core.List.{List, [], ◌∷◌}
use lib.ListN.{length, set}
use Rattle.shift_format.specs.Format.{count_of, first_edition, newest}
use Rattle.shift_check.specs.Check.{check_file}
use Rattle.shift_check.proofs.Passed.{passes}
use Rattle.shift_compare.specs.Comparing.{job_at, has_job, differs, only_in, only_first, only_second, differing}
use Rattle.shift_compare.specs.Inside.{At, only_from, differ_from, Passable, Passed}
use Rattle.shift_compare.proofs.Keeping.{kept-end, kept-length}
use Rattle.shift_compare.proofs.Filling.{Filled, filled-start, filled-step, filled-length, filled_room, filled-end, more}

-- 22 says that there are at most 512 rows
pub few_rows : (f : List ℕ) → (check_file f).number ≡ 0 → count_of f ≤ 512
few_rows f z = (passes first_edition newest f z).head.few

-- row i of f and row j of g are next; a, b and c numbers are counted, in the lists x, y and z
pub record Going (f g : List ℕ) (write : Bool) (x₀ y₀ z₀ : List ℕ) (total i j a b c : ℕ) (x y z : List ℕ) : Type 0 where
  pub at : At f g i j
  pub sum : total ≡ count_of f + count_of g
  pub room : Passable f g write x₀ y₀ z₀
  pub first : Filled write (only_first f g) (only_from f g i) x₀ a x
  pub second : Filled write (only_second f g) (only_from g f j) y₀ b y
  pub differ : Filled write (differing f g) (differ_from f g i) z₀ c z

pub start : (f g : List ℕ) (write : Bool) (x y z : List ℕ) → Passable f g write x y z → Going f g write x y z (count_of f + count_of g) 0 0 0 0 0 x y z
unfolding only_in differing only_from differ_from
start f g write x y z h =
    record {
      at = record { sound = h.sound; in_f = omega arith; in_g = omega arith; past-f = λ k l n. absurd (omega arith); past-g = λ k l n. absurd (omega arith) };
      sum = refl;
      room = h;
      first = rw sub-zero (filled-start write _ x);
      second = rw sub-zero (filled-start write _ y);
      differ = rw sub-zero (filled-start write _ z);
    }

-- one list: the next number x goes after the c that are there, or not
module _ (write yes : Bool) (whole rest rest' buffer₀ buffer : List ℕ) (c x : ℕ) (room : write ≡ true → length whole ≤ length buffer₀)
    (q : rest ≡ cond yes (x ∷ rest') rest') (h : Filled write whole rest buffer₀ c buffer) where
  here : Filled write whole (cond yes (x ∷ rest') rest') buffer₀ c buffer
  here = subst (λ (l : List ℕ). Filled write whole l buffer₀ c buffer) q h

  pub go_on : (c' : ℕ) (buffer' : List ℕ) → c' ≡ cond yes (c + 1) c → buffer' ≡ cond (yes && write) (set buffer c x) buffer
      → Filled write whole rest' buffer₀ c' buffer'
  go_on c' buffer' m e = rw (m, e) (filled-step write yes whole rest' buffer₀ buffer c x room here)

  taken : yes ≡ true → Filled write whole (x ∷ rest') buffer₀ c buffer
  taken y = subst (λ (t : Bool). Filled write whole (cond t (x ∷ rest') rest') buffer₀ c buffer) y here

  -- there is room for it, and at most 512 are counted
  pub fits : length whole ≤ 512 → (yes ≡ true → write ≡ true → c < length buffer) × (yes ≡ true → c < 512)
  fits few = (
    λ y. filled_room write whole rest' buffer₀ buffer c x room (taken y),
    λ y. omega (arith, few, more whole rest' buffer₀ c x (taken y).left),
  )

-- a list has at most a job for each row
pub only-most : (f g : List ℕ) → length (only_in f g) ≤ count_of f
unfolding only_in
only-most f g = kept-length (λ i. not (has_job g (job_at f i))) (job_at f) 0 (count_of f)

pub differ-most : (f g : List ℕ) → length (differing f g) ≤ count_of f
unfolding differing
differ-most f g = kept-length (differs f g) (job_at f) 0 (count_of f)

pub only_few : (f g : List ℕ) → (check_file f).number ≡ 0 → length (only_in f g) ≤ 512
only_few f g z = le_trans (only-most f g) (few_rows f z)

pub differ_few : (f g : List ℕ) → (check_file f).number ≡ 0 → length (differing f g) ≤ 512
differ_few f g z = le_trans (differ-most f g) (few_rows f z)

only_end : (f g : List ℕ) (i : ℕ) → count_of f ≤ i → only_from f g i ≡ []
unfolding only_from
only_end f g i h = kept-end _ _ i (count_of f) h

differ-end : (f g : List ℕ) (i : ℕ) → count_of f ≤ i → differ_from f g i ≡ []
unfolding differ_from
differ-end f g i h = kept-end _ _ i (count_of f) h

-- nothing is left of a list
ended : (write : Bool) (whole rest buffer₀ buffer : List ℕ) (c : ℕ) → rest ≡ [] → Filled write whole rest buffer₀ c buffer
    → Filled write whole [] buffer₀ c buffer
ended write whole rest buffer₀ buffer c q h = subst (λ (l : List ℕ). Filled write whole l buffer₀ c buffer) q h

module _ (f g : List ℕ) (write : Bool) (x₀ y₀ z₀ : List ℕ) (total i j a b c : ℕ) (x y z : List ℕ) (h : Going f g write x₀ y₀ z₀ total i j a b c x y z) where
  pub finish : total ≤ i + j → Passed f g write x₀ y₀ z₀ (record { first = a; second = b; differ = c }) x y z
  finish e =
      let m = h.at.in_f in
      let n = h.at.in_g in
      let s = h.sum in
      let p = filled-end write _ x₀ x a (ended write _ _ x₀ x a (only_end f g i (omega arith)) h.first) in
      let q = filled-end write _ y₀ y b (ended write _ _ y₀ y b (only_end g f j (omega arith)) h.second) in
      let r = filled-end write _ z₀ z c (ended write _ _ z₀ z c (differ-end f g i (omega arith)) h.differ) in
      record { counts = λ k. record { first = p.0 k; second = q.0 k; differ = r.0 k }; first = p.1; second = q.1; differ = r.1 }

  -- the lists keep their lengths
  pub lengths : (length x ≡ length x₀) × (length y ≡ length y₀) × (length z ≡ length z₀)
  lengths = (
    filled-length write _ _ x₀ x a h.room.first h.first,
    filled-length write _ _ y₀ y b h.room.second h.second,
    filled-length write _ _ z₀ z c h.room.differ h.differ,
  )
