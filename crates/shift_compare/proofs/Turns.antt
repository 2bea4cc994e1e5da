-- A turn of the merge: a job that is below the other file's next is in one file alone; equal jobs are in both.
use Prim.Native.Nat.{ℕ, ◌+◌, ◌≤◌, ◌<◌}
use native.Mathlib.Omega.{arith}
use native.Mathlib.Nat.{eq-or-lt_of_le}
use native.Mathlib.Decide.{dec_lt}
use mathlib.Core.Path.{◌≡◌, refl, sym, ap, ◌∙◌}
use mathlib.Core.Bool.{Bool, true, false, not, ◌&&◌}
use mathlib.Core.List.{List}
use mathlib.Core.Logic.{⊎_elim}
use borrow.Author.Tests.{eq-eqb, ne_eqb}
use Rattle.shift_format.specs.Format.{count_of, first_edition, newest, row_size_of}
use Rattle.shift_check.specs.Check.{check_file}
use Rattle.shift_check.proofs.Searches.{any_none, any_only}
use Rattle.shift_check.proofs.Passed.{passes}
use Rattle.shift_check.proofs.Rising.{rising}
use Rattle.shift_same.specs.Same.{same_entry}
use Rattle.shift_compare.specs.Comparing.{job_at, has, has_job, differs}
use Rattle.shift_compare.specs.declared.merge.Place.TheVariants.{First, Second, Differ}
use Rattle.shift_compare.specs.Inside.{At, goes, both_place, first_turn, second_turn, Turned, only_from, differ_from}
use Rattle.shift_compare.proofs.Keeping.{kept_step}

-- 25 says that the jobs rise
pub jobs_rise : (f : List ℕ) → (check_file f).number ≡ 0 → (i k : ℕ) → i < k → k < count_of f → job_at f i < job_at f k
unfolding job_at
jobs_rise f z = rising (row_size_of f) f (count_of f) (passes first_edition newest f z).walk

module _ (f : List ℕ) (z : (check_file f).number ≡ 0) where
  level : (i k : ℕ) → i ≤ k → k < count_of f → job_at f i ≤ job_at f k
  level i k h m = ⊎_elim (λ (e : i ≡ k). omega (arith, ap (job_at f) e)) (λ (g : i < k). omega (arith, jobs_rise f z i k g m)) (eq-or-lt_of_le h)

  -- a job between row j - 1 and row j is no row's
  none : (job j : ℕ) → ((k : ℕ) → k < j → job_at f k < job) → (j < count_of f → job < job_at f j) → (k : ℕ) → k < count_of f → has f job k ≡ false
  none job j past ahead k m =
      ne_eqb (job_at f k) job
      (λ (q : job_at f k ≡ job).
      elim (dec_lt k j) [
        | yes g ↦ omega (arith, past k g)
        | no g ↦ omega (arith, ahead (omega arith), level j k (omega arith) m)
      ])

  -- row j's job is no other row's
  pub others : (job j : ℕ) → j < count_of f → job ≡ job_at f j → (k : ℕ) → k < count_of f → (k ≡ j → ⊥) → has f job k ≡ false
  others job j h q k m ne =
      ne_eqb (job_at f k) job
      (λ (e : job_at f k ≡ job).
      elim (dec_lt k j) [
        | yes g ↦ omega (arith, jobs_rise f z k j g h)
        | no g ↦ elim (dec_lt j k) [
          | yes l ↦ omega (arith, jobs_rise f z j k l m)
          | no l ↦ ne (omega arith)
        ]
      ])

  -- so it is some row's
  has-row : (job j : ℕ) → j < count_of f → job ≡ job_at f j → has_job f job ≡ true
  has-row job j h q = any_only (has f job) (count_of f) j h (others job j h q) ∙ eq-eqb _ _ (sym q)

-- the first file's next job is below the second's: it is in the first alone
pub first_case : (f g : List ℕ) (i j : ℕ) → At f g i j → i < count_of f → (j < count_of g → job_at f i < job_at g j) → Turned f g i j (first_turn (job_at f i) i j)
unfolding only_from differ_from
first_case f g i j h m ahead =
    let no : (k : ℕ) → k < count_of g → has g (job_at f i) k ≡ false = none g h.sound.second (job_at f i) j (λ k l. h.past-g k l m) ahead in
    record {
      next = record {
        sound = h.sound;
        in_f = omega arith;
        in_g = h.in_g;
        past-f = λ k l n. ⊎_elim (λ (e : k ≡ i). omega (arith, ahead n, ap (job_at f) e)) (λ (z : k < i). h.past-f k z n) (eq-or-lt_of_le (omega arith));
        past-g = λ k l n. omega (arith, h.past-g k l m, jobs_rise f h.sound.first i (i + 1) (omega arith) n);
      };
      more = omega arith;
      first = kept_step (λ k. not (has_job g (job_at f k))) (job_at f) i (count_of f) m ∙ simp (any_none (has g (job_at f i)) (count_of g) no);
      second = refl;
      differ = kept_step (differs f g) (job_at f) i (count_of f) m ∙ simp (any_none (λ k. has g (job_at f i) k && not (same_entry f g i k)) (count_of g)
          (λ k l. simp (no k l)));
    }

-- the second's is below the first's: the same with the files exchanged, and the third list stays
pub second_case : (f g : List ℕ) (i j : ℕ) → At f g i j → j < count_of g → (i < count_of f → job_at g j < job_at f i) → Turned f g i j (second_turn (job_at g j) i j)
second_case f g i j h m ahead =
    let t = first_case g f j i (record {
      sound = record { first = h.sound.second; second = h.sound.first };
      in_f = h.in_g;
      in_g = h.in_f;
      past-f = h.past-g;
      past-g = h.past-f;
    }) m ahead in
    record {
      next = record { sound = h.sound; in_f = h.in_f; in_g = t.next.in_f; past-f = t.next.past-g; past-g = t.next.past-f };
      more = omega arith;
      first = refl;
      second = t.first;
      differ = refl;
    }

-- the next jobs are equal
both-first : (b : Bool) → goes (both_place b) First ≡ false
both-first true = refl
both-first false = refl

both-second : (b : Bool) → goes (both_place b) Second ≡ false
both-second true = refl
both-second false = refl

both-differ : (b : Bool) → goes (both_place b) Differ ≡ not b
both-differ true = refl
both-differ false = refl

pub both_case : (f g : List ℕ) (i j : ℕ) → At f g i j → i < count_of f → j < count_of g → job_at f i ≡ job_at g j
    → Turned f g i j (record { job = job_at f i; list = both_place (same_entry f g i j); i = i + 1; j = j + 1 })
unfolding only_from differ_from
both_case f g i j h m n q =
    let a = h.sound.first in
    let b = h.sound.second in
    let only : differs f g i ≡ not (same_entry f g i j)
    = any_only (λ k. has g (job_at f i) k && not (same_entry f g i k)) (count_of g) j n (λ k l z. simp (others g b (job_at f i) j n q k l z))
    ∙ simp (eq-eqb (job_at g j) (job_at f i) (sym q)) in
    record {
      next = record {
        sound = h.sound;
        in_f = omega arith;
        in_g = omega arith;
        past-f = λ k l z. omega (arith, level f a k i (omega arith) m, jobs_rise g b j (j + 1) (omega arith) z);
        past-g = λ k l z. omega (arith, level g b k j (omega arith) n, jobs_rise f a i (i + 1) (omega arith) z);
      };
      more = omega arith;
      first = kept_step (λ k. not (has_job g (job_at f k))) (job_at f) i (count_of f) m ∙ simp (has-row g b (job_at f i) j n q, both-first (same_entry f g i j));
      second = kept_step (λ k. not (has_job f (job_at g k))) (job_at g) j (count_of g) n ∙ simp (has-row f a (job_at g j) i m (sym q), both-second (same_entry f g i j));
      differ = kept_step (differs f g) (job_at f) i (count_of f) m ∙ simp (only, both-differ (same_entry f g i j));
    }
