-- What the comparison is worth: membership as worded; rising and apart; equal rows, and so itself; exchanged; another length is another body; stations.
use Prim.Native.Nat.{ℕ, ◌+◌, ◌-◌, ◌≤◌, ◌<◌}
use native.Mathlib.Omega.{arith}
use mathlib.Core.Path.{◌≡◌, refl, sym, ap, ◌∙◌}
use mathlib.Core.Bool.{false, not, ◌&&◌}
use mathlib.Core.List.{List, []}
use lib.ListN.{length}
use lib.Dec.{ltb}
use borrow.Author.Tests.{eq-eqb, le-ltb}
use Rattle.cipher.specs.Cipher.{size_of}
use Rattle.shift_format.specs.Format.{count_of, first_edition, newest, row_size, row_of, body_end}
use Rattle.shift_check.specs.Check.{check_file}
use Rattle.shift_format.proofs.Rows.{stretch-length, station_none}
use Rattle.shift_check.proofs.Passed.{passes, entry_in}
use Rattle.shift_check.proofs.Searches.{any_hit, any_only}
use Rattle.shift_same.specs.Same.{body_of, same_entry}
use Rattle.shift_compare.specs.Comparing.{job_at, has, has_job, differs, only_in, differing}
use Rattle.shift_compare.specs.Promised.{Same, Different, ExactlyListed, ListsRise, EqualRows, WithItself, FilesExchanged, OtherLength, OtherStation}
use Rattle.shift_compare.specs.Promised.{NoStation}
use Rattle.shift_compare.proofs.Keeping.{kept-none}
use Rattle.shift_compare.proofs.Turns.{jobs_rise, others}
use Rattle.shift_compare.proofs.Members.{same_tells, only-has, only_gets, differ-has, differ_gets}
use Rattle.shift_compare.proofs.Rising.{Climbs, kept_climbs, climbs_rise, climbs_same}
use Rattle.shift_compare.proofs.Cases.{lists-fit}

pub exactly_listed : ExactlyListed
exactly_listed f g job = record {
  first = (only-has f g job, only_gets f g job);
  second = (only-has g f job, only_gets g f job);
  differ = (differ-has f g job, differ_gets f g job);
}

-- ---- rising

only_climbs : (f g : List ℕ) → (check_file f).number ≡ 0 → Climbs (only_in f g)
unfolding only_in
only_climbs f g z = kept_climbs _ (job_at f) 0 (count_of f) (λ r s l b h. jobs_rise f z r s b (omega arith))

differ_climbs : (f g : List ℕ) → (check_file f).number ≡ 0 → Climbs (differing f g)
unfolding differing
differ_climbs f g z = kept_climbs _ (job_at f) 0 (count_of f) (λ r s l b h. jobs_rise f z r s b (omega arith))

pub lists_rise : ListsRise
lists_rise f g p q = record {
  rise-first = climbs_rise (only_in f g) (only_climbs f g p);
  rise-second = climbs_rise (only_in g f) (only_climbs g f q);
  rise-differ = climbs_rise (differing f g) (differ_climbs f g p);
  first-second = λ job a b. (only-has g f job b).1 (only-has f g job a).0;
  first-differ = λ job a b. (only-has f g job a).1 (differ-has f g job b).second;
  second-differ = λ job a b. (only-has g f job a).1 (differ-has f g job b).first;
}

-- ---- files with equal rows

no_other : (f g : List ℕ) → ((i : ℕ) → i < count_of f → (i < count_of g) × ((row_of g i).job ≡ (row_of f i).job)) → only_in f g ≡ []
unfolding only_in job_at
no_other f g same =
    kept-none (λ i. not (has_job g (job_at f i))) (job_at f) 0 (count_of f)
    (λ j l h. let s = same j (omega arith) in simp (any_hit (has g (job_at f j)) j (count_of g) s.0 (eq-eqb _ _ s.1)))

no_difference : (f g : List ℕ) → (check_file g).number ≡ 0 → ((i : ℕ) → i < count_of f → (i < count_of g) × ((row_of g i).job ≡ (row_of f i).job) × Same f g i i)
    → differing f g ≡ []
unfolding differing job_at
no_difference f g z same =
    kept-none (differs f g) (job_at f) 0 (count_of f)
    (λ j l h.
    let s = same j (omega arith) in
    any_only (λ k. has g (job_at f j) k && not (same_entry f g j k)) (count_of g) j s.0 (λ k m n. simp (others g z (job_at f j) j s.0 (sym s.1) k m n))
    ∙ simp (eq-eqb (job_at g j) (job_at f j) s.1, same_tells f g j j s.2))

fits_all : (x : List ℕ) → ltb (length x) 0 ≡ false
fits_all x = let l : 0 ≤ length x = omega arith in le-ltb (length x) 0 l

pub equal_rows : EqualRows
equal_rows f g x y z p q c same =
    let first = no_other f g (λ i l. (omega (arith, l, c), sym (same i l).0)) in
    let second = no_other g f (λ i l. let m : i < count_of f = omega (arith, l, c) in (m, (same i m).0)) in
    let differ = no_difference f g q (λ i l. (omega (arith, l, c), sym (same i l).0, (same i l).1)) in
    lists-fit f g x y z (record { first = p; second = q }) (simp (first, second, differ, fits_all x, fits_all y, fits_all z))
    ∙ simp (first, second, differ)

pub with_itself : WithItself
with_itself f x y z p =
    equal_rows f f x y z p p refl (λ i l. (refl, record { suite = refl; key = refl; ad-len = refl; nonce = refl; body = refl; station = refl }))

-- ---- the files exchanged

other_way : (f g : List ℕ) (job : ℕ) → Different f g job → Different g f job
other_way f g job h = record {
  first = h.second;
  second = h.first;
  other = λ s. h.other (record {
    suite = sym s.suite;
    key = sym s.key;
    ad-len = sym s.ad-len;
    nonce = sym s.nonce;
    body = sym s.body;
    station = sym s.station;
  });
}

pub files_exchanged : FilesExchanged
files_exchanged f g p q = record {
  first = refl;
  second = refl;
  differ = climbs_same (differing g f) (differing f g) (differ_climbs g f q) (differ_climbs f g p)
      (λ job m. differ_gets f g job (other_way g f job (differ-has g f job m)))
      (λ job m. differ_gets g f job (other_way f g job (differ-has f g job m)));
}

-- ---- lengths

body_length : (f : List ℕ) (i : ℕ) → (check_file f).number ≡ 0 → i < count_of f
    → length (body_of f i) ≡ (row_of f i).ad_len + (row_of f i).text_len + size_of (row_of f i).suite
unfolding body_end
body_length f i z l =
    let b = (entry_in first_edition newest f (passes first_edition newest f z) i l).body-in in
    stretch-length f (row_of f i).ad_at (body_end (row_of f i) - (row_of f i).ad_at) (omega arith) ∙ omega arith

pub other_length : OtherLength
other_length f g i j p q m n h =
    let s : size_of (row_of f i).suite ≡ size_of (row_of g j).suite = ap size_of h.suite in
    omega (arith, body_length f i p m, body_length g j q n, ap length h.body, h.ad-len)

-- ---- stations

pub other_station : OtherStation
other_station f g i j m n q h =
    differ_gets f g (row_of f i).job
    (record {
      first = record { row = i; within = m; has = refl };
      second = record { row = j; within = n; has = sym q };
      other = λ s. h s.station;
    })

pub no_station : NoStation
unfolding row_size
no_station f i e = sym (station_none f i _ (ap row_size e))
