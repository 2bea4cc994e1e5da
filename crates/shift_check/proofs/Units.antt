-- A file that passes, the unit of one entry altered: the check still passes if the new byte is a unit, and else refuses that row with 30.
use Prim.Native.Nat.{ℕ, ◌+◌, ◌≤◌, ◌<◌}
use native.Mathlib.Omega.{arith}
use mathlib.Core.Path.{◌≡◌, sym}
use mathlib.Core.Bool.{not, cond}
use mathlib.Core.List.{List}
use mathlib.Core.Logic.{◌⊎◌, ⊎_elim}
use lib.ListN.{length, get_or, set, length-set}
use lib.Seq.{get_or-set_same, get_or-set_other}
use lib.Dec.{eqb}
use borrow.Author.Tests.{not-false}
use Rattle.block.proofs.Tests.{both_false}
use Rattle.shift_format.specs.Format.{count_of, row_size_of, row_at, body_end, data_job, unit_of, is_unit}
use Rattle.status.specs.Answers.{answer}
use Rattle.shift_check.specs.Check.{bad_data, check_between}
use Rattle.shift_check.proofs.Passed.{Passes}
use Rattle.shift_check.proofs.Alike.{word_same}
use Rattle.shift_check.proofs.Kept.{body-check}

module _ (low high : ℕ) (f : List ℕ) (p : Passes low high f) (i v : ℕ) (within : i < count_of f) where
  -- the file with v for the unit of entry i
  abbrev altered : List ℕ
  altered = set f ((row_at (row_size_of f) f i).ad_at + 4) v

  pub unit-long : length altered ≡ length f
  unit-long = length-set f ((row_at (row_size_of f) f i).ad_at + 4) v

  byte-other : (k : ℕ) → (k ≡ (row_at (row_size_of f) f i).ad_at + 4 → ⊥) → get_or altered k 0 ≡ get_or f k 0
  byte-other k ne = get_or-set_other f ((row_at (row_size_of f) f i).ad_at + 4) k v 0 ne

  -- the unit lies in the body
  unit-in : (row_at (row_size_of f) f i).ad_at + 5 ≤ body_end (row_at (row_size_of f) f i)
  unfolding body_end
  unit-in = omega (arith, (p.walk.rows i within).size.ad-low)

  pub unit-outside : (k : ℕ) → (k < (row_at (row_size_of f) f i).ad_at) ⊎ (body_end (row_at (row_size_of f) f i) ≤ k) → get_or altered k 0 ≡ get_or f k 0
  unit-outside k = ⊎_elim (λ a. byte-other k (λ q. omega arith)) (λ a. byte-other k (λ q. omega (arith, unit-in)))

  -- the job number is unchanged
  data-unit : bad_data altered (row_at (row_size_of f) f i) ≡ not (is_unit v)
  unfolding bad_data
  data-unit =
      let r = row_at (row_size_of f) f i in
      let s = p.walk.rows i within in
      let job = (both_false (not (eqb (data_job f r) r.job)) (not (is_unit (unit_of f r))) s.held).0 in
      let unit : get_or altered (r.ad_at + 4) 0 ≡ v = get_or-set_same f (r.ad_at + 4) v 0 (omega (arith, unit-in, s.place.ends)) in
      simp (word_same altered f 4 r.ad_at (λ k a b. byte-other k (λ q. omega arith)), not-false (eqb (data_job f r) r.job) job, unit)

  pub unit-check : check_between low high altered ≡ cond (not (is_unit v)) (answer 30 i) (answer 0 0)
  unit-check = rw (sym data-unit) (body-check f altered unit-long low high p i within unit-outside)
