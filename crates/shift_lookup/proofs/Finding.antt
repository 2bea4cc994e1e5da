-- On a file that passes, the lookup finds the row that has the job exactly if one has; and since its job numbers rise, binary search finds the same.
use Prim.Native.Nat.{ℕ, ◌-◌}
use native.Mathlib.Omega.{arith}
use mathlib.Core.Path.{◌≡◌, refl, sym, ap, ◌∙◌}
use mathlib.Core.List.{List}
use mathlib.Core.Logic.{⊎_elim}
use borrow.Author.Tests.{eqb-false, eqb-true}
use Rattle.status.specs.declared.checked.Answer.{Answer}
use Rattle.shift_format.specs.Format.{count_of, first_edition, newest, row_size_of}
use Rattle.status.specs.Answers.{answer}
use Rattle.shift_check.specs.Check.{check_file}
use Rattle.shift_check.proofs.Searches.{first_says}
use Rattle.shift_check.proofs.Passed.{passes}
use Rattle.shift_check.proofs.Rising.{rising, only}
use Rattle.shift_lookup.specs.Lookup.{find_from, lookup_job}
use Rattle.shift_lookup.specs.Halving.{halving, jobs_of}
use Rattle.shift_lookup.specs.Promised.{Has, JobFound}
use Rattle.shift_lookup.proofs.Halves.{says}
use Rattle.shift_lookup.proofs.Lookups.{holding}

module _ (f : List ℕ) (job : ℕ) (z : (check_file f).number ≡ 0) where
  goes : lookup_job f job ≡ find_from (row_size_of f) f (count_of f) job 0
  unfolding lookup_job
  goes = simp z

  one : (i j : ℕ) → Has f job i → Has f job j → i ≡ j
  one i j p q = only (row_size_of f) f (count_of f) (passes first_edition newest f z).walk i j p.within q.within (p.right ∙ sym q.right)

  finds-it : (i : ℕ) → Has f job i → lookup_job f job ≡ answer 0 i
  unfolding find_from
  finds-it i p =
      goes
      ∙ ⊎_elim
      (λ h. sym h.gives ∙ ap (answer 0) (one h.at i (record { within = omega arith; right = eqb-true _ _ h.hits }) p))
      (λ h. absurd (eqb-false _ _ (h.none i (omega arith) (omega (arith, p.within))) p.right))
      (first_says _ _ _ (count_of f - 0) 0 (find_from (row_size_of f) f (count_of f) job 0) refl)

  misses-it : ((i : ℕ) → Has f job i → ⊥) → lookup_job f job ≡ answer 32 0
  unfolding find_from
  misses-it p =
      goes
      ∙ ⊎_elim
      (λ h. absurd (p h.at (record { within = omega arith; right = eqb-true _ _ h.hits })))
      (λ h. sym h.gives)
      (first_says _ _ _ (count_of f - 0) 0 (find_from (row_size_of f) f (count_of f) job 0) refl)

pub finds : JobFound
finds f job z =
    record {
      found = λ i. (
        λ q. let h = holding f job i q in record { within = h.within; right = h.right },
        finds-it f job z i,
      );
      missing = (
        λ q i p. let d : answer 32 0 ≡ answer 0 i = sym q ∙ finds-it f job z i p in let m = ap (λ (x : Answer). x.number) d in omega arith,
        misses-it f job z,
      );
      one = one f job z;
    }

-- binary search over all rows gives the lookup's answer
pub halving-finds : (f : List ℕ) (job : ℕ) → (check_file f).number ≡ 0 → (halving (jobs_of (row_size_of f) f) job 0 (count_of f)).says ≡ lookup_job f job
halving-finds f job z =
    let n = count_of f in
    ⊎_elim
    (λ r. r.gives ∙ sym (((finds f job z).found r.at).1 (record { within = omega (arith, r.below); right = r.has })))
    (λ g. g.gives ∙ sym ((finds f job z).missing.1 (λ i h. g.none i (omega arith) (omega (arith, h.within)) h.right)))
    (says (jobs_of (row_size_of f) f) job n 0 n n (omega arith) (omega arith) (rising (row_size_of f) f n (passes first_edition newest f z).walk))
