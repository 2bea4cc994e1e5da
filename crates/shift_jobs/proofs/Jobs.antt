-- Opening a job: the answer is the opener's on the entry's own bytes; its number is 0, 2, 6, 8 or a refusal of the lookup; the
-- output changes only with 0 and 8.
use Prim.Native.Nat.{ℕ}
use native.Mathlib.Omega.{arith}
use mathlib.Core.Path.{◌≡◌, refl, sym, ap, subst}
use mathlib.Core.Bool.{Bool, true, false, not, cond}
use mathlib.Core.List.{List}
use mathlib.Core.Logic.{inl, inr, ⊎_elim}
use lib.ListN.{length}
use lib.Dec.{eqb}
use borrow.Author.Tests.{eqb-true, eqb-false}
use Rattle.comet.specs.Answers.{opened_as}
use Rattle.shift_format.specs.Format.{row_size_of, row_of}
use Rattle.status.specs.Answers.{answer}
use Rattle.shift_format.specs.Inside.{EntryIn}
use Rattle.shift_lookup.specs.Lookup.{lookup_job}
use Rattle.shift_jobs.specs.Opening.{left, row_opening, job_opening}
use Rattle.shift_jobs.specs.Promised.{Answered, OpensEntry, OpeningAnswers}
use Rattle.shift_lookup.proofs.Lookups.{found_in}
use Rattle.shift_jobs.proofs.Entries.{entry_right, entry_text, entry-opened, row_opens}
use Rattle.shift_lookup.proofs.Numbered.{lookup_numbered}

pub opens : OpensEntry
unfolding job_opening
opens f ring job i out q g = simp q (sym (row_opens f ring i (found_in f job i q) g out))

row-answered : (f ring : List ℕ) (i : ℕ) (out₀ : List ℕ) → EntryIn (row_size_of f) f i → Answered out₀ (row_opening f ring i out₀)
unfolding row_opening
row-answered f ring i out₀ h = ring-case (eqb (length ring) 256) refl
  where
    opened-case : (n : Bool) (b : Bool) (text : List ℕ) → let x = opened_as (cond n 6 0) b text out₀ in Answered out₀ (left (answer x.number 0) x.out)
    opened-case true b text = record { number = inr (inr (inl refl)); row = inl refl; wiped = λ e. absurd (omega arith); kept = λ z e. refl }
    opened-case false true text = record { number = inl refl; row = inl refl; wiped = λ e. absurd (omega arith); kept = λ z e. absurd (z refl) }
    opened-case false false text = record { number = inr (inr (inr (inl refl))); row = inl refl; wiped = λ e. refl; kept = λ z e. absurd (e refl) }

    ring-case : (b : Bool) → eqb (length ring) 256 ≡ b → Answered out₀ (row_opening f ring i out₀)
    ring-case true e =
        let g = eqb-true (length ring) 256 e in
        subst (Answered out₀) (row_opens f ring i h g out₀)
        (rw (entry-opened f ring i h g out₀) (opened-case (not (eqb (length out₀) (row_of f i).text_len)) (entry_right f ring i) (entry_text f ring i)))
    ring-case false e = simp e (record { number = inr (inl refl); row = inl refl; wiped = λ z. absurd (omega arith); kept = λ z y. refl })

pub answered : OpeningAnswers
unfolding job_opening
answered f ring job out₀ = lookup-case (eqb (lookup_job f job).number 0) refl
  where
    lookup-case : (b : Bool) → eqb (lookup_job f job).number 0 ≡ b → Answered out₀ (job_opening f ring job out₀)
    lookup-case true e =
        let z = eqb-true (lookup_job f job).number 0 e in
        let i = (lookup_job f job).row in
        simp e (row-answered f ring i out₀ (found_in f job i (ap (λ (m : ℕ). answer m i) z)))
    lookup-case false e =
        let t = lookup_numbered f job (eqb-false (lookup_job f job).number 0 e) in
        simp e (record {
          number = ⊎_elim (λ z. absurd (eqb-false (lookup_job f job).number 0 e z)) (λ r. inr (inr (inr (inr r)))) t.number;
          row = t.row;
          wiped = λ m. absurd (⊎_elim (λ z. omega arith) (λ r. ⊎_elim (λ s. omega arith) (λ s. omega arith) r) t.number);
          kept = λ z y. refl;
        })
