-- What the code looks up is a lookup of the file that the number names: so that file's entry and its opening are the current one's.
use Prim.Native.Nat.{ℕ}
use mathlib.Core.Path.{◌≡◌, refl, sym, ap, ◌∙◌}
use mathlib.Core.Bool.{Bool, true, false}
use mathlib.Core.List.{List}
use lib.Dec.{eqb}
use borrow.Author.Tests.{eqb-true, eqb-false}
use denote.Ref.{Bor}
use Rattle.status.specs.declared.checked.Answer.{Answer}
use Rattle.shift_lookup.specs.Lookup.{lookup_job}
use Rattle.shift_lookup.specs.Entry.{entry_of}
use Rattle.shift_jobs.specs.Opening.{job_opening}
use Rattle.shift_amend.specs.Source.{file_of}
use Rattle.shift_amend.specs.Amending.{in_file, answer_of, amended_entry, opened_in, amended_opening}
use Rattle.shift_amend.proofs.Holding.{tells, first-located, second-located}
use Rattle.shift_amend.proofs.Parts.{opens-first, opens-second}

module _ (a d s : Bor (List ℕ)) (job k : ℕ) (x : Answer) (q : s ≡ file_of k a d)
    (t : (k ≡ (amended_entry a.now d.now job).file) × (x ≡ answer_of (amended_entry a.now d.now job))) where
  -- the file is the amendment, or the day's
  by-file : (P : List ℕ → Type 0) → (k ≡ 1 → P a.now) → ((k ≡ 1 → ⊥) → P d.now) → P s.now
  by-file P one two = go (eqb k 1) refl
    where
      go : (b : Bool) → eqb k 1 ≡ b → P s.now
      go true e = rw (q, e) (one (eqb-true k 1 e))
      go false e = rw (q, e) (two (eqb-false k 1 e))

  pub lookup-told : x ≡ lookup_job s.now job
  lookup-told =
      let u = tells a.now d.now job k x t in
      by-file (λ f. x ≡ lookup_job f job) u.amendment u.day

  pub entry-told : in_file k (entry_of s.now job) ≡ amended_entry a.now d.now job
  entry-told =
      by-file (λ f. in_file k (entry_of f job) ≡ amended_entry a.now d.now job)
      (λ z. ap (λ m. in_file m (entry_of a.now job)) z ∙ first-located _ _ _ (sym t.0 ∙ z))
      (λ n. ap (λ m. in_file m (entry_of d.now job)) t.0 ∙ second-located _ _ _ (λ z. n (t.0 ∙ z)))

  pub opening-told : (ring out₀ : List ℕ) → opened_in k (job_opening s.now ring job out₀) ≡ amended_opening a.now d.now ring job out₀
  opening-told ring out₀ =
      by-file (λ f. opened_in k (job_opening f ring job out₀) ≡ amended_opening a.now d.now ring job out₀)
      (λ z. ap (λ m. opened_in m (job_opening a.now ring job out₀)) z ∙ opens-first _ _ _ _ _ (sym t.0 ∙ z))
      (λ n. ap (λ m. opened_in m (job_opening d.now ring job out₀)) t.0 ∙ opens-second _ _ _ _ _ (λ z. n (t.0 ∙ z)))
