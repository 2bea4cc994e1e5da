-- What was asked of amendments, from the five cases and from what a lookup finds in one file.
use Prim.Native.Nat.{ℕ}
use native.Mathlib.Omega.{arith}
use mathlib.Core.Path.{◌≡◌, refl, sym, ap, subst, ◌∙◌}
use mathlib.Core.List.{List}
use denote.Ref.{Bor}
use Rattle.status.specs.declared.checked.Answer.{Answer}
use Rattle.shift_format.specs.Part.{PartOf}
use Rattle.status.specs.Answers.{answer}
use Rattle.shift_check.specs.Check.{check_file}
use Rattle.shift_lookup.specs.Lookup.{lookup_job}
use Rattle.shift_lookup.specs.Entry.{Entry, entry_of}
use Rattle.shift_jobs.specs.Opening.{job_opening}
use Rattle.shift_lookup.specs.Promised.{Has}
use Rattle.shift_lookup.proofs.Finding.{finds}
use Rattle.shift_amend.specs.Amending.{Amended, amended_entry, holder, opened_in, amended_opening}
use Rattle.shift_amend.specs.Promised.{Lacks, InOrder, AmendmentWins, Neither, MissingExactly, PartOfHolder, NoRows}
use Rattle.shift_amend.proofs.Holding.{not-missing, entry-refused, entry-missing, amendment-refused, day-refused, in-amendment, in-day, in-neither, five}
use Rattle.shift_amend.proofs.Parts.{holder_none, holder_now, held, no_place, opens-second}

pub in_order : InOrder
in_order a d job = record { amendment = amendment-refused a d job; day = day-refused a d job }

-- ---- rows and the lookup's number, on a file that passes

module _ (f : List ℕ) (job : ℕ) (z : (check_file f).number ≡ 0) where
  found : (i : ℕ) → Has f job i → lookup_job f job ≡ answer 0 i
  found i h = ((finds f job z).found i).1 h

  number-zero : (i : ℕ) → Has f job i → (lookup_job f job).number ≡ 0
  number-zero i h = ap (λ (x : Answer). x.number) (found i h)

  -- a file that lacks the job
  number-some : Lacks f job → (lookup_job f job).number ≡ 0 → ⊥
  number-some none q = let m = sym (ap (λ (x : Answer). x.number) ((finds f job z).missing.1 none)) ∙ q in omega arith

  lacks : ((lookup_job f job).number ≡ 0 → ⊥) → Lacks f job
  lacks n i h = n (number-zero i h)

pub amendment_wins : AmendmentWins
amendment_wins a d job p =
    record {
      amendment = λ i h.
          let q = found a job p.amendment i h in (
            in-amendment a d job p.amendment p.day (number-zero a job p.amendment i h),
            ap (λ (x : Answer). x.number) q,
            ap (λ (x : Answer). x.row) q,
          );
      day = λ none i h.
          let q = found d job p.day i h in (
            in-day a d job p.amendment p.day (number-some a job p.amendment none) (number-zero d job p.day i h),
            ap (λ (x : Answer). x.number) q,
            ap (λ (x : Answer). x.row) q,
          );
    }

pub missing_exactly : MissingExactly
missing_exactly a d job =
    record {
      only = five a d job (λ x. x.entry.number ≡ 32 → Neither a d job)
          (λ p q. absurd (not-missing a job q))
          (λ p n q. absurd (not-missing d job q))
          (λ p q h z. absurd (omega arith))
          (λ p q n h z. absurd (omega arith))
          (λ p q n m z. record { pass = record { amendment = p; day = q }; amendment = lacks a job p n; day = lacks d job q m });
      told = λ h.
          let p = h.pass in
          in-neither a d job p.amendment p.day (number-some a job p.amendment h.amendment) (number-some d job p.day h.day);
    }

-- r lies in s where an entry says
abbrev At : Bor (List ℕ) → Bor (List ℕ) → Entry → Type 0
At s r e = PartOf s r e.ad_at e.ad_len

pub part_of_holder : PartOfHolder
part_of_holder a d r job =
    record {
      held = λ z. (subst (At (holder a d x) r) (one z), subst (At (holder a d x) r) (sym (one z)));
      refused = λ n.
          let k = no_place a.now d.now job n in
          (λ p. rw (holder_none a d x n, k.at, k.len) at p, λ p. rw (holder_none a d x n, k.at, k.len) p);
    }
  where
    x : Amended
    x = amended_entry a.now d.now job

    one : x.entry.number ≡ 0 → x.entry ≡ entry_of (holder a d x).now job
    one z = held a.now d.now job z ∙ ap (λ (f : List ℕ). entry_of f job) (sym (holder_now a d x))

pub no_rows : NoRows
no_rows a d job p none = record { entry = entries; opens = opens }
  where
    no_row : Lacks a job
    no_row i h = let w = h.within in omega arith

    no_number : (lookup_job a job).number ≡ 0 → ⊥
    no_number = number-some a job p no_row

    entries : (amended_entry a d job).entry ≡ entry_of d job
    entries =
        five a d job (λ x. x.entry ≡ entry_of d job)
        (λ n. absurd (n p))
        (λ z q. sym (entry-refused d job q))
        (λ z q h. absurd (no_number h))
        (λ z q n h. refl)
        (λ z q n m. sym (entry-missing d job q m))

    opens : (ring out₀ : List ℕ) → amended_opening a d ring job out₀ ≡ opened_in (amended_entry a d job).file (job_opening d ring job out₀)
    opens ring out₀ =
        sym (opens-second a d job ring out₀
        (five a d job (λ x. x.file ≡ 1 → ⊥)
        (λ n e. n p)
        (λ z q e. omega arith)
        (λ z q h e. no_number h)
        (λ z q n h e. omega arith)
        (λ z q n m e. omega arith)))
