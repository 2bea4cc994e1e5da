-- Where the current entry lies, and what opening it is, case by case: a refusal has no place, and a found entry is the
-- one-file entry of the file that holds it.
use Prim.Native.Nat.{ℕ, ◌+◌, ◌≤◌}
use native.Mathlib.Omega.{arith}
use mathlib.Core.Path.{◌≡◌, refl, sym, ap, ap₂, subst}
use mathlib.Core.Bool.{Bool, true, false, ◌&&◌, cond}
use mathlib.Core.List.{List}
use lib.ListN.{length}
use lib.Dec.{eqb}
use borrow.Author.Tests.{eq-eqb, ne_eqb, eqb-true, eqb-false}
use denote.Ref.{Bor}
use Rattle.status.specs.declared.checked.Answer.{Answer}
use Rattle.shift_format.specs.Part.{PartOf}
use Rattle.status.specs.Answers.{answer}
use Rattle.shift_check.specs.Check.{check_file}
use Rattle.shift_lookup.specs.Lookup.{lookup_job}
use Rattle.shift_lookup.specs.Entry.{Entry, entry_of}
use Rattle.shift_jobs.specs.Opening.{JobOpened, left, found_opening, job_opening}
use Rattle.shift_lookup.proofs.Places.{data_in}
use Rattle.shift_amend.specs.Source.{file_of}
use Rattle.shift_amend.specs.Amending.{Amended, amended_entry, holder, CurrentPart, opened_in, amended_opening}
use Rattle.shift_amend.proofs.Holding.{stands, missing, five}

-- the file that holds an entry
pub holder_none : {A : Type 0} (a d : A) (x : Amended) → (x.entry.number ≡ 0 → ⊥) → holder a d x ≡ a
unfolding holder
holder_none a d x n = simp (ne_eqb _ _ n)

pub holder_day : {A : Type 0} (a d : A) (x : Amended) → x.entry.number ≡ 0 → x.file ≡ 2 → holder a d x ≡ d
unfolding holder
holder_day a d x z q = simp (eq-eqb _ _ z, eq-eqb _ _ q)

pub holder_amendment : {A : Type 0} (a d : A) (x : Amended) → x.entry.number ≡ 0 → (x.file ≡ 2 → ⊥) → holder a d x ≡ a
unfolding holder
holder_amendment a d x z n = simp (eq-eqb _ _ z, ne_eqb _ _ n)

-- what a file's lookup found, opened, is the job's opening
pub found_opens : (f ring : List ℕ) (job : ℕ) (out₀ : List ℕ) (x : Answer) → x ≡ lookup_job f job → found_opening f ring x out₀ ≡ job_opening f ring job out₀
unfolding job_opening
found_opens f ring job out₀ x q = ap (λ (y : Answer). found_opening f ring y out₀) q

-- a refusal has no place
pub record NoPlace (x : Amended) : Type 0 where
  pub at : x.entry.ad_at ≡ 0
  pub len : x.entry.ad_len ≡ 0

module _ (a d : List ℕ) (job : ℕ) where
  pub no_place : ((amended_entry a d job).entry.number ≡ 0 → ⊥) → NoPlace (amended_entry a d job)
  no_place =
      five a d job (λ x. (x.entry.number ≡ 0 → ⊥) → NoPlace x)
      (λ p n. record { at = refl; len = refl })
      (λ p q n. record { at = refl; len = refl })
      (λ p q h n. absurd (n h))
      (λ p q m h n. absurd (n h))
      (λ p q m k n. record { at = refl; len = refl })

  -- an entry that is found is the one-file entry of its holder
  pub held : (amended_entry a d job).entry.number ≡ 0 → (amended_entry a d job).entry ≡ entry_of (holder a d (amended_entry a d job)) job
  unfolding holder
  held =
      five a d job (λ x. x.entry.number ≡ 0 → x.entry ≡ entry_of (holder a d x) job)
      (λ p z. absurd (p z))
      (λ p q z. absurd (q z))
      (λ p q h z. simp h)
      (λ p q n h z. simp h)
      (λ p q n m z. absurd (omega arith))

  -- so its associated data lies in that file
  pub part_in : (amended_entry a d job).entry.number ≡ 0
      → (amended_entry a d job).entry.ad_at + (amended_entry a d job).entry.ad_len ≤ length (holder a d (amended_entry a d job))
  part_in z =
      subst (λ (x : Entry). x.ad_at + x.ad_len ≤ length (holder a d (amended_entry a d job))) (sym (held z))
      (data_in (holder a d (amended_entry a d job)) job)

  -- one of the two files holds it
  pub holds-in : (amended_entry a d job).entry.number ≡ 0 → ((amended_entry a d job).file ≡ 1 → ⊥) → (amended_entry a d job).file ≡ 2
  holds-in =
      five a d job (λ x. x.entry.number ≡ 0 → (x.file ≡ 1 → ⊥) → x.file ≡ 2)
      (λ p z n. absurd (n refl))
      (λ p q z n. refl)
      (λ p q h z n. absurd (n refl))
      (λ p q m h z n. refl)
      (λ p q n m z k. absurd (omega arith))

  -- ---- opening

  -- a lookup that refuses is the answer of opening
  left_as : (f ring : List ℕ) (out₀ : List ℕ) (x : Answer) → lookup_job f job ≡ x → (x.number ≡ 0 → ⊥) → left x out₀ ≡ job_opening f ring job out₀
  unfolding job_opening
  left_as f ring out₀ x q n = simp (q, ne_eqb _ _ n)

  -- what opening gives, from the file that the number speaks of
  module _ (ring out₀ : List ℕ) where
    abbrev opened : Amended → JobOpened
    opened x = cond (eqb x.entry.number 0) (job_opening (holder a d x) ring job out₀) (left (answer x.entry.number x.entry.row) out₀)

    record Speaks (x : Amended) : Type 0 where
      pub amendment : x.file ≡ 1 → job_opening a ring job out₀ ≡ opened x
      pub day : (x.file ≡ 1 → ⊥) → job_opening d ring job out₀ ≡ opened x

    speaks : Speaks (amended_entry a d job)
    unfolding holder
    speaks =
        five a d job Speaks
        (λ p. record { amendment = λ k. simp (ne_eqb _ _ p) (sym (left_as a ring out₀ (check_file a) (stands a job p) p)); day = λ n. absurd (n refl) })
        (λ p q. record { amendment = λ k. absurd (omega arith); day = λ n. simp (ne_eqb _ _ q) (sym (left_as d ring out₀ (check_file d) (stands d job q) q)) })
        (λ p q h. record { amendment = λ k. simp h; day = λ n. absurd (n refl) })
        (λ p q n h. record { amendment = λ k. absurd (omega arith); day = λ k. simp h })
        (λ p q n m. record { amendment = λ k. absurd (omega arith); day = λ k. sym (left_as d ring out₀ (answer 32 0) (missing d job q m) (λ z. omega arith)) })

    pub opens-first : (amended_entry a d job).file ≡ 1 → opened_in 1 (job_opening a ring job out₀) ≡ amended_opening a d ring job out₀
    unfolding amended_opening
    opens-first e = ap₂ opened_in (sym e) (speaks.amendment e)

    pub opens-second : ((amended_entry a d job).file ≡ 1 → ⊥) → opened_in (amended_entry a d job).file (job_opening d ring job out₀)
        ≡ amended_opening a d ring job out₀
    unfolding amended_opening
    opens-second n = ap (opened_in (amended_entry a d job).file) (speaks.day n)

-- ---- the part that is returned

-- the bytes of the file that holds an entry
pub holder_now : (a d : Bor (List ℕ)) (x : Amended) → (holder a d x).now ≡ holder a.now d.now x
unfolding holder
holder_now a d x = go (eqb x.entry.number 0 && eqb x.file 2)
  where
    go : (b : Bool) → (cond b d a).now ≡ cond b d.now a.now
    go true = refl
    go false = refl

-- x is the current entry, unchanged located
module _ (a d : Bor (List ℕ)) (job : ℕ) (x : Amended) (is : x ≡ amended_entry a.now d.now job) where
  module _ (r : Bor (List ℕ)) where
    -- a part of the file that holds it, at its place
    placed : PartOf (holder a d x) r x.entry.ad_at x.entry.ad_len → CurrentPart a d r job
    placed p = subst (λ (y : Amended). PartOf (holder a d y) r y.entry.ad_at y.entry.ad_len) is p

    pub none-handed : (x.entry.number ≡ 0 → ⊥) → PartOf a r 0 0 → CurrentPart a d r job
    none-handed n p =
        let k = subst NoPlace (sym is) (no_place a.now d.now job (subst (λ (y : Amended). y.entry.number ≡ 0 → ⊥) is n)) in
        placed (rw (holder_none a d x n, k.at, k.len) p)

  module _ (z : x.entry.number ≡ 0) where
    held-in : (x.file ≡ 1 → ⊥) → x.file ≡ 2
    held-in = subst (λ (y : Amended). y.entry.number ≡ 0 → (y.file ≡ 1 → ⊥) → y.file ≡ 2) (sym is) (holds-in a.now d.now job) z

    -- the file that holds it is the one that its number names
    named : file_of x.file a d ≡ holder a d x
    named = go (eqb x.file 1) refl
      where
        go : (b : Bool) → eqb x.file 1 ≡ b → cond (eqb x.file 1) a d ≡ holder a d x
        go true e = let q = eqb-true x.file 1 e in simp e (sym (holder_amendment a d x z (λ m. omega arith)))
        go false e = simp e (sym (holder_day a d x z (held-in (eqb-false x.file 1 e))))

    -- it lies there
    pub lies-in : x.entry.ad_at + x.entry.ad_len ≤ length (file_of x.file a d).now
    lies-in =
        rw (named, holder_now a d x)
        (subst (λ (y : Amended). y.entry.number ≡ 0 → y.entry.ad_at + y.entry.ad_len ≤ length (holder a.now d.now y)) (sym is)
        (part_in a.now d.now job) z)

    pub handed : (s r : Bor (List ℕ)) → s ≡ file_of x.file a d → PartOf s r x.entry.ad_at x.entry.ad_len → CurrentPart a d r job
    handed s r q p = placed r (rw (q, named) at p)
