-- What a lookup found tells which case of the current entry applies: a refusal is that of the file, which then has no entry; a
-- job that is missing is lacked by a file that passes.
use Prim.Native.Nat.{ℕ}
use native.Mathlib.Omega.{arith}
use mathlib.Core.Path.{◌≡◌, refl, sym, ap, subst, ◌∙◌}
use mathlib.Core.Bool.{Bool, true, false, true≢false}
use mathlib.Core.List.{List}
use Rattle.std.specs.Prelude.{Result, Ok, Err}
use mathlib.Core.Logic.{⊎_elim}
use lib.Dec.{eqb}
use borrow.Author.Tests.{eqb-true, eqb-false, eq-eqb, ne_eqb}
use Rattle.status.specs.declared.checked.Answer.{Answer}
use Rattle.shift_format.specs.Format.{first_edition, newest}
use Rattle.status.specs.Answers.{answer}
use Rattle.shift_check.specs.Check.{check_file}
use Rattle.status.proofs.Numbers.{refusal_range, refusal-some}
use Rattle.shift_check.proofs.Numbered.{check_numbered}
use Rattle.shift_lookup.specs.declared.answers.LookupError.{LookupError}
use Rattle.shift_lookup.specs.declared.answers.LookupError.TheVariants.{Missing, Refused}
use Rattle.shift_lookup.specs.Answers.{found_answer}
use Rattle.shift_lookup.specs.Lookup.{lookup_job}
use Rattle.shift_lookup.specs.Entry.{data_start, data_length, text_start, text_length, entry_of}
use Rattle.shift_lookup.proofs.Finding.{finds}
use Rattle.shift_amend.specs.Amending.{Amended, no_entry, in_file, answer_of, amended_entry}
use Rattle.shift_amend.specs.Inside.{refusing, finding}

-- a number is 0 or not
pub zero_or_not : {A : Type 0} (m : ℕ) → (m ≡ 0 → A) → ((m ≡ 0 → ⊥) → A) → A
zero_or_not {A} m zero some = go (eqb m 0) refl
  where
    go : (b : Bool) → eqb m 0 ≡ b → A
    go true e = zero (eqb-true m 0 e)
    go false e = some (eqb-false m 0 e)

abbrev number : Answer → ℕ
number x = x.number

-- ---- one file

module _ (f : List ℕ) (job : ℕ) where
  -- a lookup that refuses, whose answer is x: no entry
  pub no-entry : (x : Answer) → lookup_job f job ≡ x → (x.number ≡ 0 → ⊥) → entry_of f job ≡ no_entry x
  unfolding data_start data_length text_start text_length
  no-entry x q none = simp (q, ne_eqb _ _ none)

  -- the check refuses: its number and row are the lookup's
  pub stands : ((check_file f).number ≡ 0 → ⊥) → lookup_job f job ≡ check_file f
  unfolding lookup_job
  stands none = simp (ne_eqb _ _ none)

  pub entry-refused : ((check_file f).number ≡ 0 → ⊥) → entry_of f job ≡ no_entry (check_file f)
  entry-refused none = no-entry (check_file f) (stands none) none

  -- the check passes: the lookup's number is 0 or 32
  pub missing : (check_file f).number ≡ 0 → ((lookup_job f job).number ≡ 0 → ⊥) → lookup_job f job ≡ answer 32 0
  missing z none = (finds f job z).missing.1 (λ i h. none (ap (λ (x : Answer). x.number) (((finds f job z).found i).1 h)))

  pub entry-missing : (check_file f).number ≡ 0 → ((lookup_job f job).number ≡ 0 → ⊥) → entry_of f job ≡ no_entry (answer 32 0)
  entry-missing z none = no-entry (answer 32 0) (missing z none) (λ q. omega arith)

  -- the check itself never gives 32
  pub not-missing : (check_file f).number ≡ 32 → ⊥
  not-missing q = ⊎_elim (λ z. omega arith) (λ r. ⊎_elim (λ s. omega arith) (λ s. omega arith) r) (check_numbered first_edition newest f).number

  -- so what the lookup found tells whether the check refuses
  module _ (x : Result ℕ LookupError) (q : found_answer x ≡ lookup_job f job) where
    pub refuses-file : refusing x ≡ true → (check_file f).number ≡ 0 → ⊥
    refuses-file e z = by x e (ap number q)
      where
        by : (y : Result ℕ LookupError) → refusing y ≡ true → (found_answer y).number ≡ (lookup_job f job).number → ⊥
        by (Ok i) g h = true≢false (sym g)
        by (Err Missing) g h = true≢false (sym g)
        by (Err (Refused y)) g h =
            zero_or_not (lookup_job f job).number
            (λ m. refusal-some y (h ∙ m))
            (λ n. let m : (lookup_job f job).number ≡ 32 = ap number (missing z n) in ⊎_elim (λ r. omega arith) (λ r. omega arith) (refusal_range y))

    pub passes-file : refusing x ≡ false → (check_file f).number ≡ 0
    passes-file e = zero_or_not (check_file f).number (λ z. z) (λ n. absurd (by x e (ap number q ∙ ap number (stands n)) n))
      where
        by : (y : Result ℕ LookupError) → refusing y ≡ false → (found_answer y).number ≡ (check_file f).number → ((check_file f).number ≡ 0 → ⊥) → ⊥
        by (Ok i) g h n = n (sym h)
        by (Err Missing) g h n = not-missing (sym h)
        by (Err (Refused y)) g h n = true≢false g

    -- and whether it has the job
    pub finds-job : finding x ≡ true → (lookup_job f job).number ≡ 0
    finds-job e = sym (ap number q) ∙ by x e
      where
        by : (y : Result ℕ LookupError) → finding y ≡ true → (found_answer y).number ≡ 0
        by (Ok i) g = refl
        by (Err Missing) g = absurd (true≢false (sym g))
        by (Err (Refused y)) g = absurd (true≢false (sym g))

    pub lacks-job : finding x ≡ false → (lookup_job f job).number ≡ 0 → ⊥
    lacks-job e z = by x e (ap number q ∙ z)
      where
        by : (y : Result ℕ LookupError) → finding y ≡ false → (found_answer y).number ≡ 0 → ⊥
        by (Ok i) g h = true≢false g
        by (Err Missing) g h = omega arith
        by (Err (Refused y)) g h = refusal-some y h

-- ---- the five cases

module _ (a d : List ℕ) (job : ℕ) where
  pub amendment-refused : ((check_file a).number ≡ 0 → ⊥) → amended_entry a d job ≡ in_file 1 (no_entry (check_file a))
  unfolding amended_entry
  amendment-refused p = simp (ne_eqb _ _ p)

  pub day-refused : (check_file a).number ≡ 0 → ((check_file d).number ≡ 0 → ⊥) → amended_entry a d job ≡ in_file 2 (no_entry (check_file d))
  unfolding amended_entry
  day-refused p q = simp (eq-eqb _ _ p, ne_eqb _ _ q)

  module _ (p : (check_file a).number ≡ 0) (q : (check_file d).number ≡ 0) where
    pub in-amendment : (lookup_job a job).number ≡ 0 → amended_entry a d job ≡ in_file 1 (entry_of a job)
    unfolding amended_entry
    in-amendment h = simp (eq-eqb _ _ p, eq-eqb _ _ q, eq-eqb _ _ h)

    pub in-day : ((lookup_job a job).number ≡ 0 → ⊥) → (lookup_job d job).number ≡ 0 → amended_entry a d job ≡ in_file 2 (entry_of d job)
    unfolding amended_entry
    in-day n h = simp (eq-eqb _ _ p, eq-eqb _ _ q, ne_eqb _ _ n, eq-eqb _ _ h)

    pub in-neither : ((lookup_job a job).number ≡ 0 → ⊥) → ((lookup_job d job).number ≡ 0 → ⊥) → amended_entry a d job ≡ in_file 0 (no_entry (answer 32 0))
    unfolding amended_entry
    in-neither n m = simp (eq-eqb _ _ p, eq-eqb _ _ q, ne_eqb _ _ n, ne_eqb _ _ m)

  -- what holds in each case holds of the current entry
  pub five : (P : Amended → Type 0)
      → (((check_file a).number ≡ 0 → ⊥) → P (in_file 1 (no_entry (check_file a))))
      → ((check_file a).number ≡ 0 → ((check_file d).number ≡ 0 → ⊥) → P (in_file 2 (no_entry (check_file d))))
      → ((check_file a).number ≡ 0 → (check_file d).number ≡ 0 → (lookup_job a job).number ≡ 0 → P (in_file 1 (entry_of a job)))
      → ((check_file a).number ≡ 0 → (check_file d).number ≡ 0 → ((lookup_job a job).number ≡ 0 → ⊥) → (lookup_job d job).number ≡ 0 → P (in_file 2 (entry_of d job)))
      → ((check_file a).number ≡ 0 → (check_file d).number ≡ 0 → ((lookup_job a job).number ≡ 0 → ⊥) → ((lookup_job d job).number ≡ 0 → ⊥)
      → P (in_file 0 (no_entry (answer 32 0))))
      → P (amended_entry a d job)
  five P one two three four last =
      zero_or_not (check_file a).number
      (λ p. zero_or_not (check_file d).number
      (λ q. zero_or_not (lookup_job a job).number
      (λ h. subst P (sym (in-amendment p q h)) (three p q h))
      (λ n. zero_or_not (lookup_job d job).number
      (λ h. subst P (sym (in-day p q n h)) (four p q n h))
      (λ m. subst P (sym (in-neither p q n m)) (last p q n m))))
      (λ q. subst P (sym (day-refused p q)) (two p q)))
      (λ p. subst P (sym (amendment-refused p)) (one p))

  -- and so the two lookups' entries tell it
  pub told-first : ((check_file a).number ≡ 0 → ⊥) → in_file 1 (entry_of a job) ≡ amended_entry a d job
  told-first p = ap (in_file 1) (entry-refused a job p) ∙ sym (amendment-refused p)

  module _ (p : (check_file a).number ≡ 0) where
    pub told-second : ((check_file d).number ≡ 0 → ⊥) → in_file 2 (entry_of d job) ≡ amended_entry a d job
    told-second q = ap (in_file 2) (entry-refused d job q) ∙ sym (day-refused p q)

    module _ (q : (check_file d).number ≡ 0) where
      pub told-amendment : (lookup_job a job).number ≡ 0 → in_file 1 (entry_of a job) ≡ amended_entry a d job
      told-amendment h = sym (in-amendment p q h)

      pub told-day : ((lookup_job a job).number ≡ 0 → ⊥) → (lookup_job d job).number ≡ 0 → in_file 2 (entry_of d job) ≡ amended_entry a d job
      told-day n h = sym (in-day p q n h)

      pub told-neither : ((lookup_job a job).number ≡ 0 → ⊥) → ((lookup_job d job).number ≡ 0 → ⊥) → in_file 0 (entry_of d job) ≡ amended_entry a d job
      told-neither n m = ap (in_file 0) (entry-missing d job q m) ∙ sym (in-neither p q n m)

  -- ---- what the code looks up: a file, and a lookup

  -- the file tells whose entry it is
  pub first-located : (amended_entry a d job).file ≡ 1 → in_file 1 (entry_of a job) ≡ amended_entry a d job
  first-located =
      five (λ y. y.file ≡ 1 → in_file 1 (entry_of a job) ≡ y)
      (λ p k. ap (in_file 1) (entry-refused a job p))
      (λ p q k. absurd (omega arith))
      (λ p q h k. refl)
      (λ p q n h k. absurd (omega arith))
      (λ p q n m k. absurd (omega arith))

  pub second-located : ((amended_entry a d job).file ≡ 1 → ⊥) → in_file (amended_entry a d job).file (entry_of d job) ≡ amended_entry a d job
  second-located =
      five (λ y. (y.file ≡ 1 → ⊥) → in_file y.file (entry_of d job) ≡ y)
      (λ p n. absurd (n refl))
      (λ p q n. ap (in_file 2) (entry-refused d job q))
      (λ p q h n. absurd (n refl))
      (λ p q n h z. refl)
      (λ p q n m z. ap (in_file 0) (entry-missing d job q m))

  -- an entry of file f that is the current one: file, number and row are as the contract of `look_up` has them
  pub looked : (k : ℕ) (f : List ℕ) (x : Answer) → x ≡ lookup_job f job → in_file k (entry_of f job) ≡ amended_entry a d job
      → (k ≡ (amended_entry a d job).file) × (x ≡ answer_of (amended_entry a d job))
  looked k f x q e = (ap (λ (y : Amended). y.file) e, q ∙ ap answer_of e)

  -- and they are a lookup of that file: the amendment's if the file is 1, else the day's
  pub record Tells (k : ℕ) (x : Answer) : Type 0 where
    pub named : k ≡ (amended_entry a d job).file
    pub amendment : k ≡ 1 → x ≡ lookup_job a job
    pub day : (k ≡ 1 → ⊥) → x ≡ lookup_job d job

  pub tells : (k : ℕ) (x : Answer) → (k ≡ (amended_entry a d job).file) × (x ≡ answer_of (amended_entry a d job)) → Tells k x
  tells k x q = record {
    named = q.0;
    amendment = λ z. q.1 ∙ sym (ap answer_of (first-located (sym q.0 ∙ z)));
    day = λ n. q.1 ∙ sym (ap answer_of (second-located (λ z. n (q.0 ∙ z))));
  }
