-- What a lookup that finds a row says: the file passes, the row has the job, and can be read and opened.
use Prim.Native.Nat.{ℕ, ◌-◌, ◌<◌}
use native.Mathlib.Omega.{arith}
use mathlib.Core.Path.{◌≡◌, sym, ap, ◌∙◌}
use mathlib.Core.List.{List}
use mathlib.Core.Logic.{⊎_elim}
use borrow.Author.Tests.{eqb-true}
use Rattle.status.specs.declared.checked.Answer.{Answer}
use Rattle.shift_format.specs.Format.{count_of, first_edition, newest, row_size_of, row_at, row_of}
use Rattle.status.specs.Answers.{answer}
use Rattle.shift_check.specs.Check.{check_file}
use Rattle.shift_format.specs.Inside.{EntryIn}
use Rattle.shift_check.proofs.Searches.{first_says}
use Rattle.status.proofs.Numbers.{refusal-some}
use Rattle.shift_check.proofs.Passed.{Passes, passes, both_zero, entry_in}
use Rattle.shift_lookup.specs.declared.answers.LookupError.{LookupError}
use Rattle.shift_lookup.specs.declared.answers.LookupError.TheVariants.{Missing, Refused}
use Rattle.shift_lookup.specs.Answers.{lookup_error_answer}
use Rattle.shift_lookup.specs.Lookup.{find_from, lookup_job}

-- row i of a file that passes has the job
pub record Holding (f : List ℕ) (job i : ℕ) : Type 0 where
  pub file : Passes first_edition newest f
  pub within : i < count_of f
  pub right : (row_of f i).job ≡ job

found-says : (w : ℕ) (f : List ℕ) (n job i : ℕ) → find_from w f n job 0 ≡ answer 0 i → (i < n) × ((row_at w f i).job ≡ job)
unfolding find_from
found-says w f n job i q =
    ⊎_elim
    (λ h. let s : h.at ≡ i = ap (λ (x : Answer). x.row) h.gives in (omega arith, eqb-true _ _ (rw s at h.hits)))
    (λ h. absurd (let z = ap (λ (x : Answer). x.number) h.gives in omega arith))
    (first_says _ _ _ (n - 0) 0 (answer 0 i) q)

pub holding : (f : List ℕ) (job i : ℕ) → lookup_job f job ≡ answer 0 i → Holding f job i
unfolding lookup_job
holding f job i q =
    let b = both_zero (check_file f) (find_from (row_size_of f) f (count_of f) job 0) (ap (λ (x : Answer). x.number) q) in
    let s = found-says (row_size_of f) f (count_of f) job i (sym b.1 ∙ q) in
    record { file = passes first_edition newest f b.0; within = s.0; right = s.1 }

-- a row that a lookup found can be read and opened
pub found_in : (f : List ℕ) (job i : ℕ) → lookup_job f job ≡ answer 0 i → EntryIn (row_size_of f) f i
found_in f job i q = let h = holding f job i q in entry_in first_edition newest f h.file i h.within

-- only a found row has number 0
pub error_some : (e : LookupError) → (lookup_error_answer e).number ≡ 0 → ⊥
error_some Missing q = omega arith
error_some (Refused x) q = refusal-some x q
