-- The row of the current entry, or of a refusal, is one file's, so it is at most 512 and fits C's number.
use Prim.Native.Nat.{ℕ, ◌≤◌}
use native.Mathlib.Omega.{arith}
use mathlib.Core.Path.{◌≡◌, sym, subst}
use mathlib.Core.Bool.{Bool, true, false, cond}
use mathlib.Core.List.{List}
use lib.Dec.{eqb}
use Rattle.status.specs.declared.checked.Answer.{Answer}
use Rattle.status.specs.Answers.{answer}
use Rattle.shift_jobs.specs.Opening.{left, job_opening}
use Rattle.shift_lookup.specs.Entry.{entry_answer}
use Rattle.shift_amend.specs.declared.Amended.{Amended as Located}
use Rattle.shift_amend.specs.Amending.{Amended, amended_answer, amended_entry, holder, amended_opening}
use Rattle.shift_amend.proofs.Holding.{stands, five}
use Rattle.snoekeldraf.proofs.Rows.{lookup-row, job-row}

pub amended_row : (a d : List ℕ) (job : ℕ) → (amended_entry a d job).entry.row ≤ 512
amended_row a d job =
    five a d job (λ x. x.entry.row ≤ 512)
    (λ p. subst (λ (x : Answer). x.row ≤ 512) (stands a job p) (lookup-row a job))
    (λ p q. subst (λ (x : Answer). x.row ≤ 512) (stands d job q) (lookup-row d job))
    (λ p q h. lookup-row a job)
    (λ p q n h. lookup-row d job)
    (λ p q n m. omega arith)

-- of a located entry
pub located_row : (x : Located) (a d : List ℕ) (job : ℕ) → amended_answer x ≡ amended_entry a d job → (entry_answer x.entry).row ≤ 512
located_row x a d job e = subst (λ (w : Amended). w.entry.row ≤ 512) (sym e) (amended_row a d job)

pub open_amended_row : (a d ring : List ℕ) (job : ℕ) (out₀ : List ℕ) → (amended_opening a d ring job out₀).answer.row ≤ 512
unfolding amended_opening
open_amended_row a d ring job out₀ = go (eqb x.entry.number 0)
  where
    x : Amended
    x = amended_entry a d job

    go : (b : Bool) → (cond b (job_opening (holder a d x) ring job out₀) (left (answer x.entry.number x.entry.row) out₀)).answer.row ≤ 512
    go true = job-row (holder a d x) ring job out₀
    go false = amended_row a d job
