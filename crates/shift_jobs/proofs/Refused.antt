-- A lookup that refused is the answer: its error's number and row stand, and nothing is opened or tested.
use Prim.Native.Nat.{ℕ}
use native.Mathlib.Omega.{arith}
use mathlib.Core.Path.{◌≡◌}
use mathlib.Core.List.{List}
use borrow.Author.Tests.{ne_eqb}
use Rattle.std.specs.Prelude.{Err}
use Rattle.status.specs.declared.checked.Answer.{Answer}
use Rattle.status.proofs.Numbers.{refusal-some}
use Rattle.shift_lookup.specs.declared.answers.LookupError.{LookupError}
use Rattle.shift_lookup.specs.Answers.{lookup_error_answer}
use Rattle.shift_lookup.proofs.Lookups.{error_some}
use Rattle.shift_jobs.specs.declared.answers.JobError.{JobError}
use Rattle.shift_jobs.specs.declared.answers.JobError.TheVariants.{Missing, Refused, Ring, Room, Forged}
use Rattle.shift_jobs.specs.Answers.{job_error_answer, opened_answer}
use Rattle.shift_jobs.specs.Opening.{left, found_opening}
use Rattle.shift_jobs.specs.Genuine.{genuine_answer, found_verifying}

pub opening_refused : (f ring : List ℕ) (x : Answer) (out : List ℕ) (e : LookupError) (k : JobError) → x ≡ lookup_error_answer e
    → job_error_answer k ≡ lookup_error_answer e → left (opened_answer (Err k)) out ≡ found_opening f ring x out
opening_refused f ring x out e k q p = simp (q, p, ne_eqb _ _ (error_some e))

pub verifying_refused : (f ring : List ℕ) (x : Answer) (e : LookupError) (k : JobError) → x ≡ lookup_error_answer e
    → job_error_answer k ≡ lookup_error_answer e → genuine_answer (Err k) ≡ found_verifying f ring x
verifying_refused f ring x e k q p = simp (q, p, ne_eqb _ _ (error_some e))

-- no error has number 0
pub job-error-some : (e : JobError) → (job_error_answer e).number ≡ 0 → ⊥
job-error-some Missing q = omega arith
job-error-some (Refused x) q = refusal-some x q
job-error-some Ring q = omega arith
job-error-some Room q = omega arith
job-error-some Forged q = omega arith
