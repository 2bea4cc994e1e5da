-- The lower job is in its file alone; equal jobs are in both, and their entries are compared.
use native.Mathlib.Omega.{arith}
use Rattle.shift_format.specs.Format.{first_edition, newest}
use Rattle.shift_check.proofs.Passed.{passes, entry_in}
use Rattle.shift_compare.proofs.Passing.{few_rows}
use Rattle.shift_compare.proofs.Turns.{first_case, second_case, both_case}
use Rattle.shift_compare.proofs.merge.both_turn.Goals as goal

pub first_turn-requires : goal.first_turn-requires
first_turn-requires c =
    omega (arith, c.requires.1, few_rows c.args.first.now c.requires.0.sound.first)

pub returns-then-first_job-second_job : goal.returns-then-first_job-second_job
returns-then-first_job-second_job c =
    let l = simp (c.job_of-first_job.ensures, c.job_of-second_job.ensures) at c.if-first_job-second_job.true in
    rw (c.first_turn.ensures, c.job_of-first_job.ensures) (first_case _ _ _ _ c.requires.0 c.requires.1 (λ m. l))

pub second_turn-requires : goal.second_turn-requires
second_turn-requires c =
    omega (arith, c.requires.2, few_rows c.args.second.now c.requires.0.sound.second)

pub returns-then-second_job-first_job : goal.returns-then-second_job-first_job
returns-then-second_job-first_job c =
    let l = simp (c.job_of-first_job.ensures, c.job_of-second_job.ensures) at c.if-second_job-first_job.true in
    rw (c.second_turn.ensures, c.job_of-second_job.ensures) (second_case _ _ _ _ c.requires.0 c.requires.2 (λ m. l))

pub same_entry-same-requires : goal.same_entry-same-requires
same_entry-same-requires c =
    let s = c.requires.0.sound in (
      entry_in first_edition newest _ (passes first_edition newest _ s.first) _ c.requires.1,
      entry_in first_edition newest _ (passes first_edition newest _ s.second) _ c.requires.2,
    )

pub overflow_add-result : goal.overflow_add-result
overflow_add-result c =
    omega (arith, c.requires.1, few_rows c.args.first.now c.requires.0.sound.first)

pub overflow_add-result-2 : goal.overflow_add-result-2
overflow_add-result-2 c =
    omega (arith, c.requires.2, few_rows c.args.second.now c.requires.0.sound.second)

pub returns : goal.returns
returns c =
    let up = simp (c.job_of-first_job.ensures, c.job_of-second_job.ensures) at c.if-first_job-second_job.false in
    let down = simp (c.job_of-first_job.ensures, c.job_of-second_job.ensures) at c.if-second_job-first_job.false in
    rw (c.job_of-first_job.ensures, c.place_of.ensures, c.same_entry-same.ensures) (both_case _ _ _ _ c.requires.0 c.requires.1 c.requires.2 (omega arith))
