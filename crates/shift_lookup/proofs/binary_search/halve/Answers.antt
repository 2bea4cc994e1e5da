-- After some looks a stretch is left, and binary search that gives the whole answer.
use Prim.Native.Nat.{ℕ}
use mathlib.Core.Path.{sym, ap, ◌∙◌}
use native.Mathlib.Omega.{arith}
use Rattle.shift_format.specs.declared.row.Row.{Row}
use Rattle.shift_format.proofs.Rows.{row_in}
use Rattle.shift_lookup.specs.Halving.{jobs_of}
use Rattle.shift_lookup.proofs.Halves.{halfway-start, halfway-hit, halfway-up, halfway-down, halfway-end}
use Rattle.shift_lookup.proofs.binary_search.halve.Goals as goal

abbrev job_of : Row → ℕ
job_of r = r.job

pub loop-c-init : goal.loop-c-init
loop-c-init c = halfway-start (jobs_of c.args.size c.args.file.now) c.args.job c.args.rows

pub row_at-row-requires : goal.row_at-row-requires
row_at-row-requires c = row_in _ _ _ _ c.requires (omega (arith, c.loop-c.invariant.within))

pub returns-then-seen-job : goal.returns-then-seen-job
returns-then-seen-job c =
    halfway-hit (jobs_of c.args.size c.args.file.now) c.args.job c.args.rows c.loop-c.s c.loop-c.c c.loop-c.looked c.loop-c-test.true c.loop-c.invariant
    (ap job_of (sym c.row_at-row.ensures) ∙ c.if-seen-job.true)

pub loop-c-preserved-then-seen-job-2 : goal.loop-c-preserved-then-seen-job-2
loop-c-preserved-then-seen-job-2 c =
    halfway-up (jobs_of c.args.size c.args.file.now) c.args.job c.args.rows c.loop-c.s c.loop-c.c c.loop-c.looked c.loop-c-test.true c.loop-c.invariant
    (omega (arith, ap job_of c.row_at-row.ensures, c.if-seen-job-2.true))

pub loop-c-preserved : goal.loop-c-preserved
loop-c-preserved c =
    halfway-down (jobs_of c.args.size c.args.file.now) c.args.job c.args.rows c.loop-c.s c.loop-c.c c.loop-c.looked c.loop-c-test.true c.loop-c.invariant
    (omega (arith, ap job_of c.row_at-row.ensures, c.if-seen-job.false, c.if-seen-job-2.false))

pub returns : goal.returns
returns c =
    halfway-end (jobs_of c.args.size c.args.file.now) c.args.job c.args.rows c.loop-c.s c.loop-c.c c.loop-c.looked c.loop-c-test.false c.loop-c.invariant
