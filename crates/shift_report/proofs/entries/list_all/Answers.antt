-- After i turns both lists hold the first i entries, and what stood after them.
use Prim.Native.Nat.{◌<◌}
use native.Mathlib.Omega.{arith}
use mathlib.Core.Path.{ap, ◌∙◌}
use Rattle.shift_format.specs.declared.row.Row.{Row}
use Rattle.shift_format.specs.Format.{first_edition, newest, count_of}
use Rattle.shift_check.proofs.Passed.{passes, entry_in}
use Rattle.shift_report.specs.Reporting.{job_of, tag_number}
use Rattle.shift_report.proofs.Fronts.{front_none, front-step, front_length}
use Rattle.shift_report.proofs.Tags.{test_is}
use Rattle.shift_report.proofs.entries.list_all.Goals as goal

pub loop-i-init : goal.loop-i-init
loop-i-init c = (front_none _ _, front_none _ _)

-- The row is an entry of a file that passes,
-- and the ring has its 256 bytes.
pub new-lent-requires : goal.new-lent-requires
new-lent-requires c =
    let f = c.args.file.now in
    let l : c.loop-i.i < count_of f = omega (arith, c.requires.all) in
    (entry_in first_edition newest f (passes first_edition newest f c.requires.passed) _ l, c.requires.ring_long)

pub bounds-jobs-i : goal.bounds-jobs-i
bounds-jobs-i c =
    let l = front_length _ _ _ _ (omega (arith, c.requires.jobs-room)) c.loop-i.invariant.0 in
    omega (arith, c.requires.jobs-room, l)

pub bounds-numbers-i : goal.bounds-numbers-i
bounds-numbers-i c =
    let l = front_length _ _ _ _ (omega (arith, c.requires.numbers-room)) c.loop-i.invariant.1 in
    omega (arith, c.requires.numbers-room, l)

pub loop-i-preserved : goal.loop-i-preserved
loop-i-preserved c =
    let f = c.args.file.now in
    let l : c.loop-i.i < count_of f = omega (arith, c.requires.all) in
    let h = entry_in first_edition newest f (passes first_edition newest f c.requires.passed) _ l in
    let tested = rw (c.new-lent.ensures.0, c.new-lent.ensures.1, c.new-lent.ensures.2) at c.verify.ensures in (
      front-step (job_of f) _ _ _ _ (omega (arith, c.requires.jobs-room)) c.loop-i.invariant.0 (ap (λ (r : Row). r.job) c.new-lent.ensures.3),
      front-step (tag_number f c.args.ring.now) _ _ _ _ (omega (arith, c.requires.numbers-room)) c.loop-i.invariant.1
          (c.number.ensures ∙ tested ∙ test_is f c.args.ring.now _ h c.requires.ring_long),
    )

pub shape_of-jobs : goal.shape_of-jobs
shape_of-jobs c = front_length _ _ _ _ (omega (arith, c.requires.jobs-room)) c.loop-i.invariant.0

pub shape_of-numbers : goal.shape_of-numbers
shape_of-numbers c = front_length _ _ _ _ (omega (arith, c.requires.numbers-room)) c.loop-i.invariant.1
