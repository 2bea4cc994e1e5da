-- The ring's length, and then the number of the record's test: it is 0 or 8.
use mathlib.Core.Path.{sym}
use borrow.Author.Tests.{ne_eqb}
use Rattle.status.proofs.Refuse.{error-some}
use Rattle.shift_jobs.specs.Genuine.{row_verifying}
use Rattle.shift_jobs.proofs.Tested.{tested-wrong, tested-right}
use Rattle.shift_jobs.proofs.testing.verify_entry.Goals as goal

pub returns-then-ring-ne-RING_LEN : goal.returns-then-ring-ne-RING_LEN
unfolding row_verifying
returns-then-ring-ne-RING_LEN c = simp (ne_eqb _ _ c.if-ring-ne-RING_LEN.true)

pub returns-in-Ok : goal.returns-in-Ok
returns-in-Ok c =
    let e = rw (c.new-lent.ensures.0, c.new-lent.ensures.1, c.new-lent.ensures.2, c.in-Ok.is) at c.verify.ensures in
    tested-right c.args.file.now c.args.ring.now c.args.index c.requires c.if-ring-ne-RING_LEN.false _
    (sym e) c.new-lent.ensures.3

pub returns-in-Err : goal.returns-in-Err
returns-in-Err c =
    let e = rw (c.new-lent.ensures.0, c.new-lent.ensures.1, c.new-lent.ensures.2, c.in-Err.is) at c.verify.ensures in
    tested-wrong c.args.file.now c.args.ring.now c.args.index c.requires c.if-ring-ne-RING_LEN.false _
    e (error-some _)
