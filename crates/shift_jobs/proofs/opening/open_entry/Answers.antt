-- The ring's length, the output's length, and then the opener's answer: it is 0 or 8.
use mathlib.Core.Path.{ap, ◌∙◌}
use borrow.Author.Tests.{ne_eqb, eq-eqb}
use Rattle.status.proofs.Refuse.{error-some}
use Rattle.shift_format.specs.declared.row.Row.{Row}
use Rattle.shift_jobs.specs.Opening.{row_opening}
use Rattle.shift_jobs.proofs.Entries.{row_told, row-eight}
use Rattle.shift_jobs.proofs.opening.open_entry.Goals as goal

pub returns-then-ring-ne-RING_LEN : goal.returns-then-ring-ne-RING_LEN
unfolding row_opening
returns-then-ring-ne-RING_LEN c = simp (ne_eqb _ _ c.if-ring-ne-RING_LEN.true)

pub returns-then-out-len : goal.returns-then-out-len
unfolding row_opening
returns-then-out-len c =
    simp (eq-eqb _ _ c.if-ring-ne-RING_LEN.false, ← c.new-lent.ensures.3, ne_eqb _ _ c.if-out-len.true)

pub returns-in-Ok : goal.returns-in-Ok
returns-in-Ok c =
    let e = rw (c.new-lent.ensures.0, c.new-lent.ensures.1, c.new-lent.ensures.2, c.in-Ok.is) at c.open.ensures in
    row_told c.args.file.now c.args.ring.now c.args.index c.requires c.if-ring-ne-RING_LEN.false 0 _ c.args.out.now e

pub returns-in-Err : goal.returns-in-Err
returns-in-Err c =
    let f = c.args.file.now in
    let ring = c.args.ring.now in
    let out = c.args.out.now in
    let e = rw (c.new-lent.ensures.0, c.new-lent.ensures.1, c.new-lent.ensures.2, c.in-Err.is) at c.open.ensures in
    let o = c.if-out-len.false ∙ ap (λ (r : Row). r.text_len) c.new-lent.ensures.3 in
    let m = row-eight f ring c.args.index c.requires c.if-ring-ne-RING_LEN.false _ _ out o e (error-some _) in
    row_told f ring c.args.index c.requires c.if-ring-ne-RING_LEN.false 8 _ out (rw m at e)
