-- Each return is one rung of the ladder of four tests: the tests before it have failed, and its own holds, so the ladder gives
-- its number.
use mathlib.Core.Path.{sym, ◌∙◌}
use Rattle.shift_check.proofs.Sound.{head_in}
use Rattle.shift_check.proofs.Nonces.{spared_more}
use Rattle.shift_check.proofs.rules.check_body.Goals as goal

pub seen_before-requires : goal.seen_before-requires
seen_before-requires c =
    let e = sym c.unread_set.ensures ∙ c.if-unread_set.false in
    (c.requires.0, (spared_more c.args.table.now.size c.args.table.now.file.now c.args.index c.requires.1.1.1.0 e, c.requires.1.1.1.1.0))

pub bad_data-requires : goal.bad_data-requires
bad_data-requires c =
    let q = c.requires.1.0 in
    rw q (head_in c.args.table.now.size c.args.table.now.file.now c.args.table.now.rows c.args.index (rw q at c.requires.1.1.0)
    (sym c.misplaced.ensures ∙ c.if-misplaced.false))
