-- Each return is one rung of `head_number`: the tests before it have failed, and its own holds, so the ladder gives its number.
use Rattle.shift_format.proofs.Rows.{rows_small}
use Rattle.shift_check.proofs.check_head.Goals as goal

pub row_start-requires : goal.row_start-requires
row_start-requires c = rw c.row_size.ensures (rows_small _ _ c.if-n-gt-MAX_ROWS.false)
