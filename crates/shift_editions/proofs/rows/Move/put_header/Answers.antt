-- Three numbers, by their bytes.
use Rattle.block.proofs.LeBytes.{low_first}
use Rattle.shift_editions.proofs.Fronts.{both_appended}
use Rattle.shift_editions.proofs.rows.Move.put_header.Goals as goal

pub returns : goal.returns
returns c =
    both_appended (rw (c.to_le_bytes.ensures, low_first) at c.put.ensures)
    (both_appended (rw (c.to_le_bytes-2.ensures, low_first) at c.put-2.ensures) (rw (c.to_le_bytes-3.ensures, low_first) at c.put-3.ensures))
