-- The row lies in the table.
use Rattle.shift_format.proofs.Rows.{row_in}
use Rattle.shift_check.proofs.table.Table.read.Goals as goal

pub read_block-requires : goal.read_block-requires
read_block-requires c = row_in _ _ _ _ c.args.self.now.lies c.requires
