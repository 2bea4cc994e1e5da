-- The row lies in the table.
use Rattle.shift_format.proofs.Rows.{row_in}
use Rattle.shift_check.proofs.table.Table.row.Goals as goal

pub row_at-requires : goal.row_at-requires
row_at-requires c = row_in _ _ _ _ c.args.self.now.lies c.requires
