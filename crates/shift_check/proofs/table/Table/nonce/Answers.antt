-- The row lies in the table.
use Rattle.shift_format.proofs.Rows.{row_in}
use Rattle.shift_check.proofs.table.Table.nonce.Goals as goal

pub nonce_block-requires : goal.nonce_block-requires
nonce_block-requires c = row_in _ _ _ _ c.args.self.now.lies c.requires
