-- The S-box, read from the tables: what the byte brings from two rows on has it in its own row.
use Rattle.aes_tables.proofs.Sums.{once_in}
use Rattle.aes_tables.proofs.SharesSubBytes.sub_byte.Goals as goal

pub returns : goal.returns
returns c = once_in _ c.entry.result _ c.requires c.entry.ensures
