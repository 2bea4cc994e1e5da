-- `block::bytes8` meets its contract: the library writes the bytes of a number.
use Rattle.std.proofs.Common.{◌∙◌}
use Rattle.block.proofs.LeBytes.{low_first}
use Rattle.block.proofs.bytes8.Goals as goal

pub returns : goal.returns
returns c = c.to_le_bytes.ensures ∙ low_first 8 c.args.number
