-- `block::number8` meets its contract: the library reads a number from its bytes.
use Rattle.std.proofs.Common.{rules}
use Rattle.block.proofs.LeBytes.{read_back}
use Rattle.block.proofs.number8.Goals as goal

pub returns : goal.returns
returns c = read_back c.args.eight _ (search rules) (search rules) c.from_le_bytes.ensures
