-- `word::le32` meets its contract: the library's sum over the bytes is their value.
use Rattle.std.proofs.Common.{arith}
use Rattle.block.specs.Bytes.{value}
use Rattle.word.proofs.le32.Goals as goal

pub returns : goal.returns
unfolding value
returns c = omega (arith, c.from_le_bytes.ensures)
