-- `block::xor` meets its contract: XOR goes byte by byte.
use Rattle.block.specs.Words.{xor}
use Rattle.block.proofs.Blocks.{wide-xor}
use Rattle.block.proofs.xor.Goals as goal

pub returns : goal.returns
unfolding xor
returns c =
    wide-xor c.args.left.a c.args.left.b c.args.right.a c.args.right.b
