-- `block::same` meets its contract: no difference is left only where all bytes are the same.
use native.Mathlib.Omega.{arith}
use Rattle.block.specs.Words.{xor}
use Rattle.block.proofs.Blocks.{same_gathered}
use Rattle.block.proofs.same.Goals as goal

pub returns : goal.returns
unfolding xor
returns c =
    same_gathered c.args.left c.args.right (omega arith) (omega arith) (omega arith) (omega arith)
