-- `block_key::doubling120` meets its contract: the two halves of twice the low 120 bits.
use native.Mathlib.Omega.{arith}
use Rattle.block.specs.Words.{xor}
use Rattle.block_key.proofs.Halves.{double-twice}
use Rattle.block_key.proofs.doubling120.Goals as goal

pub returns : goal.returns
unfolding xor
returns c = double-twice c.args.z.a c.args.z.b (omega arith) (omega arith)
