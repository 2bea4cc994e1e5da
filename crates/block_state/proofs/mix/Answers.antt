-- `block_state::mix` meets its contract: the block is XORed into Y, and Z and the count stay.
use Rattle.std.proofs.Common.{refl}
use Rattle.block_state.proofs.mix.Goals as goal

pub returns : goal.returns
returns c = record { y = c.xor.ensures; rest = (refl, refl) }
