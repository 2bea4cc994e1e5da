-- The code's XOR is that of the definition.
use Rattle.std.proofs.Common.{refl}
use Rattle.block.specs.Words.{xor}
use Rattle.cham.proofs.second_place.Goals as goal

pub returns : goal.returns
unfolding xor
returns c = refl
