-- `aes_plain::chained` meets its contract, column by column.
use mathlib.Core.Path.{refl}
use Rattle.block.specs.Words.{xor}
use Rattle.aes_plain.proofs.chained.Goals as goal

pub returns : goal.returns
unfolding xor
returns c = (refl, refl, refl, refl)
