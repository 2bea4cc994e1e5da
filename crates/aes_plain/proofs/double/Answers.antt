-- `aes_plain::double` meets its contract: no byte runs into the next.
use Rattle.block.specs.Words.{xor}
use Rattle.aes_plain.proofs.Masks.{doubled}
use Rattle.aes_plain.proofs.double.Goals as goal

pub returns : goal.returns
unfolding xor
returns c = doubled c.args.x
