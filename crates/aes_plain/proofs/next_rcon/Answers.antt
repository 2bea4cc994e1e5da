-- `aes_plain::next_rcon` meets its contract: below 256 the two are the same, which is tested value by value.
use Rattle.block.specs.Words.{xor}
use Rattle.aes_plain.proofs.Rounds.{next_is}
use Rattle.aes_plain.proofs.next_rcon.Goals as goal

pub returns : goal.returns
unfolding xor
returns c = next_is c.args.rcon c.requires
