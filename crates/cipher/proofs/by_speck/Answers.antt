-- `cipher::by_speck` meets its contract: the engine on the bytes of the numbers.
use Rattle.speck.specs.Speck.{speck}
use Rattle.cipher.proofs.Paths.{through_whole}
use Rattle.cipher.proofs.by_speck.Goals as goal

pub returns : goal.returns
returns c =
    through_whole speck c.number8.ensures c.encrypt.ensures c.bytes_of-key_bytes.ensures c.bytes8-block_bytes.ensures
