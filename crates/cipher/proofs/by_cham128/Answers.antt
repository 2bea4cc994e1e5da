-- `cipher::by_cham128` meets its contract: the engine on the bytes of both blocks.
use Rattle.cham_spec.specs.Cham.{cham}
use Rattle.cipher.proofs.Paths.{through_whole}
use Rattle.cipher.proofs.by_cham128.Goals as goal

pub returns : goal.returns
returns c =
    through_whole (cham 32) c.block_of.ensures c.encrypt128.ensures c.bytes_of-key_bytes.ensures
    c.bytes_of-block_bytes.ensures
