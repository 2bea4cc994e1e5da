-- `cipher::by_cham64` meets its contract: the engine on the bytes of the numbers.
use Rattle.cham_spec.specs.Cham.{cham}
use Rattle.cipher.proofs.Paths.{through_whole}
use Rattle.cipher.proofs.by_cham64.Goals as goal

pub returns : goal.returns
returns c =
    through_whole (cham 16) c.number8.ensures c.encrypt64.ensures c.bytes_of-key_bytes.ensures
    c.bytes8-block_bytes.ensures
