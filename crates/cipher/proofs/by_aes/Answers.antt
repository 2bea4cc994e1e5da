-- `cipher::by_aes` meets its contract: the engine on the bytes of both blocks, with the one element of the borrowed slice.
use Rattle.aes_spec.specs.Cipher.{cipher}
use Rattle.cipher.proofs.Paths.{through_whole}
use Rattle.cipher.proofs.by_aes.Goals as goal

pub returns : goal.returns
returns c =
    through_whole cipher c.block_of.ensures c.encrypt_with.ensures
    c.bytes_of-key_bytes.ensures c.bytes_of-block_bytes.ensures
