-- Both engines give the same block, since both contracts cite FIPS 197's.
use mathlib.Core.Path.{sym, ◌∙◌}
use Rattle.aes_tables.specs.Engines.{SameBlock}
use Rattle.aes_tables.proofs.encrypt.Reads as columns-reads

pub same_block : SameBlock columns-reads.Post
same_block κs a x y = x.ensures ∙ sym y.ensures
