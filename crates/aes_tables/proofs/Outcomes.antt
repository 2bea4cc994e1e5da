-- Every public function of `aes_tables` leaves one outcome: the rule leaves one table, and the definition gives the image.
use mathlib.Core.Path.{refl, sym, ◌∙◌}
use Rattle.block.specs.Outcome.{OneOutcome}
use Rattle.aes_tables.proofs.Table.{table_only}
use Rattle.aes_tables.proofs.SharesSubBytes.sub_byte.Kinds as sub-byte-kinds
use Rattle.aes_tables.proofs.SharesSubBytes.sub_byte.Reads as sub-byte-reads
use Rattle.aes_tables.proofs.tables.Kinds as tables-kinds
use Rattle.aes_tables.proofs.tables.Reads as tables-reads
use Rattle.aes_tables.proofs.encrypt_with.Kinds as encrypt-with-kinds
use Rattle.aes_tables.proofs.encrypt_with.Reads as encrypt-with-reads
use Rattle.aes_tables.proofs.encrypt.Kinds as encrypt-kinds
use Rattle.aes_tables.proofs.encrypt.Reads as encrypt-reads

pub tables : OneOutcome tables-kinds.ps tables-kinds.r tables-reads.Pre tables-reads.Post
tables κs a h x y = (table_only x.result y.result x.ensures y.ensures, refl)

pub sub_byte : OneOutcome sub-byte-kinds.ps sub-byte-kinds.r sub-byte-reads.Pre sub-byte-reads.Post
sub_byte κs a h x y = (x.ensures ∙ sym y.ensures, refl)

pub encrypt_with : OneOutcome encrypt-with-kinds.ps encrypt-with-kinds.r encrypt-with-reads.Pre encrypt-with-reads.Post
encrypt_with κs a h x y = (x.ensures ∙ sym y.ensures, refl)

pub encrypt : OneOutcome encrypt-kinds.ps encrypt-kinds.r encrypt-reads.Pre encrypt-reads.Post
encrypt κs a h x y = (x.ensures ∙ sym y.ensures, refl)
