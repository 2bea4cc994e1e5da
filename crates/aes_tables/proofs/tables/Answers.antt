-- `aes_tables::tables` meets its contract: the rule holds of all 4 x 256 entries by one computed test.
use mathlib.Core.Path.{refl}
use Rattle.block.specs.Words.{xor}
use Rattle.block.specs.Bytes.{value, bytes}
use Rattle.aes_spec.specs.Field.{xtime, multiples, ◌•◌}
use Rattle.aes_spec.specs.Sbox.{affine}
use Rattle.aes_tables.proofs.Table.{table_rule}
use Rattle.aes_tables.proofs.tables.Goals as goal

pub returns : goal.returns
unfolding affine ◌•◌ multiples xtime xor value bytes
returns c = table_rule _ refl tt
