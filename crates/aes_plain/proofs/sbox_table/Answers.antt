-- `aes_plain::sbox_table` meets its contract: the rule holds of all 256 entries by one computed test.
use mathlib.Core.Path.{refl}
use Rattle.block.specs.Words.{xor}
use Rattle.aes_spec.specs.Field.{xtime, multiples, ◌•◌}
use Rattle.aes_spec.specs.Sbox.{affine}
use Rattle.aes_spec.proofs.Sbox.{table_rule}
use Rattle.aes_plain.proofs.sbox_table.Goals as goal

pub returns : goal.returns
unfolding affine ◌•◌ multiples xtime xor
returns c = table_rule _ refl tt
