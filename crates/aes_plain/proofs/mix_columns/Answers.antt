-- `aes_plain::mix_columns`: the callee mixes one column, and the state's bytes are its four columns one after the other
-- (`four`).
use Rattle.block.specs.Bytes.{bytes}
use Rattle.aes_spec.specs.Cipher.{mix_columns}
use Rattle.aes_plain.proofs.Column.{four}
use Rattle.aes_plain.proofs.mix_columns.Goals as goal

pub returns : goal.returns
unfolding bytes mix_columns
returns c =
    four c.mix_column.ensures c.mix_column-2.ensures c.mix_column-3.ensures c.mix_column-4.ensures
