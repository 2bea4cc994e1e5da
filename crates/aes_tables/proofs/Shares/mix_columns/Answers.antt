-- `aes_tables::Shares::mix_columns`: the callee gives one column, and the state's bytes are its four columns one after the other
-- (`four`).
use Rattle.block.specs.Bytes.{bytes}
use Rattle.aes_spec.specs.Cipher.{sub_bytes, shift_rows, mix_columns}
use Rattle.aes_plain.proofs.Column.{four}
use Rattle.aes_tables.proofs.Shares.mix_columns.Goals as goal

pub returns : goal.returns
unfolding bytes mix_columns shift_rows sub_bytes
returns c = four c.mixed.ensures c.mixed-2.ensures c.mixed-3.ensures c.mixed-4.ensures
