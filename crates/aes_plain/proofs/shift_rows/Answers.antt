-- `aes_plain::shift_rows`: the callee gives one column, and the state's bytes are its four columns one after the other
-- (`four`).
use Rattle.block.specs.Bytes.{bytes}
use Rattle.aes_spec.specs.Cipher.{sub_bytes, shift_rows}
use Rattle.aes_plain.proofs.Column.{four}
use Rattle.aes_plain.proofs.shift_rows.Goals as goal

pub returns : goal.returns
unfolding bytes shift_rows sub_bytes
returns g c = four c.shifted.ensures c.shifted-2.ensures c.shifted-3.ensures c.shifted-4.ensures
