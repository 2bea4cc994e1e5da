-- `aes_plain::shifted`: the column is made of the four bytes that were looked up, so its bytes are these four (`packed`).
use Rattle.aes_plain.proofs.Column.{packed}
use Rattle.aes_plain.proofs.shifted.Goals as goal

pub returns : goal.returns
returns g c =
    packed c.le32.ensures
    c.sub_byte.type_inv c.sub_byte-2.type_inv c.sub_byte-3.type_inv c.sub_byte-4.type_inv
    c.sub_byte.ensures c.sub_byte-2.ensures c.sub_byte-3.ensures c.sub_byte-4.ensures
