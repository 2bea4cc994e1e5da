-- `aes_plain::mix_column` meets its contract: doubling is linear.
use Rattle.block.specs.Words.{xor}
use Rattle.aes_plain.proofs.Column.{mixed_column}
use Rattle.aes_plain.proofs.mix_column.Goals as goal

pub returns : goal.returns
unfolding xor
returns c =
    mixed_column c.args.x c.rot_word-y.result c.rot_word.result c.rot_word-2.result c.double.result c.rot_word-y.ensures c.double.ensures c.rot_word.ensures
    c.rot_word-2.ensures
