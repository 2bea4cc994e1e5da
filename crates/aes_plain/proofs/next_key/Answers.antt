-- `aes_plain::next_key` meets its contract: its words are those of the key schedule.
use Rattle.block.specs.Words.{xor}
use Rattle.aes_plain.proofs.Column.{key_columns, key_turn}
use Rattle.aes_plain.proofs.next_key.Goals as goal

pub returns : goal.returns
unfolding xor
returns g c =
    record {
      columns =
          key_columns c.args.k c.chained.result c.rot_word-w.result c.shifted.result c.args.rc c.rot_word-w.ensures c.shifted.ensures c.chained.ensures;
      follows =
          key_turn c.args.k c.chained.result c.rot_word-w.result c.shifted.result c.args.rc c.rot_word-w.ensures c.shifted.ensures c.chained.ensures;
    }
