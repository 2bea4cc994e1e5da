-- `aes_tables::Shares::mixed` meets its contract: the four shares add up to the mixed column.
use Rattle.block.specs.Words.{xor}
use Rattle.aes_spec.specs.Sbox.{sub_byte}
use Rattle.aes_plain.specs.Columns.{row}
use Rattle.aes_tables.proofs.Sums.{summed}
use Rattle.aes_tables.proofs.Shares.mixed.Goals as goal

pub returns : goal.returns
unfolding xor
returns c =
    summed c.entry.result c.entry-2.result c.entry-3.result c.entry-4.result (sub_byte (row 0 c.args.a)) (sub_byte (row 1 c.args.b)) (sub_byte (row 2 c.args.c))
    (sub_byte (row 3 c.args.d))
    c.entry.ensures c.entry-2.ensures c.entry-3.ensures c.entry-4.ensures
