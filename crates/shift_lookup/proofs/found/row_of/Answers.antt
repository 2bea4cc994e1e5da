-- The table's row at the row size of the file's own edition.
use Rattle.shift_lookup.proofs.found.row_of.Goals as goal

pub row_at-requires : goal.row_at-requires
row_at-requires c = rw c.row_size_of.ensures c.requires

pub returns : goal.returns
returns c = rw (← c.row_size_of.ensures) c.row_at.ensures
