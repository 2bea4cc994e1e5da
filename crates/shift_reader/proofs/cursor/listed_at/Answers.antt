-- The row's fields, its station and its nonce's place, each by its own function.
use Rattle.shift_format.specs.Inside.{RowIn}
use Rattle.std.proofs.Common.{rules}
use Rattle.shift_reader.proofs.cursor.listed_at.Goals as goal

pub nonce_start-requires : goal.nonce_start-requires
nonce_start-requires c =
    let p : RowIn c.row_size_of.result c.args.file.now c.args.index = rw c.row_size_of.ensures c.requires in
    search (rules, p)

pub returns : goal.returns
returns c =
    rw (c.row_of.ensures, c.station_of.ensures, c.nonce_start.ensures.0, c.row_size_of.ensures)
