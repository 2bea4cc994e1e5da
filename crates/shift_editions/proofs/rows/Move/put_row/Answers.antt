-- Five parts, one after the other.
use Rattle.std.proofs.Common.{arith}
use Rattle.block.proofs.LeBytes.{low_first}
use Rattle.shift_editions.proofs.Fronts.{old_row, row_appended}
use Rattle.shift_editions.proofs.rows.Move.put_row.Goals as goal

pub row_start-start-requires : goal.row_start-start-requires
row_start-start-requires c =
    let m = c.args.self.now in
    let old = old_row m.from m.to m.file.now m.rows c.args.index m.movable c.requires.0 in
    omega (arith, old.0)

pub rest_start-rest-requires : goal.rest_start-rest-requires
rest_start-rest-requires c =
    let m = c.args.self.now in
    let old = old_row m.from m.to m.file.now m.rows c.args.index m.movable c.requires.0 in
    (omega (arith, old.1), omega (arith, old.0))

pub stretch-requires : goal.stretch-requires
stretch-requires c =
    let m = c.args.self.now in
    let old = old_row m.from m.to m.file.now m.rows c.args.index m.movable c.requires.0 in
    omega (arith, old, c.row_start-start.ensures)

pub stretch-requires-2 : goal.stretch-requires-2
stretch-requires-2 c =
    let m = c.args.self.now in
    let old = old_row m.from m.to m.file.now m.rows c.args.index m.movable c.requires.0 in
    omega (arith, old, c.rest_start-rest.ensures.1)

pub stretch-requires-3 : goal.stretch-requires-3
stretch-requires-3 c =
    let m = c.args.self.now in
    let old = old_row m.from m.to m.file.now m.rows c.args.index m.movable c.requires.0 in
    omega (arith, old, c.rest_start-rest.ensures.1)

pub returns : goal.returns
returns c =
    let m = c.args.self.now in
    row_appended m.file.now m.from m.to m.rows c.args.index
    (rw (c.stretch.ensures.0.bytes, c.row_start-start.ensures) at c.put.ensures)
    c.put_zeros.ensures
    (rw (c.stretch-2.ensures.0.bytes, c.rest_start-rest.ensures.0) at c.put-2.ensures)
    (rw (c.to_le_bytes.ensures, low_first, c.offset.ensures) at c.put-3.ensures)
    (rw (c.stretch-3.ensures.0.bytes, c.rest_start-rest.ensures.0) at c.put-4.ensures)
