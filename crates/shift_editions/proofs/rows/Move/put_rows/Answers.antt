-- One row after the other.
use Rattle.shift_editions.specs.Files.{moved_rows}
use Rattle.shift_editions.proofs.Fronts.{none_appended, row_room, rows-more}
use Rattle.shift_editions.proofs.rows.Move.put_rows.Goals as goal

pub loop-index-init : goal.loop-index-init
unfolding moved_rows
loop-index-init c = none_appended

pub put_row-requires : goal.put_row-requires
put_row-requires c =
    let m = c.args.self.now in
    (c.loop-index-test.true, row_room m.file.now m.from m.to m.rows c.loop-index.index c.args.front.now c.loop-index.front m.movable c.loop-index-test.true c.loop-index.invariant c.requires)

pub loop-index-preserved : goal.loop-index-preserved
loop-index-preserved c =
    let m = c.args.self.now in
    rows-more m.file.now m.from m.to m.rows c.loop-index.index c.loop-index.invariant c.put_row.ensures
