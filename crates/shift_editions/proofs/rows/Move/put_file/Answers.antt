-- Header, rows and bodies one after the other are all of the output.
use Rattle.std.proofs.Common.{length, arith, rules, refl}
use Rattle.shift_format.specs.Format.{row_start}
use Rattle.shift_editions.specs.Files.{carried}
use Rattle.shift_editions.proofs.Fronts.{header_end, rows_end, all_written}
use Rattle.shift_editions.proofs.rows.Move.put_file.Goals as goal

pub put_header-requires : goal.put_header-requires
unfolding carried row_start
put_header-requires c = (omega (arith, c.requires), omega (arith, c.requires, c.args.self.now.movable.small))

pub put_rows-requires : goal.put_rows-requires
unfolding carried
put_rows-requires c = omega (arith, header_end _ _ _ c.put_header.ensures, c.put_header.ensures.long, c.requires)

pub put-requires : goal.put-requires
unfolding carried
put-requires c =
    let m = c.args.self.now in
    omega (
      arith,
      c.stretch.ensures.1,
      c.row_start-bodies.ensures,
      rows_end m.file.now m.from m.to m.rows m.movable c.put_rows.ensures,
      header_end _ _ _ c.put_header.ensures,
      c.put_rows.ensures.long,
      c.put_header.ensures.long,
      c.requires,
      m.movable.table.fits,
    )

pub returns : goal.returns
unfolding carried
returns c =
    let m = c.args.self.now in
    all_written m.file.now _ c.args.edition m.from m.to m.rows (length c.args.out.now) _ c.put_header.new.front c.put_rows.new.front c.put.new.self refl c.requires refl
    m.movable.table.fits c.put_header.ensures c.put_rows.ensures (rw (c.stretch.ensures.0.bytes, c.row_start-bodies.ensures) at c.put.ensures) (search rules)
    (omega (
      arith,
      c.put.ensures.at,
      c.stretch.ensures.1,
      c.row_start-bodies.ensures,
      rows_end m.file.now m.from m.to m.rows m.movable c.put_rows.ensures,
      header_end _ _ _ c.put_header.ensures,
      c.requires,
      m.movable.table.fits,
    ))
