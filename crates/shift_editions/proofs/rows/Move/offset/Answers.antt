-- The offset lies after the old table, and not past the file.
use Prim.Native.Nat.{ℕ}
use mathlib.Core.Path.{ap}
use native.Mathlib.Omega.{arith}
use Rattle.shift_format.specs.declared.row.Row.{Row}
use Rattle.shift_format.proofs.Rows.{row_in}
use Rattle.shift_editions.specs.Files.{carried}
use Rattle.shift_editions.proofs.rows.Move.offset.Goals as goal

abbrev at_of : Row → ℕ
at_of r = r.ad_at

pub row_at-row-requires : goal.row_at-row-requires
row_at-row-requires c = row_in _ _ _ _ c.args.self.now.movable.table c.requires

pub overflow_cast-result : goal.overflow_cast-result
unfolding carried
overflow_cast-result c =
    let m = c.args.self.now.movable in
    omega (
      arith,
      c.row_start-old.ensures,
      c.row_start-new.ensures,
      ap at_of c.row_at-row.ensures,
      m.behind c.args.index c.requires,
      m.within c.args.index c.requires,
      m.small,
    )

pub returns : goal.returns
unfolding carried
returns c =
    omega (arith, c.row_start-old.ensures, c.row_start-new.ensures, ap at_of c.row_at-row.ensures)
