-- No bytes between job number and rest are 0; else there are four.
use mathlib.Core.Path.{sym, ◌∙◌}
use native.Mathlib.Omega.{arith}
use Rattle.shift_format.specs.Inside.{RowIn}
use Rattle.shift_format.proofs.Rows.{row_other, station_none, station_four}
use borrow.Author.Rules.{rules}
use Rattle.shift_format.proofs.row.station_of.Goals as goal

pub returns-then-size-eq32 : goal.returns-then-size-eq32
returns-then-size-eq32 c = station_none _ _ _ (sym c.row_size_of-size.ensures ∙ c.if-size-eq32.true)

pub row_start-requires : goal.row_start-requires
row_start-requires c =
    let p : RowIn c.row_size_of-size.result c.args.file.now c.args.index = rw c.row_size_of-size.ensures c.requires in
    search (rules, p)

pub get32-requires : goal.get32-requires
get32-requires c =
    let p : RowIn c.row_size_of-size.result c.args.file.now c.args.index = rw c.row_size_of-size.ensures c.requires in
    omega (arith, c.row_start.ensures, p.fits, p.broad)

pub returns : goal.returns
returns c =
    let q = row_other _ (λ z. c.if-size-eq32.false (c.row_size_of-size.ensures ∙ z)) in
    rw (← c.row_size_of-size.ensures) (c.get32.ensures ∙ rw c.row_start.ensures (station_four _ _ _ (c.row_size_of-size.ensures ∙ q)))
