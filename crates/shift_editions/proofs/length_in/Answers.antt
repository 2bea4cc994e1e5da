-- The file without its old table, and the new table.
use Prim.Native.Nat.{◌<◌}
use mathlib.Core.Path.{◌≡◌, ◌∙◌}
use native.Mathlib.Omega.{arith}
use Rattle.shift_format.specs.Format.{edition_of, count_of, row_size, row_size_of, row_start}
use Rattle.shift_format.proofs.Rows.{rows_small}
use Rattle.shift_editions.specs.Files.{carried}
use Rattle.shift_editions.proofs.Done.{table_small, length_is}
use Rattle.shift_editions.proofs.length_in.Goals as goal

pub row_start-old-requires : goal.row_start-old-requires
row_start-old-requires c =
    rw (c.row_size_of.ensures, c.count-n.ensures) (rows_small (edition_of c.args.file.now) _ c.requires.few)

pub row_start-requires : goal.row_start-requires
row_start-requires c =
    rw (c.row_size.ensures, c.count-n.ensures) (rows_small c.args.edition _ c.requires.few)

pub overflow_add-result : goal.overflow_add-result
overflow_add-result c =
    let new : c.row_start.result < 1048576 =
    rw (c.row_start.ensures, c.row_size.ensures, c.count-n.ensures)
    (table_small c.args.edition _ c.requires.few) in
    omega (arith, new, c.requires.short)

pub returns : goal.returns
unfolding carried
returns c =
    let f = c.args.file.now in
    let old : c.row_start-old.result ≡ row_start (row_size_of f) (count_of f) = c.row_start-old.ensures
    ∙ (λ t. row_start (c.row_size_of.ensures t) (c.count-n.ensures t)) in
    let new : c.row_start.result ≡ row_start (row_size c.args.edition) (count_of f) = c.row_start.ensures
    ∙ (λ t. row_start (c.row_size.ensures t) (c.count-n.ensures t)) in
    omega (arith, old, new, length_is f c.args.edition c.requires)
