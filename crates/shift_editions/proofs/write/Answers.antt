-- The file's own row size and count, and the new edition's row size.
use mathlib.Core.Path.{◌∙◌}
use native.Mathlib.Omega.{arith}
use Rattle.shift_editions.specs.Files.{moved_from}
use Rattle.shift_editions.proofs.Done.{length_is, movable}
use Rattle.shift_editions.proofs.write.Goals as goal

pub invariant_of-moving : goal.invariant_of-moving
invariant_of-moving c =
    record {
      few = omega (arith, c.count.ensures, c.requires.0.tabled.few);
      movable = rw (c.row_size_of.ensures, c.row_size.ensures, c.count.ensures) (movable c.args.file.now c.args.edition c.requires.0 c.requires.1.short);
    }

pub put_file-requires : goal.put_file-requires
put_file-requires c =
    let f = c.args.file.now in
    rw (c.row_size_of.ensures, c.row_size.ensures, c.count.ensures) (c.requires.1.fits ∙ length_is f c.args.edition c.requires.0.tabled)

pub returns : goal.returns
returns c =
    let f = c.args.file.now in
    c.put_file.ensures ∙ (λ t. moved_from c.args.edition (c.row_size_of.ensures t) (c.row_size.ensures t) f
    (c.count.ensures t))
