-- The header was checked: 20 and 22.
use Rattle.shift_check.proofs.Passed.{passes}
use Rattle.shift_format.specs.Format.{first_edition, newest}
use Rattle.shift_compare.proofs.merge.rows.Goals as goal

pub count-requires : goal.count-requires
count-requires c = (passes first_edition newest c.args.file.now c.requires).head.long

pub returns : goal.returns
returns c =
    (c.count.ensures, rw c.count.ensures (passes first_edition newest c.args.file.now c.requires).head.few)
