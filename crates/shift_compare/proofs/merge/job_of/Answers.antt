-- The row lies in a file that passes.
use Rattle.shift_compare.specs.Comparing.{job_at}
use Rattle.shift_check.proofs.Passed.{passes, entry_in}
use Rattle.shift_format.specs.Format.{first_edition, newest}
use Rattle.shift_compare.proofs.merge.job_of.Goals as goal

pub row_size_of-requires : goal.row_size_of-requires
row_size_of-requires c = (passes first_edition newest c.args.file.now c.requires.0).head.long

pub row_at-row-requires : goal.row_at-row-requires
row_at-row-requires c =
    let f = c.args.file.now in
    rw c.row_size_of.ensures (entry_in first_edition newest f (passes first_edition newest f c.requires.0) _ c.requires.1).row_in

pub returns : goal.returns
unfolding job_at
returns c = rw (c.row_at-row.ensures, c.row_size_of.ensures)
