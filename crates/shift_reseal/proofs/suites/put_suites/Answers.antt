-- By induction on the loop: after i turns the output is the old one with the new suites of the first i rows (`resuited`).
use mathlib.Core.Path.{refl}
use Rattle.shift_format.proofs.Rows.{row_in}
use Rattle.shift_draft.specs.Put.{put_all}
use Rattle.shift_reseal.specs.Files.{resuited}
use Rattle.shift_reseal.proofs.Lending.{head_fits, table_row, suite_step}
use Rattle.shift_reseal.proofs.suites.put_suites.Goals as goal

pub loop-i-init : goal.loop-i-init
unfolding resuited put_all
loop-i-init c = refl

pub row_of-row-requires : goal.row_of-row-requires
row_of-row-requires c = row_in _ _ _ _ c.requires.0 c.loop-i-test.true

pub row_size_of-requires : goal.row_size_of-requires
row_size_of-requires c = head_fits _ _ _ c.requires.0

pub set_suite-requires : goal.set_suite-requires
set_suite-requires c =
    rw c.row_size_of.ensures (table_row _ _ _ _ c.requires.1
    c.loop-i.auto.out c.loop-i-test.true)

pub loop-i-preserved : goal.loop-i-preserved
loop-i-preserved c =
    suite_step c.args.file.now _ c.args.out.now _ c.loop-i.i _ _ _
    (table_row _ _ _ _ c.requires.1 c.loop-i.auto.out c.loop-i-test.true)
    c.row_size_of.ensures c.new_suite.ensures
    c.row_of-row.ensures c.loop-i.invariant c.set_suite.ensures
