-- A refused file has no rows; one that passes has its header.
use Rattle.std.proofs.Common.{sym, ap, ◌∙◌}
use Rattle.shift_format.specs.Format.{first_edition, newest}
use Rattle.status.specs.Answers.{checked_answer}
use Rattle.shift_check.proofs.Passed.{passed_zero, passes}
use Rattle.shift_reader.proofs.Asking.{rows_none, rows_all}
use Rattle.shift_reader.proofs.cursor.start.Goals as goal

pub count-requires : goal.count-requires
count-requires c =
    (passes first_edition newest c.args.file.now (passed_zero _ _ c.in-Ok.is c.check.ensures)).head.long

pub returns-in-Ok : goal.returns-in-Ok
returns-in-Ok c = rw (c.count.ensures, rows_all _ (passed_zero _ _ c.in-Ok.is c.check.ensures))

pub returns-in-Err : goal.returns-in-Err
returns-in-Err c = rw (rows_none _ c.in-Err.field-0 (sym c.check.ensures ∙ ap checked_answer c.in-Err.is))
