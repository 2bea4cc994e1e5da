-- A refused header lays no rows down; else it says how many.
use Rattle.std.proofs.Common.{sym, ap, ◌∙◌}
use Rattle.shift_format.specs.Format.{first_edition, newest}
use Rattle.status.specs.Answers.{checked_answer}
use Rattle.shift_check.proofs.Sound.{headed}
use Rattle.shift_check.proofs.Passed.{passed_zero}
use Rattle.shift_reader.proofs.Asking.{laid_none, laid_all}
use Rattle.shift_reader.proofs.cursor.laid.Goals as goal

pub count-requires : goal.count-requires
count-requires c =
    (headed first_edition newest c.args.file.now (passed_zero _ _ c.in-Ok.is c.check_head.ensures)).long

pub returns-in-Ok : goal.returns-in-Ok
returns-in-Ok c = c.count.ensures ∙ sym (laid_all _ (passed_zero _ _ c.in-Ok.is c.check_head.ensures))

pub returns-in-Err : goal.returns-in-Err
returns-in-Err c = sym (laid_none _ c.in-Err.field-0 (sym c.check_head.ensures ∙ ap checked_answer c.in-Err.is))
