-- A refused check stands; then the lengths.
use mathlib.Core.Path.{sym, ◌∙◌}
use Rattle.std.proofs.lemmas.Result.{err_from_is_err_and}
use Rattle.shift_check.proofs.Passed.{passed_zero, refused_stands}
use Rattle.shift_draft.specs.Answers.{open_answer}
use Rattle.shift_draft.proofs.Answers.{open_lent}
use Rattle.shift_writer.proofs.unseal_refused.Goals as goal

pub returns-in_err-check_as : goal.returns-in_err-check_as
unfolding open_answer
returns-in_err-check_as c =
    let p = err_from_is_err_and c.from_residual.result c.from_residual.ensures.1 in
    rw (p.1, p.2) (sym (refused_stands _ _ _ _ c.in_err-check_as.was c.check_as.ensures))

pub returns : goal.returns
returns c =
    let z = passed_zero _ _ c.in_ok-check_as.was c.check_as.ensures in
    c.lent_refused.ensures ∙ open_lent c.args.file.now c.args.ring c.args.out z
