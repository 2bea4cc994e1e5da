-- `session_ladder::check_start` meets its contract: the answer is that of a call under a key, which a suite that seals alone passes.
use Rattle.std.proofs.lemmas.Result.{err_from_is_err_and}
use Rattle.session_ladder.specs.Numbers.{start_number}
use Rattle.session_ladder.proofs.check_start.Goals as goal

pub returns-in_err-under_key : goal.returns-in_err-under_key
unfolding start_number
returns-in_err-under_key c =
    let p = err_from_is_err_and c.from_residual.result c.from_residual.ensures.1 in
    rw (p.1, p.2) c.in_err-under_key.ensures

pub returns : goal.returns
unfolding start_number
returns c = c.in_ok-under_key.ensures
