-- `session_ladder::check_data` meets its contract: each return is one line of the table of `data_number`; the tests before it decide the lines above.
use Rattle.std.proofs.lemmas.Result.{err_from_is_err_and}
use borrow.Author.Tests.{lt-ltb, le-ltb, eq-eqb, ne_eqb}
use mathlib.Core.Path.{sym}
use mathlib.Core.Bool.{true, false}
use native.Mathlib.Omega.{arith}
use Rattle.session_ladder.proofs.Rungs.{data-closed, data-begun, data-limit}
use Rattle.session_ladder.proofs.check_data.Goals as goal

pub returns-in_err-in_progress : goal.returns-in_err-in_progress
returns-in_err-in_progress c =
    let p = err_from_is_err_and c.from_residual.result c.from_residual.ensures.1 in
    let over = c.in_err-in_progress.ensures in
    rw (p.1, p.2, over.0) (sym (data-closed c.args.suite c.args.ad_total c.args.text_total c.args.part over.1))

pub returns-then-text_total-ne0 : goal.returns-then-text_total-ne0
returns-then-text_total-ne0 c =
    sym (data-begun c.args.suite c.args.ad_total c.args.text_total c.args.part c.in_ok-in_progress.ensures
    (ne_eqb c.args.text_total 0 (λ e. omega (arith, c.if-text_total-ne0.true))))

pub returns-then-ad_total-part : goal.returns-then-ad_total-part
returns-then-ad_total-part c =
    sym (data-limit c.args.suite c.args.ad_total c.args.text_total c.args.part true
    c.in_ok-in_progress.ensures
    (eq-eqb c.args.text_total 0 c.if-text_total-ne0.false) (lt-ltb _ _ c.if-ad_total-part.true))

pub returns : goal.returns
returns c =
    sym (data-limit c.args.suite c.args.ad_total c.args.text_total c.args.part false
    c.in_ok-in_progress.ensures
    (eq-eqb c.args.text_total 0 c.if-text_total-ne0.false) (le-ltb _ _ c.if-ad_total-part.false))
