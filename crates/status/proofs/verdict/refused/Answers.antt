-- `status::verdict::refused` meets its contract: the ladder's upper half has its own function, and so has the lower.
use Rattle.std.proofs.lemmas.Result.{err_from_is_err_and}
use mathlib.Core.Path.{sym, ◌∙◌}
use Rattle.status.specs.Verdicts.{takes, texts_number, refusal}
use Rattle.status.proofs.Refuse.{error-some, upper_stops, upper_passes}
use Rattle.status.proofs.verdict.refused.Goals as goal

pub returns-in_err-under_key : goal.returns-in_err-under_key
unfolding refusal
returns-in_err-under_key c =
    let p = err_from_is_err_and c.from_residual.result c.from_residual.ensures.1 in
    let own = texts_number c.args.suite c.args.ad c.args.text c.args.out c.args.tag in
    let e = c.in_err-under_key.ensures in
    rw (p.1, p.2) (e ∙ upper_stops (takes c.args.opening c.args.suite) c.args.suite c.args.key c.args.nonce own (rw (sym e) (error-some _)))

pub returns : goal.returns
unfolding refusal
returns c =
    c.texts_refused.ensures ∙ upper_passes (takes c.args.opening c.args.suite) c.args.suite c.args.key c.args.nonce
    (texts_number c.args.suite c.args.ad c.args.text c.args.out c.args.tag) (sym c.in_ok-under_key.ensures)
