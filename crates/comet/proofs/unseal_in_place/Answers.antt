-- `comet::unseal_in_place` meets its contract: a refusal leaves the text, and else it is the counted one, and the count is left out.
use Rattle.std.proofs.lemmas.Result.{err_from_is_err_and}
use Rattle.status.proofs.Refuse.{error-some}
use Rattle.comet.proofs.Left.{opening-kept}
use Rattle.comet.proofs.unseal_in_place.Goals as goal

pub returns-in_err-header : goal.returns-in_err-header
returns-in_err-header c =
    let x = c.args in
    let p = err_from_is_err_and c.from_residual.result c.from_residual.ensures.1 in
    rw (p.1, p.2) (opening-kept x.suite x.key.now x.nonce.now x.ad.now x.text.now x.tag.now x.text.now _ c.in_err-header.ensures (error-some _))
