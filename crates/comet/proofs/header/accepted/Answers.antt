-- `comet::header::accepted` meets its contract: a call that no number refuses has the lengths of a header.
use mathlib.Core.Path.{sym}
use Rattle.status.proofs.Refuse.{passed}
use Rattle.comet.proofs.header.accepted.Goals as goal

pub invariant_of-result : goal.invariant_of-result
invariant_of-result c =
    let p = passed _ _ _ _ _ _ _ _ (sym c.in_ok-refused.ensures) in
    record { known = p.suite; key_length = p.key; nonce_length = p.nonce; ad_length = p.extra }
