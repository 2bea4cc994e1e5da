-- `comet::unseal_counted`, by two cases. A refusal leaves the buffer unchanged and takes no cipher call. Otherwise the text is copied into the
-- output and opened there, which gives what the definition gives for text and output (`opening-same`).
use mathlib.Core.Bool.{true}
use mathlib.Core.Path.{◌∙◌}
use Rattle.comet.specs.Counted.{opening_counted}
use Rattle.status.proofs.Refuse.{passed, error-some}
use Rattle.comet.proofs.Left.{opening-kept}
use Rattle.comet.proofs.Counts.{counting, calls-none, opening-same}
use Rattle.comet.proofs.unseal_counted.Goals as goal

pub copy-requires : goal.copy-requires
copy-requires c = (passed _ _ _ _ _ _ _ _ c.in-Ok.ensures.0).room

pub returns-in-Err : goal.returns-in-Err
returns-in-Err c =
    let x = c.args in
    let e = c.in-Err.ensures in
    let told = c.from.ensures in
    counting
    (opening-kept x.suite x.key.now x.nonce.now x.ad.now x.text.now x.tag.now x.out.now _ (told.0 ∙ e) (rw told.0 (error-some c.in-Err.error)))
    (told.1 ∙ calls-none true x.suite x.key.now x.nonce.now x.ad.now x.text.now _ _ _ e (error-some c.in-Err.error))

pub returns-in-Ok : goal.returns-in-Ok
returns-in-Ok c =
    let x = c.args in
    let e = c.in-Ok.ensures in
    let copied = c.copy.ensures in
    c.unseal_accepted.ensures ∙ (λ i. opening_counted (e.1 i) (e.2 i) (e.3 i) (e.4 i) (copied i) x.tag.now (copied i))
    ∙ opening-same x.suite x.key.now x.nonce.now x.ad.now x.text.now x.tag.now x.out.now e.0
