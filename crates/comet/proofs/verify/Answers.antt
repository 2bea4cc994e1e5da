-- `comet::verify`: if the lengths are refused, the status is that of the opener with an output as long as the text. Otherwise
-- the status follows from the tag comparison alone, as the opener's does.
use Rattle.std.proofs.lemmas.Result.{err_from_is_err_and}
use mathlib.Core.Bool.{Bool, true, false}
use mathlib.Core.Path.{◌≡◌, refl, sym, ap, ◌∙◌}
use Rattle.block.specs.Bytes.{same_bytes}
use Rattle.cipher.specs.Cipher.{size_of, cipher_of}
use Rattle.cipher.proofs.Suites.{full_two}
use Rattle.mode.specs.Mode.{text_out, tag_out}
use Rattle.comet.specs.Answers.{Opened, opened_as, verifying}
use Rattle.status.proofs.Refuse.{passed, error-some}
use Rattle.comet.proofs.Left.{opening-kept, opening-done}
use Rattle.comet.proofs.Tags.{compared, nothing_after}
use Rattle.comet.proofs.verify.Goals.{After-same-genuine}
use Rattle.comet.proofs.verify.Goals as goal

-- the comparison gave b
done : (d : After-same-genuine) → (b : Bool) → d.same-genuine.result ≡ b
    → (opened_as 0 b (text_out (cipher_of d.args.suite) true d.args.key.now d.args.nonce.now d.args.ad.now d.args.text.now) d.args.text.now).number
    ≡ verifying d.args.suite d.args.key.now d.args.nonce.now d.args.ad.now d.args.text.now d.args.tag.now
unfolding verifying
done d b e =
    let x = d.args in
    let h = d.in_ok-header.ensures in
    let right = sym e ∙ d.same-genuine.ensures ∙ compared d.tag_under-computed.ensures x.tag.now ((passed _ _ _ _ _ _ _ _ h.0).tag ∙ sym (ap size_of h.1))
    ∙ (λ i. same_bytes (tag_out (cipher_of (h.1 i)) true (h.2 i) (h.3 i) (h.4 i) x.text.now) x.tag.now) in
    ap (λ (w : Opened). w.number)
    (opening-done x.suite x.key.now x.nonce.now x.ad.now x.text.now x.tag.now x.text.now 0 (sym h.0) refl b right)

pub returns-in_err-header : goal.returns-in_err-header
unfolding verifying
returns-in_err-header c =
    let x = c.args in
    let p = err_from_is_err_and c.from_residual.result c.from_residual.ensures.1 in
    rw (p.1, p.2) (ap (λ (w : Opened). w.number)
    (opening-kept x.suite x.key.now x.nonce.now x.ad.now x.text.now x.tag.now x.text.now _ c.in_err-header.ensures (error-some _)))

pub same-genuine-requires : goal.same-genuine-requires
same-genuine-requires c =
    let h = c.in_ok-header.ensures in
    let e = (passed _ _ _ _ _ _ _ _ h.0).tag ∙ sym (ap size_of h.1) in
    (full_two _ _ e, nothing_after c.tag_under-computed.ensures c.args.tag.now e)

pub returns-then-not-genuine : goal.returns-then-not-genuine
returns-then-not-genuine c = done (goal.at.returns-then-not-genuine c).After-same-genuine false c.if-not-genuine.true

pub returns : goal.returns
returns c = done (goal.at.returns c).After-same-genuine true c.if-not-genuine.false
