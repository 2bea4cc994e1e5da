-- `session_ladder::in_progress` meets its contract: each return decides one conjunct of `sound`: the suite seals, and both totals are within the limit.
use borrow.Author.Tests.{le-leb, lt-leb}
use mathlib.Core.Path.{◌≡◌, refl, sym, ◌∙◌}
use mathlib.Core.Bool.{true, false}
use Rattle.cipher.specs.Cipher.{seals}
use Rattle.session_ladder.proofs.in_progress.Goals as goal

pub returns-then-not-seals : goal.returns-then-not-seals
returns-then-not-seals c =
    let e : seals c.args.suite ≡ false = sym c.seals-seals.ensures ∙ c.if-not-seals.true in
    (refl, simp e)

pub returns-then-ad_total-gt-LIMIT : goal.returns-then-ad_total-gt-LIMIT
returns-then-ad_total-gt-LIMIT c =
    let e : seals c.args.suite ≡ true = sym c.seals-seals.ensures ∙ c.if-not-seals.false in
    (refl, simp (e, lt-leb _ _ c.if-ad_total-gt-LIMIT.true))

pub returns-then-text_total-gt-LIMIT : goal.returns-then-text_total-gt-LIMIT
returns-then-text_total-gt-LIMIT c =
    let e : seals c.args.suite ≡ true = sym c.seals-seals.ensures ∙ c.if-not-seals.false in
    (refl, simp (e, le-leb _ _ c.if-ad_total-gt-LIMIT.false, lt-leb _ _ c.if-text_total-gt-LIMIT.true))

pub returns : goal.returns
returns c =
    let e : seals c.args.suite ≡ true = sym c.seals-seals.ensures ∙ c.if-not-seals.false in
    simp (e, le-leb _ _ c.if-ad_total-gt-LIMIT.false, le-leb _ _ c.if-text_total-gt-LIMIT.false)
