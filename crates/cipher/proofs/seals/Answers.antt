-- `cipher::seals` meets its contract: a suite that we have seals, but for the retired one.
use mathlib.Core.Path.{◌≡◌, sym, ◌∙◌}
use mathlib.Core.Bool.{true, false}
use Rattle.cipher.specs.Cipher.{is_suite, retired, seals}
use Rattle.cipher.proofs.seals.Goals as goal

pub returns-then-is_suite : goal.returns-then-is_suite
unfolding seals retired
returns-then-is_suite c =
    let e : is_suite c.args.suite ≡ true = sym c.is_suite.ensures ∙ c.if-is_suite.true in
    simp e

pub returns-else-is_suite : goal.returns-else-is_suite
unfolding seals
returns-else-is_suite c =
    let e : is_suite c.args.suite ≡ false = sym c.is_suite.ensures ∙ c.if-is_suite.false in
    let k : false ≡ seals c.args.suite = simp e in
    c.if-is_suite.false ∙ k
