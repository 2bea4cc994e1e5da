-- `cipher::encipher8` meets its contract: the test finds the suite's engine.
use native.Mathlib.Omega.{arith}
use mathlib.Core.Path.{sym, ap, ◌∙◌}
use mathlib.Core.List.{◌++◌}
use Rattle.block.specs.Bytes.{bytes}
use Rattle.cipher.proofs.Suites.{Engine, engine_3, engine_4}
use Rattle.cipher.proofs.encipher8.Goals as goal

pub returns-then-suite-eq-RETIRED : goal.returns-then-suite-eq-RETIRED
returns-then-suite-eq-RETIRED c =
    c.by_cham64.ensures ∙ sym (ap (λ (e : Engine). e (bytes 8 c.args.key0 ++ bytes 8 c.args.key1) (bytes 8 c.args.block))
    (engine_4 c.args.suite (omega (arith, c.if-suite-eq-RETIRED.true))))

pub returns : goal.returns
returns c =
    c.by_speck.ensures ∙ sym (ap (λ (e : Engine). e (bytes 8 c.args.key0 ++ bytes 8 c.args.key1) (bytes 8 c.args.block))
    (engine_3 c.args.suite c.requires.1 (λ e. omega (arith, e, c.if-suite-eq-RETIRED.false))))
