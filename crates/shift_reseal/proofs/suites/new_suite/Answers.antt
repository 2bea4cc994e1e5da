-- One test.
use borrow.Author.Tests.{eq-eqb, ne_eqb}
use Rattle.shift_reseal.specs.Files.{new_suite}
use Rattle.shift_reseal.proofs.suites.new_suite.Goals as goal

pub returns-then-suite-eq-RETIRED : goal.returns-then-suite-eq-RETIRED
unfolding new_suite
returns-then-suite-eq-RETIRED c = simp (eq-eqb _ _ c.if-suite-eq-RETIRED.true)

pub returns-else-suite-eq-RETIRED : goal.returns-else-suite-eq-RETIRED
unfolding new_suite
returns-else-suite-eq-RETIRED c = simp (ne_eqb _ _ c.if-suite-eq-RETIRED.false)
