-- `cipher::is_suite` meets its contract, test by test.
use native.Mathlib.Omega.{arith}
use borrow.Author.Tests.{le-leb, lt-leb}
use Rattle.cipher.specs.Cipher.{is_suite}
use Rattle.cipher.proofs.is_suite.Goals as goal

pub returns-then-suite-ge1 : goal.returns-then-suite-ge1
unfolding is_suite
returns-then-suite-ge1 c = simp (le-leb 1 c.args.suite c.if-suite-ge1.true)

pub returns-else-suite-ge1 : goal.returns-else-suite-ge1
unfolding is_suite
returns-else-suite-ge1 c = simp (lt-leb 1 c.args.suite (omega (arith, c.if-suite-ge1.false)))
