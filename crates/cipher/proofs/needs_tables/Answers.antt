-- `cipher::needs_tables` meets its contract, test by test.
use mathlib.Core.Path.{sym, ◌∙◌}
use native.Mathlib.Omega.{arith}
use borrow.Author.Tests.{le-leb}
use Rattle.cipher.proofs.Suites.{needs_tables_early, needs_tables-late}
use Rattle.cipher.proofs.needs_tables.Goals as goal

pub returns-then-suite-le1 : goal.returns-then-suite-le1
returns-then-suite-le1 c = le-leb c.args.suite 1 (omega (arith, c.if-suite-le1.true)) ∙ sym (needs_tables_early c.args.suite (omega (arith, c.if-suite-le1.true)))

pub returns-else-suite-le1 : goal.returns-else-suite-le1
returns-else-suite-le1 c = sym (needs_tables-late c.args.suite (omega (arith, c.if-suite-le1.false)))
