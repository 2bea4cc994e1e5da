-- `cipher::size_of` meets its contract, by the sizes of the suites.
use mathlib.Core.Path.{sym}
use native.Mathlib.Omega.{arith}
use Rattle.cipher.proofs.Suites.{size_16, size_five, size_8}
use Rattle.cipher.proofs.size_of.Goals as goal

pub returns-then-suite-le2 : goal.returns-then-suite-le2
returns-then-suite-le2 c = record { is = sym (size_16 c.args.suite (omega arith)); bounds = (omega arith, omega arith) }

pub returns-then-suite-eq5 : goal.returns-then-suite-eq5
returns-then-suite-eq5 c = record { is = sym (size_five c.args.suite c.if-suite-eq5.true); bounds = (omega arith, omega arith) }

pub returns-else-suite-eq5 : goal.returns-else-suite-eq5
returns-else-suite-eq5 c = record { is = sym (size_8 c.args.suite (omega arith) c.if-suite-eq5.false); bounds = (omega arith, omega arith) }
