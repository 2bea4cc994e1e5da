-- Whether an earlier row clashes with row i: the loop has come to row j, and no row below j clashes (`NoneYet`).
use mathlib.Core.Path.{sym}
use native.Mathlib.Omega.{arith}
use Rattle.shift_check.specs.Check.{nonce_seen}
use Rattle.shift_check.proofs.Searches.{yet-start, yet-hit, yet-more, yet-end}
use Rattle.shift_reseal.proofs.suites.nonce_seen.Goals as goal

pub loop-j-init : goal.loop-j-init
loop-j-init c = yet-start

pub clashes-requires : goal.clashes-requires
clashes-requires c =
    (c.requires.0, (c.requires.1, omega (arith, c.loop-j-test.true, c.requires.1)))

pub returns-then-clashes : goal.returns-then-clashes
unfolding nonce_seen
returns-then-clashes c = sym (yet-hit c.loop-j.invariant c.loop-j-test.true (cc))

pub loop-j-preserved : goal.loop-j-preserved
loop-j-preserved c = yet-more c.loop-j.invariant c.loop-j-test.true (cc)

pub returns : goal.returns
unfolding nonce_seen
returns c = sym (yet-end c.loop-j.invariant (omega arith))
