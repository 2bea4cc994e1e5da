-- Whether an earlier row clashes with row i: the loop has come to row j, and no row below j clashes (`NoneYet`).
use Rattle.shift_check.specs.Check.{clash}
use Rattle.shift_check.proofs.Searches.{NoneYet}
use Rattle.shift_check.proofs.rules.nonce_seen.Given as goal

abbrev pub invariant-loop-j : goal.invariant-loop-j
invariant-loop-j l = NoneYet (clash l.table.size l.table.file.now l.index) l.index l.j
