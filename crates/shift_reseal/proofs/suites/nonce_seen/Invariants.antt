-- Whether an earlier row clashes with row i: the loop has come to row j, and no row below j clashes (`NoneYet`).
use Rattle.shift_format.specs.Format.{row_size_of}
use Rattle.shift_check.specs.Check.{clash}
use Rattle.shift_check.proofs.Searches.{NoneYet}
use Rattle.shift_reseal.specs.Files.{retabled}
use Rattle.shift_reseal.proofs.suites.nonce_seen.Given as goal

abbrev pub invariant-loop-j : goal.invariant-loop-j
invariant-loop-j l = NoneYet (clash (row_size_of (retabled l.file)) (retabled l.file) l.index) l.index l.j
