-- The output is the old one with the new suites of the rows below i.
use mathlib.Core.Path.{◌≡◌}
use Rattle.shift_reseal.specs.Files.{resuited}
use Rattle.shift_reseal.proofs.suites.put_suites.Given as goal

abbrev pub invariant-loop-i : goal.invariant-loop-i
invariant-loop-i l = l.out ≡ resuited l.file l.i l.initial.out
