-- After each turn every list is filled as far as its file is read, and what is left of it is what the rest of the files gives.
use Prim.Native.Nat.{◌-◌, ◌+◌}
use lib.Dec.{eqb}
use mathlib.Core.Bool.{not}
use Rattle.shift_compare.proofs.Passing.{Going}
use Rattle.shift_compare.proofs.merge.pass.Given as goal

abbrev pub invariant-loop-i : goal.invariant-loop-i
invariant-loop-i g l =
    Going l.first l.second (not (eqb g.row.WRITE 0)) l.initial.only_first l.initial.only_second l.initial.differ l.total l.i l.j l.in_first l.in_second
    l.in_both l.only_first l.only_second l.differ

abbrev pub decreases-loop-i : goal.decreases-loop-i
decreases-loop-i g l = l.total - (l.i + l.j)
