-- `block_walk::crypt_blocks`, by induction on the loop: each turn overwrites one whole block of what is left with its output, in
-- either direction. The laws are those of `Placed`.
use lib.Dec.{eqb}
use lib.ListN.{length}
use mathlib.Core.Bool.{not}
use Prim.Native.Nat.{◌-◌}
use Rattle.block_walk.proofs.Going.{Placed}
use Rattle.block_walk.proofs.crypt_blocks.Given as goal

abbrev pub invariant-loop-i : goal.invariant-loop-i
invariant-loop-i g l = Placed l.engine.suite (not (eqb g.row.OPENING 0)) l.first l.initial.state l.initial.text l.state l.mark l.i l.text

abbrev pub decreases-loop-i : goal.decreases-loop-i
decreases-loop-i g l = length l.initial.text - l.i
