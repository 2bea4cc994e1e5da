-- `block_walk::absorb_blocks`, by induction on the loop: each turn absorbs one whole block of what is left, in either direction.
-- The laws are those of `Going`.
use lib.Dec.{eqb}
use lib.ListN.{length}
use mathlib.Core.Bool.{not}
use Prim.Native.Nat.{◌-◌}
use Rattle.block_walk.proofs.Going.{Going}
use Rattle.block_walk.proofs.absorb_blocks.Given as goal

abbrev pub invariant-loop-i : goal.invariant-loop-i
invariant-loop-i g l = Going l.engine.suite (not (eqb g.row.OPENING 0)) l.first l.initial.state l.bytes l.state l.mark l.i

abbrev pub decreases-loop-i : goal.decreases-loop-i
decreases-loop-i g l = length l.bytes - l.i
