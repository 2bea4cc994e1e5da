-- `block_walk::absorb_blocks`, by induction on the loop: each turn absorbs one whole block of what is left, in either direction.
-- The laws are those of `Going`.
use native.Mathlib.Omega.{arith}
use Rattle.block_walk.proofs.Going.{full_block, at-start, turn, done}
use Rattle.block_walk.proofs.absorb_blocks.Goals as goal

pub returns-then-bytes-n : goal.returns-then-bytes-n
returns-then-bytes-n g c = done (c.size-n.ensures.is, c.size-n.ensures.bounds) (at-start (omega arith)) (omega arith)

pub loop-i-init : goal.loop-i-init
loop-i-init g c = at-start (omega arith)

pub absorb_full-state-requires : goal.absorb_full-state-requires
absorb_full-state-requires g c =
    full_block c.args.engine.now.suite (c.size-n.ensures.is, c.size-n.ensures.bounds) c.args.bytes.now c.loop-i.i (omega arith)

pub loop-i-preserved : goal.loop-i-preserved
loop-i-preserved g c =
    turn (c.size-n.ensures.is, c.size-n.ensures.bounds) c.loop-i.invariant (omega arith) c.absorb_full-state.ensures

pub returns : goal.returns
returns g c = done (c.size-n.ensures.is, c.size-n.ensures.bounds) c.loop-i.invariant (omega (arith, c.loop-i-test.false))
