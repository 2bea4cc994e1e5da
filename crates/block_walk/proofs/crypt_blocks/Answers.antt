-- `block_walk::crypt_blocks`, by induction on the loop: each turn overwrites one whole block of what is left with its output, in
-- either direction. The laws are those of `Placed`.
use native.Mathlib.Omega.{arith}
use Rattle.block_walk.proofs.Going.{full_block, placed-start, placed-turn, placed-done}
use Rattle.block_walk.proofs.crypt_blocks.Goals as goal

pub returns-then-text-n : goal.returns-then-text-n
returns-then-text-n g c =
    let done =
    placed-done {m = c.args.first} {s = c.args.start} {l = c.args.text.now} (c.size-n.ensures.is, c.size-n.ensures.bounds) (placed-start (omega arith))
    (omega arith) in
    record { text = done.0; state = done.1 }

pub loop-i-init : goal.loop-i-init
loop-i-init g c = placed-start (omega arith)

pub crypt_full-state-requires : goal.crypt_full-state-requires
crypt_full-state-requires g c =
    full_block c.args.engine.now.suite (c.size-n.ensures.is, c.size-n.ensures.bounds) c.loop-i.text c.loop-i.i
    (omega (arith, c.loop-i.invariant.long))

pub loop-i-preserved : goal.loop-i-preserved
loop-i-preserved g c =
    placed-turn (c.size-n.ensures.is, c.size-n.ensures.bounds) c.loop-i.invariant
    (omega (arith, c.loop-i-test.true)) c.crypt_full-state.auto.block (c.crypt_full-state.ensures.text, c.crypt_full-state.ensures.state)

pub shape_of-text : goal.shape_of-text
shape_of-text g c = c.loop-i.invariant.long

pub returns : goal.returns
returns g c =
    let done = placed-done (c.size-n.ensures.is, c.size-n.ensures.bounds) c.loop-i.invariant (omega (arith, c.loop-i-test.false)) in
    record { text = done.0; state = done.1 }
