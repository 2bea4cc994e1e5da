-- `block_walk::absorb` meets its contract: the direction picks the loop.
use Rattle.block_walk.proofs.absorb.Goals as goal

pub returns-then-opening : goal.returns-then-opening
returns-then-opening c = rw c.if-opening.true c.absorb_blocks.ensures

pub returns : goal.returns
returns c = rw c.if-opening.false c.absorb_blocks-2.ensures
