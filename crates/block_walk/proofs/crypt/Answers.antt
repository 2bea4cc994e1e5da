-- `block_walk::crypt` meets its contract: the direction picks the loop.
use Rattle.block_walk.proofs.crypt.Goals as goal

pub returns-then-opening-clause-text : goal.returns-then-opening-clause-text
returns-then-opening-clause-text c = rw c.if-opening.true c.crypt_blocks.ensures.text

pub returns-then-opening-clause-state : goal.returns-then-opening-clause-state
returns-then-opening-clause-state c = rw c.if-opening.true c.crypt_blocks.ensures.state

pub returns-clause-text : goal.returns-clause-text
returns-clause-text c = rw c.if-opening.false c.crypt_blocks-2.ensures.text

pub returns-clause-state : goal.returns-clause-state
returns-clause-state c = rw c.if-opening.false c.crypt_blocks-2.ensures.state
