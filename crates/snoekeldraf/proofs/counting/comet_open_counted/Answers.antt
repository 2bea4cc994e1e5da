-- The opener's counted outcome, with its answer as document 01's number and the count as it is.
use Rattle.snoekeldraf.proofs.counting.comet_open_counted.Goals as goal

pub returns : goal.returns
returns c = rw c.number.ensures c.unseal_counted-opened.ensures
