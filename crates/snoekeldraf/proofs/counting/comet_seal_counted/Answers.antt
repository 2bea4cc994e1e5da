-- The sealer's counted outcome, with its answer as document 01's number and the count as it is.
use Rattle.snoekeldraf.proofs.counting.comet_seal_counted.Goals as goal

pub returns : goal.returns
returns c = rw c.number.ensures c.seal_counted-sealed.ensures
