-- The sealer's outcome, with its answer as document 01's number.
use Rattle.snoekeldraf.proofs.record.comet_seal.Goals as goal

pub returns : goal.returns
returns c = rw c.number.ensures c.seal-verdict.ensures
