-- The outcome of sealing in place, with its answer as document 01's number.
use Rattle.snoekeldraf.proofs.record.comet_seal_in_place.Goals as goal

pub returns : goal.returns
returns c = rw c.number.ensures c.seal_in_place-verdict.ensures
