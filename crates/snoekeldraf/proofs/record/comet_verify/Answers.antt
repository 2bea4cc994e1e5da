-- What the test of a record answers, as document 01's number.
use mathlib.Core.Path.{◌∙◌}
use Rattle.snoekeldraf.proofs.record.comet_verify.Goals as goal

pub returns : goal.returns
returns c = c.number.ensures ∙ c.verify-verdict.ensures
