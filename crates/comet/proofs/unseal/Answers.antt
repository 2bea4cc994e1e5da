-- `comet::unseal` meets its contract: it is the counted one, and the count is left out.
use mathlib.Core.Path.{ap}
use Rattle.comet.specs.Answers.{Opened}
use Rattle.comet.specs.Counted.{Counting}
use Rattle.comet.proofs.unseal.Goals as goal

pub returns : goal.returns
returns c = ap (λ (w : Counting Opened). w.leaves) c.unseal_counted.ensures
