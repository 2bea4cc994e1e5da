-- `comet::seal` meets its contract: it is the counted one, and the count is left out.
use mathlib.Core.Path.{ap}
use Rattle.comet.specs.Answers.{Sealed}
use Rattle.comet.specs.Counted.{Counting}
use Rattle.comet.proofs.seal.Goals as goal

pub returns : goal.returns
returns c = ap (λ (w : Counting Sealed). w.leaves) c.seal_counted.ensures
