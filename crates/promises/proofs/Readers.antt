-- The reader's three by citation.
use seplogic.Ra.Ura.{Ura}
use base.Logic.{SProp}
use prog.Memory.{Memory}
use prog.Routine.{Routine}
use types.Logic.{Logic}
use contract.Monad.{Fun}
use Rattle.shift_reader.proofs.Held as held
use Rattle.promises.specs.Readers.{Readers}

pub readers : {M : Type 1} {𝓤 : Ura M} (𝓛 : Logic 𝓤) (mem : Memory → SProp 𝓤) (run : Routine → Fun 𝓤) → Readers 𝓛 mem run
readers 𝓛 mem run = record {
  read = held.read 𝓛 mem run;
  next = held.next 𝓛 mem run;
  step-at = held.step-at 𝓛 mem run;
}
