-- The reader that holds the file and its place in it (document 02, W14): its three functions have no precondition, and leave
-- one outcome, the definition's (`shift_reader/specs/Held.antt`). Over every model of the logic.
use seplogic.Ra.Ura.{Ura}
use base.Logic.{SProp}
use prog.Memory.{Memory}
use prog.Routine.{Routine}
use types.Logic.{Logic}
use contract.Monad.{Fun}
use Rattle.shift_reader.specs.Reading.{ask_of, reader_of, next_of}
use Rattle.shift_reader.specs.Held.{Held}
use Rattle.shift_reader.specs.contracts.read as Read-of
use Rattle.shift_reader.specs.contracts.Reader.next as next-of
use Rattle.shift_reader.specs.contracts.step_at as step-at-of

pub record Readers {M : Type 1} {𝓤 : Ura M} (𝓛 : Logic 𝓤) (mem : Memory → SProp 𝓤) (run : Routine → Fun 𝓤) : Type 2 where
  -- `read` gives the file's reader, at its first entry
  pub read : Held 𝓤 Read-of.ended (Read-of.clauses 𝓛 mem run) (λ κs r u. r) (λ κs a. reader_of a.0)
  -- `next` the next entry and the reader past it; `step_at` the entry and the cursor after it
  pub next : Held 𝓤 next-of.ended (next-of.clauses 𝓛 mem run) (λ κs r u. r) (λ κs a. next_of a.0)
  pub step-at : Held 𝓤 step-at-of.ended (step-at-of.clauses 𝓛 mem run) (λ κs r u. r) (λ κs a. ask_of a.1.0 a.0.now)
