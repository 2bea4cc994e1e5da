-- `speck::encrypt` meets its contract: before round i the loop holds the schedule of round i and the state after i rounds.
use mathlib.Core.Path.{◌≡◌}
use Rattle.speck.specs.declared.Pair.{Pair}
use Rattle.speck.specs.declared.Keys.{Keys}
use Rattle.speck.specs.Speck.{State, Schedule, schedule, rounds}
use Rattle.speck.proofs.encrypt.Given as goal

abbrev pub state : Pair → State
state x = record { x1 = x.x1; x0 = x.x0 }

abbrev pub keys : Keys → Schedule
keys k = record { r = k.r; l0 = k.l0; l1 = k.l1; l2 = k.l2 }

abbrev pub invariant-loop-i : goal.invariant-loop-i
invariant-loop-i l = (keys l.k ≡ schedule (keys l.initial.k) l.i) × (state l.x ≡ rounds (keys l.initial.k) (state l.initial.x) l.i)
