-- `byte_runs::copy`: what is written so far is the front of what is read.
use Rattle.std.proofs.Common.{◌≡◌, take}
use Rattle.byte_runs.proofs.copy.Given as goal

abbrev pub invariant-loop-i : goal.invariant-loop-i
invariant-loop-i l = take l.i l.to ≡ take l.i l.from
