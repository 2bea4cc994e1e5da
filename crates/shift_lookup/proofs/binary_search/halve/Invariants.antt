-- After some looks a stretch is left, and binary search that gives the whole answer.
use Rattle.shift_lookup.specs.Halving.{jobs_of}
use Rattle.shift_lookup.proofs.Halves.{Halfway}
use Rattle.shift_lookup.proofs.binary_search.halve.Given as goal

abbrev pub invariant-loop-c : goal.invariant-loop-c
invariant-loop-c l = Halfway (jobs_of l.size l.file) l.job l.rows l.s l.c l.looked

abbrev pub decreases-loop-c : goal.decreases-loop-c
decreases-loop-c l = l.c
