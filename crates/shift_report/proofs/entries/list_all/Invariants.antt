-- After i turns both lists hold the first i entries, and what stood after them.
use mathlib.Core.Path.{◌≡◌}
use Rattle.shift_report.specs.Reporting.{job_of, tag_number, front}
use Rattle.shift_report.proofs.entries.list_all.Given as goal

abbrev pub invariant-loop-i : goal.invariant-loop-i
invariant-loop-i l = (l.jobs ≡ front (job_of l.file) l.i l.initial.jobs) × (l.numbers ≡ front (tag_number l.file l.ring) l.i l.initial.numbers)
