-- The rows below i are sound, so 34 applies to none, their marks are left, and start is where the next body has to: the walk from i on gives the whole answer.
use mathlib.Core.Path.{◌≡◌}
use Rattle.shift_check.specs.Check.{body_start, rows_from}
use Rattle.shift_check.specs.Spared.{Spared}
use Rattle.shift_check.proofs.Sieve.{Left}
use Rattle.shift_check.proofs.check_rows.Given as goal

abbrev pub invariant-loop-i : goal.invariant-loop-i
invariant-loop-i l = record {
  rest : rows_from l.table.size l.table.file.now l.table.rows 0 ≡ rows_from l.table.size l.table.file.now l.table.rows l.i;
  spared : Spared l.table.size l.table.file.now l.i;
  left : Left l.table.size l.table.file.now l.i l.seen;
  starts : l.start ≡ body_start l.table.size l.table.file.now l.table.rows l.i;
}
