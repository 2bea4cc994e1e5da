use Rattle.std.proofs.Common.{◌≤◌}
use Rattle.test_shift.proofs.decimal.digits.Given as goal

-- No digit is put at or after the end.
abbrev pub invariant-loop-at : goal.invariant-loop-at
invariant-loop-at l = l.at ≤ l.fn.end

abbrev pub decreases-loop-at : goal.decreases-loop-at
decreases-loop-at l = l.at
