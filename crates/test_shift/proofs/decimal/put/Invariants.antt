use Rattle.std.proofs.Common.{◌≤◌}
use Rattle.test_shift.proofs.decimal.put.Given as goal

-- The next number ends before the last byte.
abbrev pub invariant-loop-number : goal.invariant-loop-number
invariant-loop-number l =
    (goal.iterator-loop-number).can_next l.number-iterator × (goal.iterator-loop-number).is_finite l.number-iterator
    × (l.at ≤ 210)
