-- Row and count fit, so what the report says passes whole beside the lists.
use native.Mathlib.Omega.{arith}
use Rattle.snoekeldraf.proofs.Reports.{small}
use Rattle.snoekeldraf.proofs.reporting.shift_report.Goals as goal

pub overflow_cast-count : goal.overflow_cast-count
overflow_cast-count c =
    omega (arith, (small _ _ _ _ _ _ c.said-summary.ensures c.report.ensures).count)

pub overflow_cast-row : goal.overflow_cast-row
overflow_cast-row c =
    omega (arith, (small _ _ _ _ _ _ c.said-summary.ensures c.report.ensures).row)

pub returns : goal.returns
returns c =
    rw c.said-summary.ensures c.report.ensures
