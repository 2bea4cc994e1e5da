-- Row and counts fit, so what the comparison says passes whole beside the lists.
use native.Mathlib.Omega.{arith}
use Rattle.snoekeldraf.proofs.Lists.{counted}
use Rattle.snoekeldraf.proofs.compare.shift_compare.Goals as goal

pub overflow_cast-first_count : goal.overflow_cast-first_count
overflow_cast-first_count c =
    omega (arith, (counted _ _ _ _ _ _ _ c.said-finding.ensures c.compare-compared.ensures).first)

pub overflow_cast-second_count : goal.overflow_cast-second_count
overflow_cast-second_count c =
    omega (arith, (counted _ _ _ _ _ _ _ c.said-finding.ensures c.compare-compared.ensures).second)

pub overflow_cast-differ_count : goal.overflow_cast-differ_count
overflow_cast-differ_count c =
    omega (arith, (counted _ _ _ _ _ _ _ c.said-finding.ensures c.compare-compared.ensures).differ)

pub overflow_cast-row : goal.overflow_cast-row
overflow_cast-row c =
    omega (arith, (counted _ _ _ _ _ _ _ c.said-finding.ensures c.compare-compared.ensures).row)

pub returns : goal.returns
returns c =
    rw c.said-finding.ensures c.compare-compared.ensures
