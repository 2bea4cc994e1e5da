-- The row is 0, or the error's, which is the lookup's and fits; all else passes whole.
use Prim.Native.Nat.{◌≤◌}
use mathlib.Core.Path.{subst}
use Rattle.shift_jobs.specs.Genuine.{genuine_answer}
use Rattle.snoekeldraf.proofs.Rows.{genuine-row}
use Rattle.snoekeldraf.proofs.file.shift_verified.Goals as goal

pub say-requires : goal.say-requires
say-requires c =
    rw c.answer.ensures (subst (λ r. (genuine_answer r).row ≤ 512) c.in-Err.is (genuine-row _ _ _ _ c.verified.ensures))
