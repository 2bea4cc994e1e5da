-- The entry's row, or its error's, is the lookup's, which fits; all else passes whole.
use Prim.Native.Nat.{◌≤◌}
use native.Mathlib.Omega.{arith}
use mathlib.Core.Path.{subst}
use Rattle.shift_lookup.specs.Entry.{entry_answer}
use Rattle.snoekeldraf.proofs.Rows.{entry-row}
use Rattle.snoekeldraf.proofs.file.shift_entry.Goals as goal

pub overflow_cast-row : goal.overflow_cast-row
overflow_cast-row c =
    let low : c.in-Ok.entry.row ≤ 512 = subst (λ r. (entry_answer r).row ≤ 512) c.in-Ok.is (entry-row _ _ _ c.entry.ensures) in
    omega arith

pub say-requires : goal.say-requires
say-requires c =
    rw c.answer.ensures (subst (λ r. (entry_answer r).row ≤ 512) c.in-Err.is (entry-row _ _ _ c.entry.ensures))
