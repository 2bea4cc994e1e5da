-- The check answers with a row of the file, which fits, so what it says passes whole.
use Prim.Native.Nat.{◌≤◌}
use mathlib.Core.Path.{sym, subst, ◌∙◌}
use Rattle.status.specs.declared.checked.Answer.{Answer}
use Rattle.snoekeldraf.proofs.Rows.{check_row}
use Rattle.snoekeldraf.proofs.file.shift_check.Goals as goal

pub say-requires : goal.say-requires
say-requires c =
    subst (λ (w : Answer). w.row ≤ 512) (sym (c.answered.ensures ∙ c.check.ensures)) (check_row _ _ _)

pub returns : goal.returns
returns c = c.say.ensures ∙ c.answered.ensures ∙ c.check.ensures
