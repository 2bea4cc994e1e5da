-- The pass answers with a row of the file, which fits, so what it says passes whole beside the output.
use Prim.Native.Nat.{◌≤◌}
use mathlib.Core.Path.{sym, ap, subst, ◌∙◌}
use Rattle.status.specs.declared.checked.Answer.{Answer}
use Rattle.shift_draft.specs.Answers.{FileWritten}
use Rattle.snoekeldraf.proofs.Rows.{resealed_row}
use Rattle.snoekeldraf.proofs.reseal.shift_reseal.Goals as goal

pub say-requires : goal.say-requires
say-requires c =
    let e = c.answered.ensures ∙ ap (λ (w : FileWritten). w.answer) c.reseal.ensures in
    subst (λ (w : Answer). w.row ≤ 512) (sym e) (resealed_row _ _ _)

pub returns : goal.returns
returns c = rw (c.say.ensures ∙ c.answered.ensures) c.reseal.ensures
