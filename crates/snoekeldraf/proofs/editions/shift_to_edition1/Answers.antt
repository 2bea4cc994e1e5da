-- A move answers with a row of the file, which fits, so what it says passes whole beside the output.
use Prim.Native.Nat.{◌≤◌}
use mathlib.Core.Path.{sym, ap, subst, ◌∙◌}
use Rattle.status.specs.declared.checked.Answer.{Answer}
use Rattle.shift_editions.specs.Answers.{FileMoved}
use Rattle.snoekeldraf.proofs.Rows.{back_row}
use Rattle.snoekeldraf.proofs.editions.shift_to_edition1.Goals as goal

pub say-requires : goal.say-requires
say-requires c =
    let e = c.answered.ensures ∙ ap (λ (w : FileMoved). w.answer) c.to_edition1.ensures in
    subst (λ (w : Answer). w.row ≤ 512) (sym e) (back_row _ _)

pub returns : goal.returns
returns c = rw (c.say.ensures ∙ c.answered.ensures) c.to_edition1.ensures
