-- Opening answers with a row of one file, which fits, so what it says passes whole beside the file and the output.
use Prim.Native.Nat.{◌≤◌}
use mathlib.Core.Path.{sym, ap, subst, ◌∙◌}
use Rattle.status.specs.declared.checked.Answer.{Answer}
use Rattle.shift_amend.specs.Amending.{AmendedOpening}
use Rattle.snoekeldraf.proofs.AmendedRows.{open_amended_row}
use Rattle.snoekeldraf.proofs.amending.shift_open_amended.Goals as goal

pub say-requires : goal.say-requires
say-requires c =
    let e = c.answered.ensures ∙ ap (λ (w : AmendedOpening). w.answer) c.open_current-current.ensures in
    subst (λ (w : Answer). w.row ≤ 512) (sym e) (open_amended_row _ _ _ _ _)

pub returns : goal.returns
returns c = rw (c.from.ensures, c.say.ensures ∙ c.answered.ensures) c.open_current-current.ensures
