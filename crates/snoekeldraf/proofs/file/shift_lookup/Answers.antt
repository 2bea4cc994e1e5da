-- The lookup answers with a row of the file, which fits, so what it says passes whole.
use Prim.Native.Nat.{◌≤◌}
use mathlib.Core.Path.{sym, subst, ◌∙◌}
use Rattle.status.specs.declared.checked.Answer.{Answer}
use Rattle.snoekeldraf.proofs.Rows.{lookup-row}
use Rattle.snoekeldraf.proofs.file.shift_lookup.Goals as goal

pub say-requires : goal.say-requires
say-requires c =
    subst (λ (w : Answer). w.row ≤ 512) (sym (c.answer_of.ensures ∙ c.lookup.ensures)) (lookup-row _ _)

pub returns : goal.returns
returns c = c.say.ensures ∙ c.answer_of.ensures ∙ c.lookup.ensures
