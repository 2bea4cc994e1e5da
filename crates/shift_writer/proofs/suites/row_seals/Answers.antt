-- The suite is the row's.
use mathlib.Core.Bool.{not}
use mathlib.Core.Path.{ap, ◌∙◌}
use Rattle.cipher.specs.Cipher.{seals}
use Rattle.shift_format.specs.declared.row.Row.{Row}
use Rattle.shift_draft.specs.Answers.{row_retired}
use Rattle.shift_writer.proofs.suites.row_seals.Goals as goal

pub returns : goal.returns
unfolding row_retired
returns c = ap not c.seals.ensures ∙ ap (λ (r : Row). not (seals r.suite)) c.row_of-row.ensures
