-- The file that the number speaks of answers: a refusal of its own lookup stands, and a row that it found is opened.
use mathlib.Core.Path.{ap, ◌∙◌}
use Rattle.shift_amend.specs.Amending.{opened_in}
use Rattle.shift_amend.proofs.Parts.{found_opens}
use Rattle.shift_amend.proofs.Told.{lookup-told, opening-told}
use Rattle.shift_amend.proofs.open_current.Goals as goal

pub open_found-requires : goal.open_found-requires
open_found-requires c =
    record { job = c.args.job; gives = lookup-told c.args.amendment c.args.day c.of-file.result c.args.job _ _ c.of-file.ensures c.look_up-looked.ensures }

pub returns : goal.returns
returns c =
    let s = c.of-file.result in
    let t = lookup-told c.args.amendment c.args.day s c.args.job _ _ c.of-file.ensures c.look_up-looked.ensures in
    ap (opened_in _) (c.open_found.ensures ∙ found_opens _ _ _ _ _ t)
    ∙ opening-told c.args.amendment c.args.day s c.args.job _ _ c.of-file.ensures c.look_up-looked.ensures _ _
