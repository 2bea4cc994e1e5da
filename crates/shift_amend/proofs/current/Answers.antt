-- The located entry tells file, place and length, and they lie in that file; a refusal has no place.
use mathlib.Core.Path.{refl, sym, ap, ◌∙◌}
use Rattle.shift_lookup.specs.Entry.{entry_answer}
use Rattle.shift_lookup.proofs.Lookups.{error_some}
use Rattle.shift_amend.specs.Source.{file_number}
use Rattle.shift_amend.specs.Amending.{in_file}
use Rattle.shift_amend.proofs.Parts.{none-handed, lies-in, handed}
use Rattle.shift_amend.proofs.current.Goals as goal

pub stretch-requires : goal.stretch-requires
stretch-requires c =
    let k = file_number c.locate-located.result.file in
    let is = ap (λ y. in_file k (entry_answer y)) (sym c.in-Ok.is) ∙ c.locate-located.ensures in
    rw c.of-file.ensures (lies-in c.args.amendment c.args.day c.args.job _ is refl)

pub returns-in-Ok : goal.returns-in-Ok
returns-in-Ok c =
    let k = file_number c.locate-located.result.file in
    let is = ap (λ y. in_file k (entry_answer y)) (sym c.in-Ok.is) ∙ c.locate-located.ensures in
    handed c.args.amendment c.args.day c.args.job _ is refl c.of-file.result _ c.of-file.ensures c.stretch.ensures.0

pub returns-in-Err : goal.returns-in-Err
returns-in-Err c =
    let k = file_number c.locate-located.result.file in
    let is = ap (λ y. in_file k (entry_answer y)) (sym c.in-Err.is) ∙ c.locate-located.ensures in
    none-handed c.args.amendment c.args.day c.args.job _ is _ (error_some _) c.stretch-in-Err.ensures.0
