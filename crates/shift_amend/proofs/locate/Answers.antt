-- The lookup of the file that the number speaks of tells its entry.
use mathlib.Core.Path.{ap, ◌∙◌}
use Rattle.shift_lookup.specs.Entry.{entry_at}
use Rattle.shift_amend.specs.Amending.{in_file}
use Rattle.shift_amend.proofs.Told.{lookup-told, entry-told}
use Rattle.shift_amend.proofs.locate.Goals as goal

pub entry_found-requires : goal.entry_found-requires
entry_found-requires c =
    record { job = c.args.job; gives = lookup-told c.args.amendment c.args.day c.of.result c.args.job _ _ c.of.ensures c.look_up-file.ensures }

pub returns : goal.returns
returns c =
    let s = c.of.result in
    let t = lookup-told c.args.amendment c.args.day s c.args.job _ _ c.of.ensures c.look_up-file.ensures in
    ap (in_file _) (c.entry_found.ensures ∙ ap (entry_at s.now) t) ∙ entry-told c.args.amendment c.args.day s c.args.job _ _ c.of.ensures c.look_up-file.ensures
