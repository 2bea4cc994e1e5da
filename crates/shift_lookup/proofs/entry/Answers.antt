-- The entry of what the lookup found.
use mathlib.Core.Path.{ap, ◌∙◌}
use Rattle.shift_lookup.specs.Entry.{entry_at}
use Rattle.shift_lookup.proofs.entry.Goals as goal

pub returns : goal.returns
returns c = c.entry_found.ensures ∙ ap (entry_at c.args.file.now) c.lookup.ensures
