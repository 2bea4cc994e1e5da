-- Each front is one block; what the block has after it, zeros, does not matter.
use Rattle.shift_same.proofs.Strings.{same-filled}
use mathlib.Core.Path.{◌∙◌}
use Rattle.shift_same.proofs.same_sixteen.Goals as goal

pub returns : goal.returns
returns c =
    c.same.ensures ∙ same-filled 16 c.args.first.now c.args.second.now _ _ c.requires.0 c.requires.1 c.whole.ensures c.whole-2.ensures
