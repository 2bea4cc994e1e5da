-- The text starts after the associated data, and lies in the body.
use mathlib.Core.Path.{refl}
use Rattle.shift_format.proofs.Parts.{part_at}
use Rattle.shift_format.proofs.body.text_of.Goals as goal

pub returns : goal.returns
returns c = part_at c.stretch.ensures.0 c.text_start.ensures refl
