-- `block_key::next_key_two` meets its contract: the mark, then the doubling of the low 120 bits.
use mathlib.Core.Path.{ap, ◌∙◌}
use Rattle.cipher.specs.Cipher.{two}
use Rattle.mode.specs.Keys.{doubled, next_key}
use Rattle.block_key.proofs.next_key_two.Goals as goal

pub returns : goal.returns
unfolding next_key
returns c = c.doubling120.ensures ∙ ap (doubled two) c.with_mark-marked.ensures
