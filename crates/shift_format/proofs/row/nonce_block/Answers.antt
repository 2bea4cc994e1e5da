-- Sixteen bytes fill a block and leave no zeros.
use mathlib.Core.Path.{◌∙◌}
use Rattle.shift_format.specs.Format.{nonce_at}
use Rattle.block.proofs.Fill.{full_zeros}
use Rattle.shift_format.proofs.row.nonce_block.Goals as goal

pub returns : goal.returns
unfolding nonce_at
returns c = c.filled.ensures ∙ full_zeros _ c.nonce_at.ensures.1 ∙ c.nonce_at.ensures.0.bytes
