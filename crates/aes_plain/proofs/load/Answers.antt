-- `aes_plain::load` meets its contract: two columns are the halves of eight bytes.
use mathlib.Core.Path.{◌∙◌}
use Rattle.aes_plain.proofs.Column.{loaded}
use Rattle.aes_plain.proofs.load.Goals as goal

pub returns : goal.returns
returns c =
    loaded c.block_of-x.result.a c.block_of-x.result.b ∙ c.block_of-x.ensures
