-- `session::SessionDefault::default` meets its contract: the struct of zeros stands for the dead session, field by field.
use mathlib.Core.Path.{refl}
use Rattle.block.specs.Bytes.{bytes}
use Rattle.session.proofs.SessionDefault.default.Goals as goal

pub returns : goal.returns
unfolding bytes
returns c = refl
