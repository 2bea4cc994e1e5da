-- `block::bytes_of` meets its contract: sixteen zeros are overwritten whole.
use mathlib.Core.Path.{refl, ◌∙◌}
use mathlib.Core.List.{append-nil}
use mathlib.Core.Logic.{inl}
use native.Mathlib.Omega.{arith}
use lib.Seq.{take_all}
use Rattle.block.specs.Blocks.{wide}
use Rattle.block.proofs.Blocks.{length-wide}
use Rattle.block.proofs.bytes_of.Goals as goal

pub put_whole-requires : goal.put_whole-requires
put_whole-requires c = inl refl

pub returns : goal.returns
returns c =
    append-nil _ ∙ c.put_whole.ensures ∙ take_all 16 (wide c.args.block) (omega (arith, length-wide c.args.block.a c.args.block.b))
