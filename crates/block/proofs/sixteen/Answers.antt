-- `block::sixteen` meets its contract: sixteen bytes are two numbers of eight.
use Prim.Native.Nat.{ℕ}
use mathlib.Core.Path.{ap₂, ◌∙◌}
use mathlib.Core.List.{List, ◌++◌}
use Rattle.block.proofs.Lists.{two-takes}
use Rattle.block.proofs.sixteen.Goals as goal

pub returns : goal.returns
returns c =
    ap₂ (λ (s t : List ℕ). s ++ t) c.load8-lo.ensures c.load8-hi.ensures ∙ two-takes 8 c.args.block.now c.requires
