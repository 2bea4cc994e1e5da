-- `session::work::packed` meets its contract: the fields are the states' own words, and what the suite does not use is zero.
use mathlib.Core.Path.{ap}
use mathlib.Core.List.{List}
use Prim.Native.Nat.{ℕ}
use Rattle.block.specs.Blocks.{wide}
use Rattle.session.proofs.work.packed.Goals as goal

pub returns : goal.returns
returns c =
    ap (λ (y : List ℕ). record {
      suite = c.args.suite;
      Y = y;
      Z = wide c.args.absorbed.s.z;
      held = c.args.absorbed.held;
      ad_total = c.args.ad_total;
      text_total = c.args.text_total;
    }) c.clean-y.ensures
