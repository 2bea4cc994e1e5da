-- `block_step::shuffle::shuffled16` meets its contract: the words move by whole halves.
use mathlib.Core.List.{◌++◌}
use mathlib.Core.Path.{ap, ◌∙◌}
use native.Mathlib.Omega.{arith}
use Prim.Native.Nat.{ℕ, ◌+◌, ◌*◌, ◌/◌, ◌^◌, ◌<◌}
use Rattle.block.specs.Bytes.{bytes}
use Rattle.block_step.proofs.Words.{shuffle_16}
use Rattle.block_step.proofs.shuffle.shuffled16.Goals as goal

pub returns : goal.returns
returns c =
    let hb : c.args.x.b < 2 ^ 64 = omega arith in
    ap (λ (t : ℕ). bytes 8 (c.args.x.b / 0x1_0000_0000 + 0x1_0000_0000 * t) ++ bytes 8 c.args.x.a) c.rotl-rotated.ensures ∙ shuffle_16 c.args.x.a c.args.x.b hb
