-- `block_step::shuffle::shuffled8` meets its contract: the words move by whole halves, and the rotated one is added last.
use mathlib.Core.Path.{ap, ◌∙◌}
use native.Mathlib.Omega.{arith}
use Prim.Native.Nat.{ℕ, ◌+◌, ◌*◌, ◌/◌, ◌%◌, ◌^◌, ◌<◌}
use Rattle.block.specs.Bytes.{bytes}
use Rattle.block_step.proofs.Words.{last_added, shuffle_8}
use Rattle.block_step.proofs.shuffle.shuffled8.Goals as goal

pub returns : goal.returns
returns c =
    let hx : c.args.x < 2 ^ 64 = omega arith in
    ap (bytes 8) (last_added c.args.x c.rotl-rotated.result)
    ∙ ap (λ (t : ℕ). bytes 8 (c.args.x / 0x1_0000_0000 / 0x1_0000 + 0x1_0000 * t + 0x1_0000_0000 * (c.args.x % 0x1_0000_0000))) c.rotl-rotated.ensures
    ∙ shuffle_8 c.args.x hx
