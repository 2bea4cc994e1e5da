-- `block_key::with_mark` meets its contract: byte 15 is the top byte of the high half.
use native.Mathlib.Omega.{arith}
use Prim.Native.Nat.{◌<◌}
use Rattle.block.specs.Words.{xor}
use Rattle.block_key.proofs.Byte15.{mark-high}
use Rattle.block_key.proofs.with_mark.Goals as goal

pub returns : goal.returns
unfolding xor
returns c =
    let h : c.args.mark < 256 = omega arith in
    mark-high c.args.z.a c.args.z.b c.args.mark h
