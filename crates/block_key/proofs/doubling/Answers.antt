-- `block_key::doubling` meets its contract: the dropped bit is 1 exactly from 2 ^ 63 on.
use native.Mathlib.Omega.{arith}
use Prim.Native.Nat.{◌^◌, ◌<◌}
use Rattle.block.specs.Words.{xor}
use Rattle.block_key.proofs.Halves.{double_is}
use Rattle.block_key.proofs.doubling.Goals as goal

pub returns : goal.returns
unfolding xor
returns c =
    let h : c.args.number < 2 ^ 64 = omega arith in
    double_is c.args.number h
