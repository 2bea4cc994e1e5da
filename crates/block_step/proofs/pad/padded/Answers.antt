-- `block_step::pad::padded` meets its contract: the word in which the bytes end is padded.
use native.Mathlib.Omega.{arith}
use Rattle.block_step.proofs.Words.{pad_first, pad_second}
use Rattle.block_step.proofs.pad.padded.Goals as goal

pub returns-then-len-lt8 : goal.returns-then-len-lt8
returns-then-len-lt8 c =
    pad_first c.args.len c.args.block.a c.args.block.b c.padded8.result c.if-len-lt8.true c.padded8.ensures

pub returns : goal.returns
returns c =
    pad_second c.args.len c.args.block.a c.args.block.b c.padded8-2.result (omega (arith, c.if-len-lt8.false)) c.requires c.padded8-2.ensures
