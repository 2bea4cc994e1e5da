-- `block::fifteen` meets its contract: a number that is divided by 256 loses its first byte and gets a zero after.
use native.Mathlib.Omega.{arith}
use Rattle.block.proofs.Fill.{fifteen-joined}
use Rattle.block.proofs.fifteen.Goals as goal

pub returns : goal.returns
returns c =
    fifteen-joined c.args.front.now c.load8-lo.result c.load8-hi.result c.requires c.load8-lo.ensures c.load8-hi.ensures (omega arith)
