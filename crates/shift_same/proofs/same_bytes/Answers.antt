-- Strings of other lengths are not equal; of the same length, they are equal where their first sixteen bytes are and the rest is.
use Rattle.shift_same.proofs.Strings.{from-rest, from-front, unequal}
use mathlib.Core.Path.{sym}
use native.Mathlib.Omega.{arith}
use Rattle.shift_same.proofs.same_bytes.Goals as goal

pub returns-then-first-second : goal.returns-then-first-second
returns-then-first-second c = sym (unequal _ _ c.if-first-second.true)

pub returns-then-same_sixteen : goal.returns-then-same_sixteen
returns-then-same_sixteen c =
    from-rest 16 c.args.first.now c.args.second.now (omega arith) (omega arith) _ _ _ _ c.same_sixteen.ensures c.if-same_sixteen.true
    c.eq-then-same_sixteen.ensures (omega arith) (omega arith)

pub returns-else-same_sixteen : goal.returns-else-same_sixteen
returns-else-same_sixteen c =
    from-front 16 c.args.first.now c.args.second.now (omega arith) (omega arith) _ c.same_sixteen.ensures c.if-same_sixteen.false
