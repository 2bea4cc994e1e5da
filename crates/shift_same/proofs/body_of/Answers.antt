-- A body ends in the file, and not before it starts.
use Rattle.shift_format.specs.Format.{body_end}
use native.Mathlib.Omega.{arith}
use Rattle.shift_same.proofs.body_of.Goals as goal

pub overflow_sub-body_end : goal.overflow_sub-body_end
unfolding body_end
overflow_sub-body_end c = rw c.body_end.ensures (omega arith)

pub stretch-requires : goal.stretch-requires
unfolding body_end
stretch-requires c = rw c.body_end.ensures (omega arith)

pub returns : goal.returns
returns c = rw (c.stretch.ensures.0.bytes, c.body_end.ensures)
