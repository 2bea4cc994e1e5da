-- `cham::around`: the state after i rounds goes to that after i + 4 j rounds.
use Rattle.std.proofs.Common.{◌≡◌, ◌+◌, ◌*◌, map}
use Rattle.cham_spec.specs.Cham.{State, state, rounds}
use Rattle.cham.proofs.around.Given as goal

abbrev pub invariant-loop-j : goal.invariant-loop-j
invariant-loop-j g l =
    (s : State)
    → rounds g.W.Word.width (map g.W.Word.number l.keys) s l.i
    ≡ state (g.W.Word.number l.initial.s.s0) (g.W.Word.number l.initial.s.s1) (g.W.Word.number l.initial.s.s2) (g.W.Word.number l.initial.s.s3)
    → rounds g.W.Word.width (map g.W.Word.number l.keys) s (l.i + 4 * l.j)
    ≡ state (g.W.Word.number l.s.s0) (g.W.Word.number l.s.s1) (g.W.Word.number l.s.s2) (g.W.Word.number l.s.s3)
