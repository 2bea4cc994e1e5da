-- `cham::under`: after `pass` turns around the N round keys, the state is that after as many times N rounds.
use Rattle.std.proofs.Common.{◌≡◌, ◌*◌, map}
use Rattle.cham_spec.specs.Cham.{state, rounds, state_of}
use Rattle.cham.proofs.under.Given as goal

abbrev pub invariant-loop-pass : goal.invariant-loop-pass
invariant-loop-pass g l =
    rounds g.W.Word.width (map g.W.Word.number l.keys) (state_of g.W.Word.width l.block) (l.pass * g.row.N)
    ≡ state (g.W.Word.number l.s.s0) (g.W.Word.number l.s.s1) (g.W.Word.number l.s.s2) (g.W.Word.number l.s.s3)
