-- `cham::round_keys`, by induction on the loop: after i turns the table has the round keys of the first i words of the key.
use Rattle.std.proofs.Common.{◌≡◌, map, length}
use Rattle.cham_spec.specs.Cham.{placed}
use Rattle.cham.proofs.round_keys.Given as goal

abbrev pub invariant-loop-i : goal.invariant-loop-i
invariant-loop-i g l = (length l.keys ≡ g.row.N) × (map g.W.Word.number l.keys ≡ placed g.W.Word.width l.key l.i)
