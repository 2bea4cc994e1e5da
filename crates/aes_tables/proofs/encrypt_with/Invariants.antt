-- `aes_tables::encrypt_with` meets its contract. The loop's invariant: k is round key i, s the state after i rounds, rc the round constant of the next turn.
use mathlib.Core.Path.{◌≡◌}
use Rattle.aes_spec.specs.Cipher.{power}
use Rattle.aes_plain.specs.Columns.{bytes_of}
use Rattle.aes_plain.proofs.Rounds.{Tracks}
use Rattle.aes_tables.proofs.encrypt_with.Given as goal

abbrev pub invariant-loop-i : goal.invariant-loop-i
invariant-loop-i l = (l.rc ≡ power l.i) × Tracks (bytes_of l.initial.k) (bytes_of l.initial.s) (bytes_of l.k) (bytes_of l.s) l.i
