-- The pieces of the rows below i stand in the output.
use mathlib.Core.Path.{◌≡◌}
use Rattle.shift_draft.specs.Put.{put_all}
use Rattle.shift_draft.specs.Files.{piece_start, sealed_piece}
use Rattle.shift_writer.proofs.rows.seal_rows.Given as goal

abbrev pub invariant-loop-i : goal.invariant-loop-i
invariant-loop-i l = l.out ≡ put_all (piece_start l.file) (sealed_piece l.file l.ring) l.i l.initial.out
