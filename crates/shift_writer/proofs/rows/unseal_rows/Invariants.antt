-- The rows below i are opened into the output, and their tags are right.
-- That is the invariant `Filling`; a turn and both ends of the loop are laws of it.
use mathlib.Core.Bool.{not}
use Rattle.shift_draft.specs.Files.{piece_start, draft_piece}
use Rattle.shift_draft.specs.Answers.{tag_right}
use Rattle.shift_draft.proofs.RowLoop.{Filling}
use Rattle.shift_writer.proofs.rows.unseal_rows.Given as goal

abbrev pub invariant-loop-i : goal.invariant-loop-i
invariant-loop-i l = Filling (piece_start l.file) (draft_piece l.file l.ring) (λ j. not (tag_right l.file l.ring j)) l.rows l.initial.out l.out l.i
