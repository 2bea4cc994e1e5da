-- The rows below i are resealed into the output, and no tag of theirs that is checked is wrong.
-- That is the invariant `Filling`; a turn and both ends of the loop are laws of it.
use Rattle.shift_draft.specs.Files.{piece_start}
use Rattle.shift_reseal.specs.Files.{again_piece}
use Rattle.shift_reseal.specs.Answers.{wrong_again}
use Rattle.shift_draft.proofs.RowLoop.{Filling}
use Rattle.shift_reseal.proofs.rows.reseal_rows.Given as goal

abbrev pub invariant-loop-i : goal.invariant-loop-i
invariant-loop-i l = Filling (piece_start l.file) (again_piece l.file l.ring) (wrong_again l.file l.ring) l.rows l.initial.out l.out l.i
