-- The rows below `index` are appended.
use Rattle.shift_editions.specs.Files.{moved_rows}
use Rattle.shift_editions.specs.Appended.{Appended}
use Rattle.shift_editions.proofs.rows.Move.put_rows.Given as goal

abbrev pub invariant-loop-index : goal.invariant-loop-index
invariant-loop-index l = Appended l.initial.front l.front (moved_rows l.self.from l.self.to l.self.file.now l.self.rows l.index)
