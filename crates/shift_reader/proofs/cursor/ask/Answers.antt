-- Each way out is a case of the definition; a row that is given is one that the header lays down.
use Rattle.shift_reader.proofs.Asking.{laid_in}
use Rattle.shift_reader.proofs.cursor.ask.Goals as goal

pub listed_at-row-requires : goal.listed_at-row-requires
listed_at-row-requires c =
    laid_in c.args.file.now _ (rw c.laid-n.ensures at c.if-n-cursor.false)
