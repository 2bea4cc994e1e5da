-- Document 02, W14: check suppliers' files.
use Rattle.shift_reader.specs.Promised.{RowsThenEnded, EndedAtOnce, OthersEnded, OthersRows}
use Rattle.shift_report.specs.Promised.{OpeningSays, WriterReported}

pub record Reading : Type 0 where
  -- on a file that passes the check the reader's list is the table's rows in order, each once, and then that it has ended, as often as it is called
  pub rows : RowsThenEnded
  -- on any other it has ended at once
  pub other : EndedAtOnce
  -- and so has a reader that `read` did not return for this file, if its index is past the rows that the header states, or
  -- if it was made for another number of rows
  pub forged : OthersEnded
  -- any other reader gives the rows of the table from its index on, unchecked
  pub foreign : OthersRows
  -- an entry line's 0 or 8 is what opening its job answers
  pub opening : OpeningSays
  -- what the writer makes gets 0 on every entry line under the same ring
  pub writer : WriterReported
