-- The table of contents by row number: on a file that passes the check it is the reader's list, and its offsets are those of the jobs' entries.
use Rattle.shift_reader.specs.Contents.{HeaderGiven, RowsAsRead, RowGiven, RowAsEntry}

pub record Contents : Type 0 where
  -- the header: status 0, the edition, the row count
  pub header : HeaderGiven
  -- rows 0, 1, 2 and so on: the reader's list, which is the table's rows in order, each once, and then 32
  pub rows : RowsAsRead
  -- each of them: the row's own fields; the text follows the associated data, and its offset does not wrap
  pub row : RowGiven
  -- the entry of a job lies where its row says
  pub entry : RowAsEntry
