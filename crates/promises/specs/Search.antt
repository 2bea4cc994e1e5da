-- Document 02, W6: binary search for a job.
use Rattle.shift_search.specs.Promised.{Halves, RowsDecide, SameAsLookup, TenLooks, BodiesUnread}

pub record Search : Type 0 where
  -- the binary search rule, as the request words it: the looks never run out
  pub halves : Halves
  -- the rows that it lists are those that it looks at: files with the same jobs there give the same walk
  pub rows : RowsDecide
  -- on a file that passes the full check, number and row are the full lookup's
  pub lookup : SameAsLookup
  -- at most 10 rows are looked at
  pub looks : TenLooks
  -- files of equal length, header and table give the same answer, whatever the bodies, refusing files too
  pub bodies : BodiesUnread
