-- Document 02, W8: compare two shift files; W10: their stations.
use Rattle.shift_compare.specs.Promised.{ExactlyListed, ListsRise, EqualRows, WithItself, FilesExchanged, OtherLength, OtherStation, NoStation}

pub record Compare : Type 0 where
  -- a job is in a list exactly as document 02 words it
  pub listed : ExactlyListed
  -- the lists rise, and no job is in two
  pub rise : ListsRise
  -- files with the same jobs and equal entries give three empty lists, and so does a file compared with itself
  pub equal : EqualRows
  pub itself : WithItself
  -- the two files exchanged exchange the first two lists
  pub exchanged : FilesExchanged
  -- another message length is another body
  pub lengths : OtherLength
  -- another station is reported, also between files of different editions: in edition 1 it is 0
  pub stations : OtherStation
  pub no-stations : NoStation
