-- The table of contents by citation.
use Rattle.shift_reader.proofs.ByRow.{header-given, rows_as_read, row-given, row_as_entry}
use Rattle.promises.specs.Contents.{Contents}

pub contents : Contents
contents = record { header = header-given; rows = rows_as_read; row = row-given; entry = row_as_entry }
