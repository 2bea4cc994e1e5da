-- W14 by citation.
use Rattle.shift_reader.proofs.Asking.{rows_then_ended, ended_at_once, others_ended, others_rows}
use Rattle.shift_report.proofs.Tags.{opening-says}
use Rattle.shift_report.proofs.Written.{writer_reported}
use Rattle.promises.specs.Reading.{Reading}

pub reads : Reading
reads = record { rows = rows_then_ended; other = ended_at_once; forged = others_ended; foreign = others_rows; opening = opening-says; writer = writer_reported }
