-- W8, and the stations of W10, by citation.
use Rattle.shift_compare.proofs.Promised.{exactly_listed, lists_rise, equal_rows, with_itself, files_exchanged, other_length, other_station, no_station}
use Rattle.promises.specs.Compare.{Compare}

pub compares : Compare
compares = record {
  listed = exactly_listed;
  rise = lists_rise;
  equal = equal_rows;
  itself = with_itself;
  exchanged = files_exchanged;
  lengths = other_length;
  stations = other_station;
  no-stations = no_station;
}
