-- The shift file by citation.
use Rattle.shift_check.proofs.Bodies.{laid}
use Rattle.shift_lookup.proofs.Finding.{finds}
use Rattle.shift_jobs.proofs.Jobs.{opens, answered}
use Rattle.shift_jobs.proofs.Units.{unit_refused}
use Rattle.shift_jobs.proofs.Tested.{verifies_as_opening, verified_places}
use Rattle.promises.specs.ShiftFile.{ShiftFile}

pub shift_file : ShiftFile
shift_file = record {
  laid = laid;
  found = finds;
  opens = opens;
  answers = answered;
  unit = unit_refused;
  verifies = verifies_as_opening;
  places = verified_places;
}
