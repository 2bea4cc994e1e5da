-- The shift file: what holds of every file that passes the check, of every lookup and of every opening of a job.
use Rattle.shift_check.specs.Laid.{BodiesLaid}
use Rattle.shift_lookup.specs.Promised.{JobFound}
use Rattle.shift_jobs.specs.Promised.{OpensEntry, OpeningAnswers, UnitRefused}
use Rattle.shift_jobs.specs.Genuine.{VerifiesAsOpening, VerifiedPlaces}

pub record ShiftFile : Type 0 where
  -- the bodies lie one after the other, apart, and end where the file ends
  pub laid : BodiesLaid
  -- a job is found exactly if a row has it, and one row at most has
  pub found : JobFound
  -- opening a job is the opener on the entry's own bytes
  pub opens : OpensEntry
  -- which numbers it gives, and what it leaves in the output
  pub answers : OpeningAnswers
  -- the altered unit of an accepted entry with an empty message is refused
  pub unit : UnitRefused
  -- verifying a job gives number and row of opening it, and the offset of its associated data on 0 alone
  pub verifies : VerifiesAsOpening
  pub places : VerifiedPlaces
