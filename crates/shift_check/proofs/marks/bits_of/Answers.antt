-- A one moved up by less than 64 places stays a word.
use Rattle.shift_check.proofs.Sieve.{ones_up}
use Rattle.shift_check.proofs.marks.bits_of.Goals as goal

pub returns : goal.returns
returns c = ones_up c.args.hash
