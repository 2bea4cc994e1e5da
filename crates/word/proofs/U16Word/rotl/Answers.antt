-- The rotation of 16 bits meets its contract: the sum of the two shifts is a word, by the law of rotations.
use Rattle.std.proofs.Common.{arith}
use Rattle.block.proofs.Rotate.{rotl_lt}
use Rattle.word.proofs.U16Word.rotl.Goals as goal

pub overflow_add-result : goal.overflow_add-result
overflow_add-result c = record { fits = rotl_lt 16 _ (omega arith) c.ranges.self.fits }
