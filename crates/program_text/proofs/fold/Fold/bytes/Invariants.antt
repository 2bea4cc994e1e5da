-- The fold so far, with what is left, is the whole fold.
use Rattle.std.proofs.Common.{◌≡◌, drop}
use Rattle.program_text.specs.Fold.{fold_from}
use Rattle.program_text.proofs.fold.Fold.bytes.Given as goal

abbrev pub invariant-loop-byte : goal.invariant-loop-byte
invariant-loop-byte l = fold_from l.fold.value (drop l.byte-index l.bytes) ≡ fold_from l.fn.self.value l.bytes
