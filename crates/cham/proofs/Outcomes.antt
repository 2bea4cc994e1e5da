-- The engine leaves one outcome at either word size: its contract gives the result.
use Rattle.std.proofs.Common.{refl, sym, ◌∙◌}
use Rattle.block.specs.Outcome.{OneOutcome}
use Rattle.cham.proofs.encrypt64.Kinds as encrypt64-kinds
use Rattle.cham.proofs.encrypt64.Reads as encrypt64-reads
use Rattle.cham.proofs.encrypt128.Kinds as encrypt128-kinds
use Rattle.cham.proofs.encrypt128.Reads as encrypt128-reads

pub encrypt64 : OneOutcome encrypt64-kinds.ps encrypt64-kinds.r encrypt64-reads.Pre encrypt64-reads.Post
encrypt64 κs a h x y = (x.ensures ∙ sym y.ensures, refl)

pub encrypt128 : OneOutcome encrypt128-kinds.ps encrypt128-kinds.r encrypt128-reads.Pre encrypt128-reads.Post
encrypt128 κs a h x y = (x.ensures ∙ sym y.ensures, refl)
