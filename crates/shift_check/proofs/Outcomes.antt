-- One outcome for each input: a check's answer is one case, by its number and row.
use mathlib.Core.Path.{refl, sym, ◌∙◌}
use Rattle.block.specs.Outcome.{OneOutcome}
use Rattle.status.proofs.Outcomes.{checked_one}
use Rattle.shift_check.proofs.check_head.Kinds as check-head-kinds
use Rattle.shift_check.proofs.check_head.Reads as check-head-reads
use Rattle.shift_check.proofs.check_between.Kinds as check-between-kinds
use Rattle.shift_check.proofs.check_between.Reads as check-between-reads
use Rattle.shift_check.proofs.check_as.Kinds as check-as-kinds
use Rattle.shift_check.proofs.check_as.Reads as check-as-reads
use Rattle.shift_check.proofs.check.Kinds as check-kinds
use Rattle.shift_check.proofs.check.Reads as check-reads

pub check_head : OneOutcome check-head-kinds.ps check-head-kinds.r check-head-reads.Pre check-head-reads.Post
check_head κs a h x y = (checked_one (x.ensures ∙ sym y.ensures), refl)

pub check_between : OneOutcome check-between-kinds.ps check-between-kinds.r check-between-reads.Pre check-between-reads.Post
check_between κs a h x y = (checked_one (x.ensures ∙ sym y.ensures), refl)

pub check_as : OneOutcome check-as-kinds.ps check-as-kinds.r check-as-reads.Pre check-as-reads.Post
check_as κs a h x y = (checked_one (x.ensures ∙ sym y.ensures), refl)

pub check : OneOutcome check-kinds.ps check-kinds.r check-reads.Pre check-reads.Post
check κs a h x y = (checked_one (x.ensures ∙ sym y.ensures), refl)
