-- One outcome for each input: the contract gives the truth value.
use mathlib.Core.Path.{refl, sym, ◌∙◌}
use Rattle.block.specs.Outcome.{OneOutcome}
use Rattle.shift_same.proofs.same_entry.Kinds as same-entry-kinds
use Rattle.shift_same.proofs.same_entry.Reads as same-entry-reads

pub same_entry : OneOutcome same-entry-kinds.ps same-entry-kinds.r same-entry-reads.Pre same-entry-reads.Post
same_entry κs a h x y = (x.ensures ∙ sym y.ensures, refl)
