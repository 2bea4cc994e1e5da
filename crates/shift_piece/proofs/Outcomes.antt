-- One outcome for each input: the contract fixes every byte of the output.
use Prim.Native.Nat.{ℕ}
use mathlib.Core.Path.{refl, sym, ap, ◌∙◌}
use mathlib.Core.List.{List}
use Rattle.block.specs.Outcome.{OneOutcome}
use Rattle.shift_piece.proofs.seal_into.Kinds as into-kinds
use Rattle.shift_piece.proofs.seal_into.Reads as into-reads

pub seal_into : OneOutcome into-kinds.ps into-kinds.r into-reads.Pre into-reads.Post
seal_into κs a h x y = (refl, ap (λ (l : List ℕ). (tt, (tt, (l, tt)))) (x.ensures ∙ sym y.ensures))
