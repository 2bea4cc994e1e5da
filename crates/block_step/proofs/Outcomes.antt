-- Every public function of `block_step` leaves one outcome: the two states, the zeros beside them and the count tell the code's state.
use mathlib.Core.Path.{refl, sym, ap, ◌∙◌}
use mathlib.Core.List.{List}
use Prim.Native.Nat.{ℕ}
use native.Mathlib.Omega.{arith}
use Rattle.block.specs.Outcome.{OneOutcome}
use Rattle.block_state.proofs.Outcomes.{held_told}
use Rattle.block_step.proofs.one_block.absorb_full.Kinds as absorb-full-kinds
use Rattle.block_step.proofs.one_block.absorb_full.Reads as absorb-full-reads
use Rattle.block_step.proofs.one_block.absorb_short.Kinds as absorb-short-kinds
use Rattle.block_step.proofs.one_block.absorb_short.Reads as absorb-short-reads
use Rattle.block_step.proofs.one_block.crypt_full.Kinds as crypt-full-kinds
use Rattle.block_step.proofs.one_block.crypt_full.Reads as crypt-full-reads
use Rattle.block_step.proofs.one_block.crypt_short.Kinds as crypt-short-kinds
use Rattle.block_step.proofs.one_block.crypt_short.Reads as crypt-short-reads

pub absorb_full : (n : ℕ) (fits : _) → OneOutcome (absorb-full-kinds.ps n fits) (absorb-full-kinds.r n fits) (absorb-full-reads.Pre n fits) (absorb-full-reads.Post n fits)
absorb_full n fits κs a h x y = (held_told _ x.result y.result _ _ (omega arith) (omega arith) x.ensures y.ensures, refl)

pub absorb_short : OneOutcome absorb-short-kinds.ps absorb-short-kinds.r absorb-short-reads.Pre absorb-short-reads.Post
absorb_short κs a h x y = (held_told _ x.result y.result _ _ (omega arith) (omega arith) x.ensures y.ensures, refl)

pub crypt_full : (n : ℕ) (fits : _) → OneOutcome (crypt-full-kinds.ps n fits) (crypt-full-kinds.r n fits) (crypt-full-reads.Pre n fits) (crypt-full-reads.Post n fits)
crypt_full n fits κs a h x y = (
  held_told _ x.result y.result _ _ (omega arith) (omega arith) x.ensures.1 y.ensures.1,
  ap (λ (l : List ℕ). (tt, (tt, (tt, (l, tt))))) (x.ensures.0 ∙ sym y.ensures.0),
)

pub crypt_short : OneOutcome crypt-short-kinds.ps crypt-short-kinds.r crypt-short-reads.Pre crypt-short-reads.Post
crypt_short κs a h x y = (
  held_told _ x.result y.result _ _ (omega arith) (omega arith) x.ensures.1 y.ensures.1,
  ap (λ (l : List ℕ). (tt, (tt, (tt, (tt, (l, tt)))))) (x.ensures.0 ∙ sym y.ensures.0),
)
