-- Every public function of `comet_text` leaves one outcome: the two states, the bytes beside them and the count of calls tell the
-- code's state.
use mathlib.Core.Path.{refl, sym, ap, ◌∙◌}
use mathlib.Core.List.{List}
use Prim.Native.Nat.{ℕ}
use native.Mathlib.Omega.{arith}
use Rattle.block.specs.Outcome.{OneOutcome}
use Rattle.block_walk.proofs.Count.{counted_told}
use Rattle.comet_text.proofs.absorb_all.Kinds as absorb-all-kinds
use Rattle.comet_text.proofs.absorb_all.Reads as absorb-all-reads
use Rattle.comet_text.proofs.crypt_all.Kinds as crypt-all-kinds
use Rattle.comet_text.proofs.crypt_all.Reads as crypt-all-reads

pub absorb_all : OneOutcome absorb-all-kinds.ps absorb-all-kinds.r absorb-all-reads.Pre absorb-all-reads.Post
absorb_all κs a h x y = (
  counted_told _ _ _ x.result y.result (omega arith) (omega arith) (x.ensures.0 ∙ sym y.ensures.0) x.ensures.1 y.ensures.1,
  refl,
)

pub crypt_all : OneOutcome crypt-all-kinds.ps crypt-all-kinds.r crypt-all-reads.Pre crypt-all-reads.Post
crypt_all κs a h x y = (
  counted_told _ _ _ x.result y.result (omega (arith, x.ok)) (omega (arith, y.ok)) (x.ensures.1.0 ∙ sym y.ensures.1.0) x.ensures.1.1
      y.ensures.1.1,
  ap (λ (l : List ℕ). (tt, (tt, (tt, (l, tt))))) (x.ensures.0 ∙ sym y.ensures.0),
)
