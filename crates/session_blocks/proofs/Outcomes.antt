-- Every public function of `session_blocks` leaves one outcome: the two states, the bytes beside them and the count of calls
-- tell the code's state (`Counted`); the contract gives the buffered bytes, the output and its length.
use mathlib.Core.Path.{◌≡◌, refl, sym, ap, ◌∙◌}
use mathlib.Core.List.{List}
use Prim.Native.Nat.{ℕ}
use native.Mathlib.Omega.{arith}
use Rattle.block.specs.Outcome.{OneOutcome}
use Rattle.session_blocks.specs.declared.Absorbed.{Absorbed}
use Rattle.session_blocks.specs.declared.Sealed.{Sealed}
use Rattle.block_walk.proofs.Count.{counted_told}
use Rattle.session_blocks.proofs.absorb_part.Kinds as absorb-kinds
use Rattle.session_blocks.proofs.absorb_part.Reads as absorb-reads
use Rattle.session_blocks.proofs.crypt_part.Kinds as crypt-kinds
use Rattle.session_blocks.proofs.crypt_part.Reads as crypt-reads
use Rattle.session_blocks.proofs.last_in.Kinds as last-kinds
use Rattle.session_blocks.proofs.last_in.Reads as last-reads

absorbed_path : {r q : Absorbed} → r.s ≡ q.s → r.held ≡ q.held → r ≡ q
absorbed_path es eh = λ i. record { s = es i; held = eh i }

sealed_path : {r q : Sealed} → r.s ≡ q.s → r.held ≡ q.held → r.count ≡ q.count → r ≡ q
sealed_path es eh ec = λ i. record { s = es i; held = eh i; count = ec i }

pub absorb_part : OneOutcome absorb-kinds.ps absorb-kinds.r absorb-reads.Pre absorb-reads.Post
absorb_part κs a h x y = (
  absorbed_path (counted_told _ _ _ x.result.s y.result.s (omega arith) (omega arith) (x.ensures.0 ∙ sym y.ensures.0) x.ensures.1.1
      y.ensures.1.1)
      (x.ensures.1.0 ∙ sym y.ensures.1.0),
  refl,
)

pub crypt_part : OneOutcome crypt-kinds.ps crypt-kinds.r crypt-reads.Pre crypt-reads.Post
crypt_part κs a h x y = (
  sealed_path
      (counted_told _ _ _ x.result.s y.result.s (omega (arith, x.ok)) (omega (arith, y.ok)) (x.ensures.1.1.0 ∙ sym y.ensures.1.1.0)
      x.ensures.1.1.1.1 y.ensures.1.1.1.1)
      (x.ensures.1.1.1.0 ∙ sym y.ensures.1.1.1.0) (x.ensures.1.0 ∙ sym y.ensures.1.0),
  ap (λ (l : List ℕ). (tt, (tt, (tt, (tt, (tt, (tt, (l, tt)))))))) (x.ensures.0 ∙ sym y.ensures.0),
)

pub last_in : OneOutcome last-kinds.ps last-kinds.r last-reads.Pre last-reads.Post
last_in κs a h x y = (
  counted_told _ _ _ x.result y.result (omega (arith, x.ok)) (omega (arith, y.ok)) (x.ensures.1.1.0 ∙ sym y.ensures.1.1.0)
      x.ensures.1.1.1 y.ensures.1.1.1,
  ap (λ (l : List ℕ). (tt, (tt, (tt, (tt, (tt, (l, tt))))))) (x.ensures.0 ∙ sym y.ensures.0),
)
