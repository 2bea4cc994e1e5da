-- Every public function of `block_walk` leaves one outcome: the two states, the bytes beside them, the count, the mark and the offset
-- tell what is returned.
use mathlib.Core.Path.{◌≡◌, refl, sym, ap, ◌∙◌}
use mathlib.Core.Bool.{Bool}
use mathlib.Core.List.{List}
use Prim.Native.Nat.{ℕ}
use native.Mathlib.Omega.{arith}
use Rattle.block.specs.Outcome.{OneOutcome}
use Rattle.block_state.specs.declared.State.{State}
use Rattle.block_state.proofs.Outcomes.{Small, state_told}
use Rattle.block_walk.specs.declared.Progress.{Progress}
use Rattle.block_walk.specs.Progress.{Passed}
use Rattle.block_walk.proofs.absorb.Kinds as absorb-kinds
use Rattle.block_walk.proofs.absorb.Reads as absorb-reads
use Rattle.block_walk.proofs.crypt.Kinds as crypt-kinds
use Rattle.block_walk.proofs.crypt.Reads as crypt-reads

progress_path : {s t : State} {p q a b : ℕ} → s ≡ t → p ≡ q → a ≡ b → ◌≡◌ {A = Progress} (record { s = s; mark = p; at = a }) (record { s = t; mark = q; at = b })
progress_path es em ea = λ i. record { s = es i; mark = em i; at = ea i }

passed_told : (suite : ℕ) (d : Bool) (m : ℕ) (s : State) (l : List ℕ) (r q : Progress) → Small r.s → Small q.s → Passed suite d m s l r
    → Passed suite d m s l q → r ≡ q
passed_told suite d m s l r q a b h k =
    progress_path
    (state_told suite r.s q.s a b (h.two 0 ∙ sym (k.two 0)) (h.beside ∙ sym k.beside) (h.made ∙ sym k.made))
    (h.next ∙ sym k.next)
    (h.gone ∙ sym k.gone)

pub absorb : OneOutcome absorb-kinds.ps absorb-kinds.r absorb-reads.Pre absorb-reads.Post
absorb κs a h x y = (passed_told _ _ _ _ _ x.result y.result (omega arith) (omega arith) x.ensures y.ensures, refl)

pub crypt : OneOutcome crypt-kinds.ps crypt-kinds.r crypt-reads.Pre crypt-reads.Post
crypt κs a h x y = (
  passed_told _ _ _ _ _ x.result y.result (omega (arith, x.ok)) (omega (arith, y.ok)) x.ensures.1 y.ensures.1,
  ap (λ (l : List ℕ). (tt, (tt, (tt, (tt, (l, tt)))))) (x.ensures.0 0 ∙ sym (y.ensures.0 0)),
)
