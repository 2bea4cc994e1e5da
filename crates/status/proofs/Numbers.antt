-- The numbers of the refusals: 20 to 31 and 34, of them 25 to 30 and 34 the rows'.
use native.Mathlib.Omega.{arith}
use mathlib.Core.Path.{◌≡◌, refl}
use mathlib.Core.Logic.{inl, inr, ⊎_elim}
use lib.Dec.{lit≤}
use Rattle.status.specs.declared.checked.Fault.{Fault}
use Rattle.status.specs.declared.checked.Fault.TheVariants.{Order, Suite, Length, Place, Unread, Nonce, Data}
use Rattle.status.specs.declared.checked.Refusal.{Refusal}
use Rattle.status.specs.declared.checked.Refusal.TheVariants.{Size, Edition, Count, Total, Table, InRow, End}
use Rattle.status.specs.Answers.{Ranged, fault_number, refusal_answer}

fault_range : (x : Fault) → Ranged 25 30 (fault_number x)
fault_range Order = inl (lit≤ tt, lit≤ tt)
fault_range Suite = inl (lit≤ tt, lit≤ tt)
fault_range Length = inl (lit≤ tt, lit≤ tt)
fault_range Place = inl (lit≤ tt, lit≤ tt)
fault_range Unread = inr refl
fault_range Nonce = inl (lit≤ tt, lit≤ tt)
fault_range Data = inl (lit≤ tt, lit≤ tt)

pub refusal_range : (x : Refusal) → Ranged 20 31 (refusal_answer x).number
refusal_range Size = inl (lit≤ tt, lit≤ tt)
refusal_range Edition = inl (lit≤ tt, lit≤ tt)
refusal_range Count = inl (lit≤ tt, lit≤ tt)
refusal_range Total = inl (lit≤ tt, lit≤ tt)
refusal_range Table = inl (lit≤ tt, lit≤ tt)
refusal_range (InRow x i) = ⊎_elim (λ r. inl (omega arith)) inr (fault_range x)
refusal_range End = inl (lit≤ tt, lit≤ tt)

pub fault_some : (x : Fault) → fault_number x ≡ 0 → ⊥
fault_some x q = ⊎_elim (λ r. omega arith) (λ r. omega arith) (fault_range x)

pub refusal-some : (x : Refusal) → (refusal_answer x).number ≡ 0 → ⊥
refusal-some x q = ⊎_elim (λ r. omega arith) (λ r. omega arith) (refusal_range x)
