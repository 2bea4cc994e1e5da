-- The three functions over a struct that holds a reference have no precondition, and leave one outcome, the definition's: each
-- contract says what the outcome equals.
use Rattle.std.proofs.Common.{◌≡◌, sym, ◌∙◌}
use seplogic.Ra.Ura.{Ura}
use base.Logic.{SProp, ent, sep, id⊢, via, mono∗, fst∗, snd∗}
use prog.Memory.{Memory}
use prog.Routine.{Routine}
use types.Logic.{Logic}
use contract.Lifetimes.{Lfts}
use contract.Monad.{Fun, fact, fact_i, fact_use, top}
use denote.Triple.Entry.{Args, Res}
use denote.Triple.Clauses.{Ended, Clauses, AtExit}
use Rattle.shift_reader.specs.Reading.{ask_of, reader_of, next_of}
use Rattle.shift_reader.specs.Held.{Held}
use Rattle.shift_reader.specs.contracts.read as Read-of
use Rattle.shift_reader.specs.contracts.Reader.next as next-of
use Rattle.shift_reader.specs.contracts.step_at as step-at-of

-- two values that each equal a third
two : {M : Type 1} (𝓤 : Ura M) {X : Type 0} (x y z : X) → ent 𝓤 (sep 𝓤 (fact 𝓤 (x ≡ z)) (fact 𝓤 (y ≡ z))) (fact 𝓤 (x ≡ y))
two 𝓤 x y z =
    fact_use 𝓤 (x ≡ z) (fst∗ 𝓤 (fact 𝓤 (x ≡ z)) (fact 𝓤 (y ≡ z))) (λ p.
    fact_use 𝓤 (y ≡ z) (snd∗ 𝓤 (fact 𝓤 (x ≡ z)) (fact 𝓤 (y ≡ z))) (λ q. fact_i 𝓤 (x ≡ y) (sep 𝓤 (fact 𝓤 (x ≡ z)) (fact 𝓤 (y ≡ z))) (p ∙ sym q)))

-- where the definition's value is told, two outcomes tell the same
held : {M : Type 1} (𝓤 : Ura M) (T : Ended) (c : Clauses 𝓤 T) {X : Type 0}
    (told : (κs : Lfts T.signature.lifetimes) → Res T.signature κs → AtExit T κs → X)
    (meant : (κs : Lfts T.signature.lifetimes) → Args T.signature κs → X)
    → ((κs : Lfts T.signature.lifetimes) (a : Args T.signature κs) → (g : (c κs a).ghost) × ((P : SProp 𝓤) → ent 𝓤 P ((c κs a).requires g)))
    → ((κs : Lfts T.signature.lifetimes) (a : Args T.signature κs) (g : (c κs a).ghost) (x : Res T.signature κs) (u : AtExit T κs)
    → ent 𝓤 ((c κs a).ensures g x u) (fact 𝓤 (told κs x u ≡ meant κs a)))
    → Held 𝓤 T c told meant
held 𝓤 T c told meant asks is = record {
  asks_nothing = asks;
  is-meant = is;
  one-outcome = λ κs a g x y u v.
      via 𝓤 (sep 𝓤 (fact 𝓤 (told κs x u ≡ meant κs a)) (fact 𝓤 (told κs y v ≡ meant κs a))) (mono∗ 𝓤 (is κs a g x u) (is κs a g y v))
      (two 𝓤 (told κs x u) (told κs y v) (meant κs a));
}

module _ {M : Type 1} {𝓤 : Ura M} (𝓛 : Logic 𝓤) (mem : Memory → SProp 𝓤) (run : Routine → Fun 𝓤) where
  pub read : Held 𝓤 Read-of.ended (Read-of.clauses 𝓛 mem run) (λ κs x u. x) (λ κs a. reader_of a.0)
  read = held 𝓤 Read-of.ended (Read-of.clauses 𝓛 mem run) (λ κs x u. x) (λ κs a. reader_of a.0) (λ κs a. (tt, top 𝓤)) (λ κs a g x u. id⊢ 𝓤 _)

  pub next : Held 𝓤 next-of.ended (next-of.clauses 𝓛 mem run) (λ κs x u. x) (λ κs a. next_of a.0)
  next = held 𝓤 next-of.ended (next-of.clauses 𝓛 mem run) (λ κs x u. x) (λ κs a. next_of a.0) (λ κs a. (tt, top 𝓤)) (λ κs a g x u. id⊢ 𝓤 _)

  pub step-at : Held 𝓤 step-at-of.ended (step-at-of.clauses 𝓛 mem run) (λ κs x u. x) (λ κs a. ask_of a.1.0 a.0.now)
  step-at =
      held 𝓤 step-at-of.ended (step-at-of.clauses 𝓛 mem run) (λ κs x u. x) (λ κs a. ask_of a.1.0 a.0.now) (λ κs a. (tt, top 𝓤))
      (λ κs a g x u. id⊢ 𝓤 _)
