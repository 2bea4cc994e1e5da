-- One outcome for a function over a struct that holds a reference: what `Outcome` says of other functions, stated of its
-- contract's clauses, over every model of the logic.
use Rattle.std.specs.Prelude.{◌≡◌}
use seplogic.Ra.Ura.{Ura}
use base.Logic.{SProp, ent, sep}
use contract.Lifetimes.{Lfts}
use contract.Monad.{fact}
use denote.Triple.Entry.{Args, Res}
use denote.Triple.Clauses.{Ended, Clauses, AtExit}

-- `told` is what a caller sees of a result and the parameters at exit, `meant` the definition's value for the arguments
pub record Held {M : Type 1} (𝓤 : Ura M) (T : Ended) (c : Clauses 𝓤 T) {X : Type 0}
    (told : (κs : Lfts T.signature.lifetimes) → Res T.signature κs → AtExit T κs → X)
    (meant : (κs : Lfts T.signature.lifetimes) → Args T.signature κs → X) : Type 2 where
  -- it has no precondition: what is required always holds
  pub asks_nothing : (κs : Lfts T.signature.lifetimes) (a : Args T.signature κs) → (g : (c κs a).ghost) × ((P : SProp 𝓤) → ent 𝓤 P ((c κs a).requires g))
  -- what is ensured is that the caller sees the definition's value
  pub is-meant : (κs : Lfts T.signature.lifetimes) (a : Args T.signature κs) (g : (c κs a).ghost) (x : Res T.signature κs) (u : AtExit T κs)
      → ent 𝓤 ((c κs a).ensures g x u) (fact 𝓤 (told κs x u ≡ meant κs a))
  -- so any two allowed outcomes look the same to a caller
  pub one-outcome : (κs : Lfts T.signature.lifetimes) (a : Args T.signature κs) (g : (c κs a).ghost) (x y : Res T.signature κs) (u v : AtExit T κs)
      → ent 𝓤 (sep 𝓤 ((c κs a).ensures g x u) ((c κs a).ensures g y v)) (fact 𝓤 (told κs x u ≡ told κs y v))
