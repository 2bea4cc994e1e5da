-- One outcome for each input: a contract says which row was found and how many were looked at.
use mathlib.Core.Path.{refl, sym, ap₂, ◌∙◌}
use Prim.Native.Nat.{ℕ}
use Rattle.block.specs.Outcome.{OneOutcome}
use Rattle.std.specs.Prelude.{Result}
use Rattle.shift_lookup.specs.declared.answers.LookupError.{LookupError}
use Rattle.shift_lookup.proofs.Outcomes.{found-one}
use Rattle.shift_search.proofs.search.Kinds as search-kinds
use Rattle.shift_search.proofs.search.Reads as search-reads

pub search : OneOutcome search-kinds.ps search-kinds.r search-reads.Pre search-reads.Post
search κs a h x y = (
  ap₂ (λ (f : Result ℕ LookupError) (l : ℕ). record { found = f; looked = l }) (found-one (x.ensures.0 ∙ sym y.ensures.0)) (x.ensures.1 ∙ sym y.ensures.1),
  refl,
)
