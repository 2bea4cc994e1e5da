-- Preconditions of the crate's own functions; no entry point's contract cites them.
use Rattle.std.specs.Prelude.{ℕ, ◌≡◌, List}
use Rattle.status.specs.declared.checked.Answer.{Answer}
use Rattle.shift_lookup.specs.Lookup.{lookup_job}

-- a lookup in the file gave x
pub record FoundIn (f : List ℕ) (x : Answer) : Type 0 where
  pub job : ℕ
  pub gives : x ≡ lookup_job f job
