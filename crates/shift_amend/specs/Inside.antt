-- Tests of the crate's own functions; no entry point's contract cites them.
use Rattle.std.specs.Prelude.{ℕ, Bool, true, false, Result, Ok, Err}
use Rattle.shift_lookup.specs.declared.answers.LookupError.{LookupError}
use Rattle.shift_lookup.specs.declared.answers.LookupError.TheVariants.{Missing, Refused}

-- a lookup that refuses the file
abbrev pub refusing : Result ℕ LookupError → Bool
refusing (Ok i) = false
refusing (Err Missing) = false
refusing (Err (Refused x)) = true

-- and one that finds the job
abbrev pub finding : Result ℕ LookupError → Bool
finding (Ok i) = true
finding (Err e) = false
