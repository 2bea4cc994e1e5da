-- Document 01's number and row for each case of the answers: a found row itself, 25 to 30 and 34 the row at fault, every other number 0.
use Rattle.std.specs.Prelude.{ℕ, Result, Ok, Err}
use Rattle.status.specs.declared.checked.Answer.{Answer}
use Rattle.status.specs.Answers.{answer, refusal_answer}
use Rattle.shift_lookup.specs.declared.answers.LookupError.{LookupError}
use Rattle.shift_lookup.specs.declared.answers.LookupError.TheVariants.{Missing, Refused}

-- why a lookup gives no row
abbrev pub lookup_error_answer : LookupError → Answer
lookup_error_answer Missing = answer 32 0
lookup_error_answer (Refused x) = refusal_answer x

-- a lookup
abbrev pub found_answer : Result ℕ LookupError → Answer
found_answer (Ok i) = answer 0 i
found_answer (Err e) = lookup_error_answer e
