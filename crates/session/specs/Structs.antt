-- The values that the code's structs represent.
use Rattle.std.specs.Prelude.{ℕ, List, Ok, Err}
use Rattle.std.specs.declared.result.Result.{Result}
use Rattle.block.specs.Blocks.{wide}
pub use Rattle.session_ladder.specs.Numbers.{number_of}
use Rattle.session_ladder.specs.declared.SessionError.{SessionError}
use Rattle.session.specs.declared.Session.{Session}
use Rattle.session.specs.declared.Step.{Step}
use Rattle.session.specs.Value.{Value, Given}

-- a session's value
abbrev pub as_value : Session → Value
as_value s = record { suite = s.suite; Y = wide s.y; Z = wide s.z; held = s.held; ad_total = s.ad_total; text_total = s.text_total }

-- how many bytes a call wrote: a refused one none
abbrev pub count_of : Result ℕ SessionError → ℕ
count_of (Ok n) = n
count_of (Err e) = 0

-- the result of a call, with the buffers that it borrowed
abbrev pub gives : Step → List ℕ → List ℕ → Given
gives r out tag = record { number = number_of r.outcome; count = count_of r.outcome; next = as_value r.next; out = out; tag = tag }
