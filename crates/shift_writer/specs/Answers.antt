-- Number and row of each of the writer's statuses: 25 to 30, 34, 33, 10 and 8 carry their row, every other number 0.
use Rattle.std.specs.Prelude.{Result}
use Rattle.status.specs.declared.checked.Answer.{Answer}
use Rattle.status.specs.Answers.{answer, outcome_answer, refusal_answer}
use Rattle.shift_writer.specs.declared.answers.WriteError.{WriteError}
use Rattle.shift_writer.specs.declared.answers.WriteError.TheVariants as write

-- each refusal
abbrev pub write_answer : WriteError → Answer
write_answer (write.Refused x) = refusal_answer x
write_answer (write.TagSet i) = answer 33 i
write_answer (write.Retired i) = answer 10 i
write_answer write.Ring = answer 2 0
write_answer write.Room = answer 6 0
write_answer (write.Forged i) = answer 8 i

abbrev pub written_answer : Result Unit WriteError → Answer
written_answer = outcome_answer write_answer
