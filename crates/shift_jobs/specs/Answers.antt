-- Document 01's number and row for each case of the answers: 25 to 30 and 34 the row at fault, every other number 0.
use Rattle.std.specs.Prelude.{Result}
use Rattle.status.specs.declared.checked.Answer.{Answer}
use Rattle.status.specs.Answers.{answer, outcome_answer, refusal_answer}
use Rattle.shift_jobs.specs.declared.answers.JobError.{JobError}
use Rattle.shift_jobs.specs.declared.answers.JobError.TheVariants as opened

-- why a job is not opened
abbrev pub job_error_answer : JobError → Answer
job_error_answer opened.Missing = answer 32 0
job_error_answer (opened.Refused x) = refusal_answer x
job_error_answer opened.Ring = answer 2 0
job_error_answer opened.Room = answer 6 0
job_error_answer opened.Forged = answer 8 0

-- opening one job
abbrev pub opened_answer : Result Unit JobError → Answer
opened_answer = outcome_answer job_error_answer
