-- The report on a supplier's file (document 02, W14): all that the program prints.
use Rattle.std.specs.Prelude.{ℕ, zero, suc, not, ◌||◌, cond, List, [], ◌∷◌, ◌++◌, length, drop, ltb, eqb, Result, Ok, Err}
use Rattle.status.specs.declared.checked.Answer.{Answer}
use Rattle.shift_format.specs.Format.{count_of, row_of}
use Rattle.status.specs.Answers.{answer, refusal_answer}
use Rattle.shift_check.specs.Check.{check_file, refused}
use Rattle.shift_draft.specs.Answers.{tag_right}
use Rattle.shift_report.specs.declared.answers.ReportSummary.{ReportSummary}
use Rattle.shift_report.specs.declared.answers.ReportError.{ReportError}
use Rattle.shift_report.specs.declared.answers.ReportError.TheVariants.{Refused, Ring, Room}

-- ---- the entries

-- the job of row i
abbrev pub job_of : List ℕ → ℕ → ℕ
job_of f i = (row_of f i).job

-- 0 if its tag is right under the ring, else 8
unfoldable pub tag_number : List ℕ → List ℕ → ℕ → ℕ
tag_number f ring i = cond (tag_right f ring i) 0 8

-- what rows 0 to n - 1 give, in order
unfoldable pub each : (ℕ → ℕ) → ℕ → List ℕ
each what zero = []
each what (suc n) = each what n ++ (what n ∷ [])

-- these values at the front of a list; the rest is unchanged
abbrev pub front : (ℕ → ℕ) → ℕ → List ℕ → List ℕ
front what n l = each what n ++ drop n l

-- ---- the answer

-- a number and its row; there are no entries
abbrev pub refuses : Answer → ReportSummary
refuses x = record { number = x.number; row = x.row; count = 0 }

-- n entries
abbrev pub entries : ℕ → ReportSummary
entries n = record { number = 0; row = 0; count = n }

-- why there is no report
abbrev pub report_error_answer : ReportError → Answer
report_error_answer (Refused x) = refusal_answer x
report_error_answer Ring = answer 2 0
report_error_answer Room = answer 6 0

-- number, row and count of every case
abbrev pub said_of : Result ℕ ReportError → ReportSummary
said_of (Ok n) = entries n
said_of (Err e) = refuses (report_error_answer e)

-- the result, and the two lists after the call
pub record Report : Type 0 where
  pub said : ReportSummary
  pub jobs : List ℕ
  pub numbers : List ℕ

-- a refusal leaves both lists unchanged
abbrev pub stopped : Answer → List ℕ → List ℕ → Report
stopped x jobs numbers = record { said = refuses x; jobs = jobs; numbers = numbers }

-- the longest file that is reported on
abbrev pub longest : ℕ
longest = 65280

-- longer than 65,280 bytes: 20; the file's checks; a ring not of 256 bytes: 2; a list shorter than the rows: 6; else the entries
unfoldable pub reporting : List ℕ → List ℕ → List ℕ → List ℕ → Report
reporting f ring jobs numbers =
    cond (ltb longest (length f)) (stopped (answer 20 0) jobs numbers)
    (cond (refused f) (stopped (check_file f) jobs numbers)
    (cond (not (eqb (length ring) 256)) (stopped (answer 2 0) jobs numbers)
    (cond (ltb (length jobs) (count_of f) || ltb (length numbers) (count_of f)) (stopped (answer 6 0) jobs numbers)
    (record { said = entries (count_of f); jobs = front (job_of f) (count_of f) jobs; numbers = front (tag_number f ring) (count_of f) numbers }))))
