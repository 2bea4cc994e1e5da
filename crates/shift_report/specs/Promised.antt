-- What the report says of a file that passes, and of the writer's files (document 02, W14).
use Rattle.std.specs.Prelude.{ℕ, ◌≤◌, ◌<◌, ◌≡◌, List, length}
use Rattle.shift_format.specs.Format.{count_of, row_of}
use Rattle.status.specs.Answers.{answer}
use Rattle.shift_check.specs.Check.{check_file}
use Rattle.block.specs.Bytes.{AllBytes}
use Rattle.shift_jobs.specs.Opening.{job_opening}
use Rattle.shift_draft.specs.Answers.{file_sealing}
use Rattle.shift_report.specs.Reporting.{job_of, tag_number, front, entries, longest, reporting}

-- an entry line's 0 or 8 is what opening its job answers, into an output of the message's length
abbrev pub OpeningSays : Type 0
OpeningSays =
    (f ring out : List ℕ) (i : ℕ) → (check_file f).number ≡ 0 → length ring ≡ 256 → i < count_of f → length out ≡ (row_of f i).text_len
    → (job_opening f ring (job_of f i) out).answer ≡ answer (tag_number f ring i) 0

-- a file of at most 65,280 bytes that the writer makes gets 0 on every entry line under the same ring
abbrev pub WriterReported : Type 0
WriterReported =
    (draft ring out₀ jobs numbers : List ℕ) → AllBytes draft → AllBytes ring → (file_sealing draft ring out₀).answer.number ≡ 0 →
    let file : List ℕ = (file_sealing draft ring out₀).out in
    length file ≤ longest → count_of file ≤ length jobs → count_of file ≤ length numbers
    → reporting file ring jobs numbers ≡ record {
      said = entries (count_of file);
      jobs = front (job_of file) (count_of file) jobs;
      numbers = front (λ i. 0) (count_of file) numbers;
    }
