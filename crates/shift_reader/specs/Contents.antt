-- The table of contents by row number, after 20 to 24 alone: edition and row count, and the fields of one row.
use Rattle.std.specs.Prelude.{◌≡◌, ℕ, zero, suc, ◌+◌, ◌%◌, ◌^◌, ◌<◌, cond, List, [], ◌∷◌, map, ◌==◌, nat_lt, Option, Some, None, Result, Ok, Err}
use Rattle.std.specs.Borrow.{Bor}
use Rattle.shift_format.specs.Format.{edition_of, count_of, first_edition, newest, row_size_of, nonce_start, row_of, station_of}
use Rattle.status.specs.declared.checked.Answer.{Answer}
use Rattle.status.specs.declared.checked.Refusal.{Refusal}
use Rattle.status.specs.Answers.{answer, refusal_answer}
use Rattle.shift_check.specs.Check.{head_number, check_file}
use Rattle.shift_lookup.specs.declared.answers.LookupError.{LookupError}
use Rattle.shift_lookup.specs.Answers.{lookup_error_answer}
use Rattle.shift_lookup.specs.Lookup.{lookup_job}
use Rattle.shift_lookup.specs.Entry.{Entry, entry_of}
use Rattle.shift_reader.specs.declared.cursor.Listed.{Listed}
use Rattle.shift_reader.specs.declared.contents.HeaderFields.{HeaderFields as Header}
use Rattle.shift_reader.specs.declared.contents.RowFields.{RowFields as Fields}
use Rattle.shift_reader.specs.Reading.{listed_of, reader_of, asks}

-- ---- the definitions

-- the first of 20 to 24 that applies, else 0
abbrev pub head_status : List ℕ → ℕ
head_status f = head_number first_edition newest f

-- what a caller in C sees of a header: the status, and on 0 edition and row count
pub record HeaderFields : Type 0 where
  pub status : ℕ
  pub edition : ℕ
  pub count : ℕ

-- a status without a header: both fields are 0
abbrev pub no_header : ℕ → HeaderFields
no_header k = record { status = k; edition = 0; count = 0 }

-- what the header says: edition and row count
abbrev pub header_of : List ℕ → HeaderFields
header_of f = record { status = 0; edition = edition_of f; count = count_of f }

-- one of 20 to 24, else what the header says
unfoldable pub header_answer : List ℕ → HeaderFields
header_answer f = cond (head_status f == 0) (header_of f) (no_header (head_status f))

-- what the routine's outcome tells of it
abbrev pub header_told : Result Header Refusal → HeaderFields
header_told (Ok x) = record { status = 0; edition = x.edition; count = x.count }
header_told (Err e) = no_header (refusal_answer e).number

-- what a caller in C sees of a row: the status, and on 0 its fields
pub record RowFields : Type 0 where
  pub status : ℕ
  pub job : ℕ
  pub station : ℕ
  pub suite : ℕ
  pub key_number : ℕ
  pub nonce_at : ℕ
  pub ad_at : ℕ
  pub ad_len : ℕ
  pub text_at : ℕ
  pub text_len : ℕ

-- a status without a row: every field is 0
abbrev pub no_fields : ℕ → RowFields
no_fields k = record { status = k; job = 0; station = 0; suite = 0; key_number = 0; nonce_at = 0; ad_at = 0; ad_len = 0; text_at = 0; text_len = 0 }

-- what the routine's outcome tells of it
abbrev pub row_told : Result Fields LookupError → RowFields
row_told (Ok x) = record {
  status = 0;
  job = x.job;
  station = x.station;
  suite = x.suite;
  key_number = x.key_number;
  nonce_at = x.nonce_at;
  ad_at = x.ad_at;
  ad_len = x.ad_len;
  text_at = x.text_at;
  text_len = x.text_len;
}
row_told (Err e) = no_fields (lookup_error_answer e).number

-- the row that an outcome's error carries; 0 without an error
abbrev pub error_row : {X E : Type 0} → (E → Answer) → Result X E → ℕ
error_row answer_of (Ok x) = 0
error_row answer_of (Err e) = (answer_of e).row

-- the fields of a listed row; its text follows its associated data, by a sum of 32 bits, since the row may not be checked
abbrev pub fields_of : Listed → RowFields
fields_of x = record {
  status = 0;
  job = x.row.job;
  station = x.station;
  suite = x.row.suite;
  key_number = x.row.key;
  nonce_at = x.nonce;
  ad_at = x.row.ad_at;
  ad_len = x.row.ad_len;
  text_at = (x.row.ad_at + x.row.ad_len) % 2 ^ 32;
  text_len = x.row.text_len;
}

-- row i: one of 20 to 24, 32 if the table has no such row, else its fields
unfoldable pub row_answer : List ℕ → ℕ → RowFields
row_answer f i = cond (head_status f == 0) (cond (nat_lt i (count_of f)) (fields_of (listed_of f i)) (no_fields 32)) (no_fields (head_status f))

-- the answers for k rows from row i on
unfoldable pub row_answers : List ℕ → ℕ → ℕ → List RowFields
row_answers f i zero = []
row_answers f i (suc k) = row_answer f i ∷ row_answers f (suc i) k

-- an answer of the reader as the fields of a row: 32 if it has ended
abbrev pub as_fields : Option Listed → RowFields
as_fields (Some x) = fields_of x
as_fields None = no_fields 32

-- ---- the statements

-- on a file that passes the check, status 0, its edition and its row count
abbrev pub HeaderGiven : Type 0
HeaderGiven = (f : List ℕ) → (check_file f).number ≡ 0 → header_answer f ≡ header_of f

-- on a file that passes the check, the answers for rows 0, 1, 2 and so on are the reader's own list: the table's rows in order, each once, and then 32
abbrev pub RowsAsRead : Type 0
RowsAsRead = (s : Bor (List ℕ)) (k : ℕ) → (check_file s.now).number ≡ 0 → row_answers s.now 0 k ≡ map as_fields (asks k (reader_of s))

-- the fields of row i of a file that passes the check: the text follows the associated data, and nothing wraps
abbrev pub row_fields : List ℕ → ℕ → RowFields
row_fields f i =
    let r = row_of f i in
    record {
      status = 0;
      job = r.job;
      station = station_of f i;
      suite = r.suite;
      key_number = r.key;
      nonce_at = nonce_start (row_size_of f) i;
      ad_at = r.ad_at;
      ad_len = r.ad_len;
      text_at = r.ad_at + r.ad_len;
      text_len = r.text_len;
    }

abbrev pub RowGiven : Type 0
RowGiven = (f : List ℕ) (i : ℕ) → (check_file f).number ≡ 0 → i < count_of f → row_answer f i ≡ row_fields f i

-- where a job's entry lies, as row i says it
abbrev pub entry_from : ℕ → RowFields → Entry
entry_from i x = record { number = 0; row = i; ad_at = x.ad_at; ad_len = x.ad_len; text_at = x.text_at; text_len = x.text_len }

-- a job that the lookup finds in row i lies where that row's fields say
abbrev pub RowAsEntry : Type 0
RowAsEntry = (f : List ℕ) (job i : ℕ) → lookup_job f job ≡ answer 0 i → ((row_answer f i).job ≡ job) × (entry_of f job ≡ entry_from i (row_answer f i))
