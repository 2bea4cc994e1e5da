-- A job's entry: offsets and lengths of its associated data and its text in the file (document 01, "The shift file").
use Rattle.std.specs.Prelude.{ℕ, ◌+◌, ◌≤◌, ◌≡◌, cond, List, length, eqb, Result, Ok, Err}
use Rattle.status.specs.declared.checked.Answer.{Answer}
use Rattle.shift_format.specs.Format.{row_of}
use Rattle.shift_lookup.specs.declared.answers.Entry.{Entry as Place}
use Rattle.shift_lookup.specs.declared.answers.LookupError.{LookupError}
use Rattle.shift_lookup.specs.Answers.{lookup_error_answer}
use Rattle.shift_lookup.specs.Lookup.{lookup_job}

-- where the associated data of the row that a lookup found starts; 0 if it refuses
unfoldable pub data_start : List ℕ → Answer → ℕ
data_start f x = cond (eqb x.number 0) (row_of f x.row).ad_at 0

-- and how long it is; the file's first zero bytes if it refuses
unfoldable pub data_length : List ℕ → Answer → ℕ
data_length f x = cond (eqb x.number 0) (row_of f x.row).ad_len 0

-- the text follows it
unfoldable pub text_start : List ℕ → Answer → ℕ
text_start f x = cond (eqb x.number 0) ((row_of f x.row).ad_at + (row_of f x.row).ad_len) 0

unfoldable pub text_length : List ℕ → Answer → ℕ
text_length f x = cond (eqb x.number 0) (row_of f x.row).text_len 0

-- what a caller in C sees of an entry: number and row, and the offsets
pub record Entry : Type 0 where
  pub number : ℕ
  pub row : ℕ
  pub ad_at : ℕ
  pub ad_len : ℕ
  pub text_at : ℕ
  pub text_len : ℕ

-- of a refusal its number and its row, and zeros
abbrev pub entry_answer : Result Place LookupError → Entry
entry_answer (Ok x) = record { number = 0; row = x.row; ad_at = x.ad_at; ad_len = x.ad_len; text_at = x.text_at; text_len = x.text_len }
entry_answer (Err e) = record {
  number = (lookup_error_answer e).number;
  row = (lookup_error_answer e).row;
  ad_at = 0;
  ad_len = 0;
  text_at = 0;
  text_len = 0;
}

-- a lookup's number and row, and the offsets
abbrev pub entry_at : List ℕ → Answer → Entry
entry_at f x = record {
  number = x.number;
  row = x.row;
  ad_at = data_start f x;
  ad_len = data_length f x;
  text_at = text_start f x;
  text_len = text_length f x;
}

-- those of a job
abbrev pub entry_of : List ℕ → ℕ → Entry
entry_of f job = entry_at f (lookup_job f job)

-- an entry lies in the file, its text right after its associated data
pub record Lies (f : List ℕ) (x : Entry) : Type 0 where
  pub behind : x.ad_at + x.ad_len ≡ x.text_at
  pub ends : x.text_at + x.text_len ≤ length f

-- so does every entry that is given, also the file's first zero bytes if the lookup refuses
abbrev pub EntriesLie : Type 0
EntriesLie = (f : List ℕ) (job : ℕ) → Lies f (entry_of f job)
