-- What the reader gives, as the list of its answers (document 02, W14).
use Rattle.std.specs.Prelude.{◌≡◌, ℕ, ◌+◌, ◌≤◌, ◌⊎◌, List, ◌++◌, replicate, ◌≢◌, None}
use Rattle.std.specs.Borrow.{Bor}
use Rattle.shift_format.specs.Format.{count_of}
use Rattle.shift_check.specs.Check.{check_file}
use Rattle.shift_reader.specs.declared.Reader.{Reader}
use Rattle.shift_reader.specs.Reading.{rows_laid, reader_of, asks, listed_from}

-- on a file that passes the check: the table's rows in order, each once, and then that it has ended, as often as it is called
abbrev pub RowsThenEnded : Type 0
RowsThenEnded =
    (s : Bor (List ℕ)) (m : ℕ) → (check_file s.now).number ≡ 0 → asks (count_of s.now + m) (reader_of s)
    ≡ listed_from s.now 0 (count_of s.now) ++ replicate m None

-- on any other it has ended at once
abbrev pub EndedAtOnce : Type 0
EndedAtOnce = (s : Bor (List ℕ)) (m : ℕ) → ((check_file s.now).number ≢ 0) → asks m (reader_of s) ≡ replicate m None

-- a reader that `read` did not return has ended if its index is past the rows that the header states, or if it belongs to
-- another file, one with another number of rows
abbrev pub OthersEnded : Type 0
OthersEnded = (r : Reader) (m : ℕ) → (rows_laid r.src.now ≤ r.place.at) ⊎ (r.place.end ≢ rows_laid r.src.now) → asks m r ≡ replicate m None

-- any other gives the table's rows from its index on, unchecked, and then has ended: of the file only 20 to 24 are known not to apply
abbrev pub OthersRows : Type 0
OthersRows =
    (r : Reader) (k m : ℕ) → r.place.end ≡ rows_laid r.src.now → r.place.at + k ≡ rows_laid r.src.now
    → asks (k + m) r ≡ listed_from r.src.now r.place.at k ++ replicate m None
