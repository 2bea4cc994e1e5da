-- The entries of a file, one after another (document 02, W14): a cursor by value, and a reader that holds the file and its place in it.
use Rattle.std.specs.Prelude.{ℕ, zero, suc, ◌+◌, cond, ◌&&◌, List, [], ◌∷◌, ◌==◌, nat_lt, Option, Some, None}
use Rattle.std.specs.Borrow.{Bor}
use Rattle.shift_format.specs.Format.{count_of, first_edition, newest, row_size_of, nonce_start, row_of, station_of}
use Rattle.shift_check.specs.Check.{head_number, check_file}
use Rattle.shift_reader.specs.declared.cursor.Cursor.{Cursor}
use Rattle.shift_reader.specs.declared.cursor.Listed.{Listed}
use Rattle.shift_reader.specs.declared.cursor.Stepped.{Stepped}
use Rattle.shift_reader.specs.declared.Reader.{Reader}
use Rattle.shift_reader.specs.declared.Asked.{Asked}

-- how many rows there are to give: a file that does not pass the check has none
unfoldable pub rows_in : List ℕ → ℕ
rows_in f = cond ((check_file f).number == 0) (count_of f) 0

-- how many rows the header states: none if one of 20 to 24 applies
unfoldable pub rows_laid : List ℕ → ℕ
rows_laid f = cond (head_number first_edition newest f == 0) (count_of f) 0

-- row i as the table has it: its fields, its station, and where its nonce starts
abbrev pub listed_of : List ℕ → ℕ → Listed
listed_of f i = record { index = i; row = row_of f i; station = station_of f i; nonce = nonce_start (row_size_of f) i }

-- a cursor at row 0
abbrev pub start_of : List ℕ → Cursor
start_of f = record { at = 0; end = rows_in f }

-- the row at the cursor; it has ended if the table has no such row, or if the cursor belongs to another file
unfoldable pub ask_of : Cursor → List ℕ → Stepped
ask_of c f =
    cond (c.end == rows_laid f && nat_lt c.at (rows_laid f))
    (record { next = record { at = c.at + 1; end = c.end }; entry = Some (listed_of f c.at) })
    (record { next = c; entry = None })

-- the reader of a file
abbrev pub reader_of : Bor (List ℕ) → Reader
reader_of s = record { src = s; place = start_of s.now }

-- an entry, and the reader after it
abbrev pub asked : Reader → Option Listed → Asked
asked r e = record { reader = r; entry = e }

-- the result of a reader's call, and the reader after it: the same file, the next row
abbrev pub next_of : Reader → Asked
next_of r = asked (record { src = r.src; place = (ask_of r.place r.src.now).next }) (ask_of r.place r.src.now).entry

-- the reader's list: the results of k calls, one after the other
unfoldable pub asks : ℕ → Reader → List (Option Listed)
asks zero r = []
asks (suc k) r = (next_of r).entry ∷ asks k (next_of r).reader

-- the table's rows, k of them from row i on
unfoldable pub listed_from : List ℕ → ℕ → ℕ → List (Option Listed)
listed_from f i zero = []
listed_from f i (suc k) = Some (listed_of f i) ∷ listed_from f (suc i) k
