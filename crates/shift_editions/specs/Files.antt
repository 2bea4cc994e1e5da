-- A shift file in another edition (document 02, W10): one definition for the move from edition 1 to 2 and back. Rows of w bytes become rows of v bytes.
use Rattle.std.specs.Prelude.{ℕ, zero, suc, ◌+◌, ◌-◌, List, [], ◌++◌, length, drop, replicate}
use Rattle.block.specs.Bytes.{bytes}
use Rattle.shift_format.specs.Part.{stretch}
use Rattle.shift_format.specs.Format.{count_of, row_size, row_size_of, row_start, rest_start, row_at}

-- the new offset of a byte after the table of n rows: it rises or falls with the table's end, by 4n
unfoldable pub carried : ℕ → ℕ → ℕ → ℕ → ℕ
carried w v n x = x - row_start w n + row_start v n

-- row i of n: its job number, a station of 0 if the new edition has stations, and the rest, with the offset carried
unfoldable pub moved_row : ℕ → ℕ → List ℕ → ℕ → ℕ → List ℕ
moved_row w v f n i =
    stretch f (row_start w i) 4
    ++ (replicate (v - 32) 0
    ++ (stretch f (rest_start w i) 4
    ++ (bytes 4 (carried w v n (row_at w f i).ad_at)
    ++ stretch f (rest_start w i + 8) 20)))

-- the first k rows of n
unfoldable pub moved_rows : ℕ → ℕ → List ℕ → ℕ → ℕ → List ℕ
moved_rows w v f n zero = []
moved_rows w v f n (suc k) = moved_rows w v f n k ++ moved_row w v f n k

-- header: edition, row count, total length
unfoldable pub moved_header : ℕ → ℕ → ℕ → List ℕ → ℕ → List ℕ
moved_header e w v f n = bytes 2 e ++ (bytes 2 n ++ bytes 4 (carried w v n (length f)))

-- header, rows, and the bodies byte for byte
unfoldable pub moved_from : ℕ → ℕ → ℕ → List ℕ → ℕ → List ℕ
moved_from e w v f n = moved_header e w v f n ++ (moved_rows w v f n n ++ drop (row_start w n) f)

-- the file in edition e
abbrev pub moved : ℕ → List ℕ → List ℕ
moved e f = moved_from e (row_size_of f) (row_size e) f (count_of f)
