-- When two rows are the same entry (document 02, W8; W10: stations).
use Rattle.std.specs.Prelude.{ℕ, Bool, ◌&&◌, List, eqb}
use Rattle.block.specs.Bytes.{same_bytes}
use Rattle.shift_format.specs.declared.row.Row.{Row}
use Rattle.shift_format.specs.Format.{row_size_of, row_of, station_of, nonce_at}
use Rattle.shift_check.specs.Laid.{body_at}

-- equal in suite, key number and associated data length; offsets do not count
unfoldable pub same_fields : Row → Row → Bool
same_fields x y = eqb x.suite y.suite && (eqb x.key y.key && eqb x.ad_len y.ad_len)

-- equal stations; in edition 1 a row's is 0
abbrev pub same_station : List ℕ → List ℕ → ℕ → ℕ → Bool
same_station f g i j = eqb (station_of f i) (station_of g j)

-- the nonce of row i, all sixteen bytes
abbrev pub nonce_bytes : List ℕ → ℕ → List ℕ
nonce_bytes f i = nonce_at (row_size_of f) f i

-- its body: associated data, ciphertext and tag
abbrev pub body_of : List ℕ → ℕ → List ℕ
body_of f i = body_at (row_size_of f) f i

-- rows i of f and j of g are equal in these, in station, in nonce and in body; each file has its own edition
unfoldable pub same_entry : List ℕ → List ℕ → ℕ → ℕ → Bool
same_entry f g i j =
    same_fields (row_of f i) (row_of g j)
    && (same_station f g i j && (same_bytes (nonce_bytes f i) (nonce_bytes g j) && same_bytes (body_of f i) (body_of g j)))
