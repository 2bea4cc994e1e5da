-- The shift file's format (document 01, "The shift file"; document 02, W10: edition 2): header, table of contents, bodies. Numbers are little-endian.
use Rattle.std.specs.Prelude.{ℕ, ◌+◌, ◌-◌, ◌*◌, Bool, ◌||◌, cond, List, eqb, get_or, take}
use Rattle.block.specs.Bytes.{word}
use Rattle.cipher.specs.Cipher.{size_of, nonce_of}
use Rattle.shift_format.specs.declared.row.Row.{Row}
use Rattle.shift_format.specs.Part.{stretch}

-- header, 8 bytes: edition (2 bytes)
abbrev pub edition_of : List ℕ → ℕ
edition_of f = word 2 f 0

-- row count n (2)
abbrev pub count_of : List ℕ → ℕ
count_of f = word 2 f 2

-- total length (4)
abbrev pub total_of : List ℕ → ℕ
total_of f = word 4 f 4

-- the first edition of a shift file, which the writer writes
abbrev pub first_edition : ℕ
first_edition = 1

-- the newest; readers accept both
abbrev pub newest : ℕ
newest = 2

-- the bytes of a row, in edition e: four more in the newest, for the station
unfoldable pub row_size : ℕ → ℕ
row_size e = cond (eqb e newest) 36 32

-- the bytes of a row, in the file's own edition
abbrev pub row_size_of : List ℕ → ℕ
row_size_of f = row_size (edition_of f)

-- the offset of row i, if rows have w bytes; the bodies start at the offset of row n
unfoldable pub row_start : ℕ → ℕ → ℕ
row_start w i = 8 + w * i

-- the offset of the rest of row i: its last 28 bytes, all but job number and station
unfoldable pub rest_start : ℕ → ℕ → ℕ
rest_start w i = row_start w i + (w - 28)

-- row i: job number (4), suite (1), key number (1), associated data length (2), body offset (4), message length (4); the nonce (16) is below
unfoldable pub row_at : ℕ → List ℕ → ℕ → Row
row_at w f i = record {
  job = word 4 f (row_start w i);
  suite = get_or f (rest_start w i) 0;
  key = get_or f (rest_start w i + 1) 0;
  ad_len = word 2 f (rest_start w i + 2);
  ad_at = word 4 f (rest_start w i + 4);
  text_len = word 4 f (rest_start w i + 8);
}

-- its station number, between the job number and the rest: 4 bytes in edition 2; in edition 1 none, so it is 0
unfoldable pub station_at : ℕ → List ℕ → ℕ → ℕ
station_at w f i = word (w - 32) f (row_start w i + 4)

-- its nonce, the last sixteen bytes: their offset, and the bytes
unfoldable pub nonce_start : ℕ → ℕ → ℕ
nonce_start w i = rest_start w i + 12

unfoldable pub nonce_at : ℕ → List ℕ → ℕ → List ℕ
nonce_at w f i = stretch f (nonce_start w i) 16

-- the first of these bytes, as many as the nonce of the row's suite has
abbrev pub nonce_read_at : ℕ → List ℕ → ℕ → List ℕ
nonce_read_at w f i = take (nonce_of (row_at w f i).suite) (nonce_at w f i)

-- row i of a shift file, and its station
abbrev pub row_of : List ℕ → ℕ → Row
row_of f i = row_at (row_size_of f) f i

abbrev pub station_of : List ℕ → ℕ → ℕ
station_of f i = station_at (row_size_of f) f i

-- a body is associated data
abbrev pub data_of : List ℕ → Row → List ℕ
data_of f r = stretch f r.ad_at r.ad_len

-- ciphertext
abbrev pub text_of : List ℕ → Row → List ℕ
text_of f r = stretch f (r.ad_at + r.ad_len) r.text_len

-- and tag, which is one block of the suite's cipher
abbrev pub tag_of : List ℕ → Row → List ℕ
tag_of f r = stretch f (r.ad_at + r.ad_len + r.text_len) (size_of r.suite)

-- the offset at which the body ends
unfoldable pub body_end : Row → ℕ
body_end r = r.ad_at + r.ad_len + r.text_len + size_of r.suite

-- associated data starts with the job number (4 bytes)
abbrev pub data_job : List ℕ → Row → ℕ
data_job f r = word 4 f r.ad_at

-- and a unit code (1 byte): 1 newton-metres, 2 inch-pounds
abbrev pub unit_of : List ℕ → Row → ℕ
unit_of f r = get_or f (r.ad_at + 4) 0

-- a unit is 1 or 2
abbrev pub is_unit : ℕ → Bool
is_unit v = eqb v 1 || eqb v 2
