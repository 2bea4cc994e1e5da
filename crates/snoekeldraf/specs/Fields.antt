-- What `shift_row` leaves: the fields of a row as nine words of 32 bits, in the order of C's `shift_fields`.
use Rattle.std.specs.Prelude.{ℕ, List, [], ◌∷◌}
use Rattle.shift_reader.specs.Contents.{RowFields}

-- the status, and the nine words
pub record InFields : Type 0 where
  pub status : ℕ
  pub fields : List ℕ

-- job, station, suite and key number; the nonce's offset; offset and length of the associated data, and of the text
abbrev pub in_fields : RowFields → InFields
in_fields x = record {
  status = x.status;
  fields = x.job ∷ x.station ∷ x.suite ∷ x.key_number ∷ x.nonce_at ∷ x.ad_at ∷ x.ad_len ∷ x.text_at ∷ x.text_len ∷ [];
}
