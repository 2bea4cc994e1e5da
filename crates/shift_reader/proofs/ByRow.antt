-- The table by row number. Each answer is a case of its definition; on a file that passes the check, an induction over the
-- rows shows that the answers are the reader's list.
use Rattle.std.proofs.Common.{◌≡◌, ℕ, zero, suc, ◌+◌, ◌^◌, ◌<◌, ◌≤◌, Bool, true, false, ltb, List, ◌∷◌, map, replicate, sym, refl, ap, ◌∙◌, ap₂, inl, mod-eq_of_lt, add-one, arith, ltb-false, ltb-true, le-ltb, lt-ltb, ne_eqb}
use Rattle.std.specs.Prelude.{Some, None}
use Rattle.status.specs.declared.checked.Answer.{Answer}
use Rattle.status.specs.declared.checked.Refusal.{Refusal}
use Rattle.status.specs.Answers.{answer, refusal_answer}
use Rattle.status.proofs.Numbers.{refusal-some}
use Rattle.shift_format.specs.Format.{first_edition, newest, count_of, row_size_of, rest_start, nonce_start, row_of, station_of, body_end}
use Rattle.shift_format.proofs.Rows.{row_in}
use Rattle.shift_check.proofs.Sound.{headed}
use Rattle.shift_check.specs.Check.{check_file}
use Rattle.shift_check.proofs.Passed.{passes, both_zero, entry_in}
use Rattle.shift_lookup.proofs.Lookups.{holding}
use Rattle.shift_lookup.proofs.Places.{places-found}
use Rattle.shift_lookup.specs.Lookup.{lookup_job}
use Rattle.shift_reader.specs.declared.Reader.{Reader}
use Rattle.shift_reader.specs.declared.Asked.{Asked}
use Rattle.shift_reader.specs.Reading.{rows_laid, listed_of, reader_of, next_of, asks}
use Rattle.shift_reader.specs.Contents.{RowFields, head_status, no_header, header_of, header_answer, no_fields, fields_of, row_answer, row_answers, as_fields, entry_from}
use Rattle.shift_reader.specs.Contents.{HeaderGiven, RowsAsRead, RowGiven, RowAsEntry}
use Rattle.shift_reader.proofs.Asking.{laid_all, both_all, moved, going, made, others_ended}

abbrev number_of : Answer → ℕ
number_of x = x.number

-- ---- the cases

module _ (f : List ℕ) where
  pub header-goes : head_status f ≡ 0 → header_answer f ≡ header_of f
  unfolding header_answer
  header-goes z = simp z

  pub header-stops : (head_status f ≡ 0 → ⊥) → header_answer f ≡ no_header (head_status f)
  unfolding header_answer
  header-stops n = simp (ne_eqb (head_status f) 0 n)

  -- a refusal of the header is its status, and carries no row
  pub refused-head : (x : Refusal) → answer (head_status f) 0 ≡ refusal_answer x
      → (head_status f ≡ (refusal_answer x).number) × (head_status f ≡ 0 → ⊥) × ((refusal_answer x).row ≡ 0)
  refused-head x q = (ap number_of q, λ z. refusal-some x (ap number_of (sym q) ∙ z), sym (ap (λ (a : Answer). a.row) q))

module _ (f : List ℕ) (i : ℕ) where
  pub row_goes : head_status f ≡ 0 → i < count_of f → row_answer f i ≡ fields_of (listed_of f i)
  unfolding row_answer
  row_goes z l = simp (z, lt-ltb i (count_of f) l)

  pub row-past : head_status f ≡ 0 → count_of f ≤ i → row_answer f i ≡ no_fields 32
  unfolding row_answer
  row-past z h = simp (z, le-ltb i (count_of f) h)

  pub row-stops : (head_status f ≡ 0 → ⊥) → row_answer f i ≡ no_fields (head_status f)
  unfolding row_answer
  row-stops n = simp (ne_eqb (head_status f) 0 n)

  -- a nonce starts in the file, so at an offset of 32 bits
  pub nonce-low : head_status f ≡ 0 → i < count_of f → nonce_start (row_size_of f) i < 0x1_0000_0000
  unfolding nonce_start rest_start
  nonce-low z l =
      let h = headed first_edition newest f z in
      let r = row_in (row_size_of f) f (count_of f) i h.table l in
      omega (arith, h.short, r.broad, r.fits)

-- ---- row after row

-- past the rows every answer is 32
past_rows : (f : List ℕ) (k i : ℕ) → head_status f ≡ 0 → count_of f ≤ i → row_answers f i k ≡ map as_fields (replicate k None)
unfolding row_answers
past_rows f zero i z h = refl
past_rows f (suc k) i z h = ap₂ (λ (a : RowFields) (t : List RowFields). a ∷ t) (row-past f i z h) (past_rows f k (suc i) z (omega (arith, h)))

-- the reader past its next row
abbrev onward : Reader → Reader
onward r = record { src = r.src; place = record { at = suc r.place.at; end = r.place.end } }

-- one row, and what comes after it
one_on : (r : Reader) (k : ℕ) → head_status r.src.now ≡ 0 → r.place.end ≡ rows_laid r.src.now → (b : Bool)
    → ltb r.place.at (rows_laid r.src.now) ≡ b
    → row_answers r.src.now (suc r.place.at) k ≡ map as_fields (asks k (onward r))
    → row_answers r.src.now r.place.at (suc k) ≡ map as_fields (asks (suc k) r)
unfolding row_answers asks
one_on r k z e true t next =
    let f = r.src.now in
    let l : r.place.at < rows_laid f = ltb-true _ _ t in
    let g : next_of r ≡ record { reader = record { src = r.src; place = moved r.place }; entry = Some (listed_of f r.place.at) } = ap (made r.src)
    (going r.place f e l) in
    ap₂ (λ (a : RowFields) (t : List RowFields). a ∷ t)
    (row_goes f r.place.at z (omega (arith, l, laid_all f z)) ∙ sym (ap (λ (x : Asked). as_fields x.entry) g))
    (sym (ap (λ (x : Asked). map as_fields (asks k x.reader)) g ∙ rw add-one (sym next)))
one_on r k z e false t next =
    let f = r.src.now in
    let h : rows_laid f ≤ r.place.at = ltb-false _ _ t in
    past_rows f (suc k) r.place.at z (omega (arith, h, laid_all f z)) ∙ ap (map as_fields) (sym (others_ended r (suc k) (inl h)))

read_on : (k : ℕ) (r : Reader) → head_status r.src.now ≡ 0 → r.place.end ≡ rows_laid r.src.now
    → row_answers r.src.now r.place.at k ≡ map as_fields (asks k r)
unfolding row_answers asks
read_on zero r z e = refl
read_on (suc k) r z e = one_on r k z e (ltb r.place.at (rows_laid r.src.now)) refl (read_on k (onward r) z e)

pub rows_as_read : RowsAsRead
rows_as_read s k z = read_on k (reader_of s) (passes first_edition newest s.now z).zero (both_all s.now z)

-- ---- a file that passes

pub header-given : HeaderGiven
header-given f z = header-goes f (passes first_edition newest f z).zero

-- the fields of a row with a text's offset
abbrev text_at_lem : List ℕ → ℕ → ℕ → RowFields
text_at_lem f i t =
    record {
      status = 0;
      job = (row_of f i).job;
      station = station_of f i;
      suite = (row_of f i).suite;
      key_number = (row_of f i).key;
      nonce_at = nonce_start (row_size_of f) i;
      ad_at = (row_of f i).ad_at;
      ad_len = (row_of f i).ad_len;
      text_at = t;
      text_len = (row_of f i).text_len;
    }

-- a body lies in the file, so its text starts at an offset of 32 bits
pub row-given : RowGiven
unfolding body_end
row-given f i z l =
    let p = passes first_edition newest f z in
    let low : (row_of f i).ad_at + (row_of f i).ad_len < 2 ^ 32 = omega (arith, (entry_in first_edition newest f p i l).body-in, p.head.short) in
    row_goes f i p.zero l ∙ ap (text_at_lem f i) (mod-eq_of_lt low)

pub row_as_entry : RowAsEntry
unfolding lookup_job
row_as_entry f job i q =
    let h = holding f job i q in
    let b = both_zero (check_file f) _ (ap number_of q) in
    let g = row-given f i b.0 h.within in
    (ap (λ (x : RowFields). x.job) g ∙ h.right, sym (places-found f (lookup_job f job) i q) ∙ sym (ap (entry_from i) g))
