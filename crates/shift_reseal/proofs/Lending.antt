-- The pieces of the output as the loop puts them, and the table as it would be.
use Prim.Native.Nat.{ℕ, ◌+◌, ◌-◌, ◌≤◌, ◌<◌}
use native.Mathlib.Numerals.{add-one}
use native.Mathlib.Omega.{arith}
use mathlib.Core.Path.{◌≡◌, refl, sym, ap, ap₂, ◌∙◌}
use mathlib.Core.Bool.{Bool, true, false, not, ◌&&◌}
use mathlib.Core.List.{List, [], ◌∷◌}
use lib.ListN.{length, take, set}
use lib.Dec.{eqb}
use borrow.Author.Tests.{eq-eqb, ne_eqb}
use borrow.Rule.Slice.PartMut.{put_mid, same_len_mid}
use Rattle.block.specs.Bytes.{same_bytes}
use Rattle.cipher.specs.Cipher.{retired_suite, facts_of, is_suite, retired, seals, Seals, size_of}
use Rattle.shift_format.specs.declared.row.Row.{Row}
use Rattle.status.specs.declared.checked.Answer.{Answer}
use Rattle.shift_format.specs.Part.{stretch}
use Rattle.shift_format.specs.Format.{count_of, first_edition, row_size_of, rest_start, row_of, nonce_at}
use Rattle.shift_check.specs.Check.{check_as, unread_set, clash}
use Rattle.shift_format.specs.Inside.{RowIn, TableIn}
use Rattle.shift_format.proofs.Rows.{row_in, row-late, stretch-length}
use Rattle.shift_check.proofs.Nonces.{clash-keys, clash-none}
use Rattle.shift_check.proofs.Passed.{Passes, passes}
use Rattle.shift_draft.specs.Put.{put, put_all}
use Rattle.shift_draft.specs.Files.{piece_start, piece_as, entry_out}
use Rattle.shift_draft.specs.Answers.{tag_right}
use Rattle.std.specs.Prelude.{Result, Ok}
use Rattle.shift_writer.specs.declared.answers.WriteError.{WriteError}
use Rattle.shift_writer.specs.Answers.{written_answer}
use Rattle.shift_piece.specs.Inside.{PieceWritable}
use Rattle.shift_piece.proofs.Lending.{body_fits, front_is}
use Rattle.shift_reseal.specs.Files.{successor, new_suite, resuited, retabled, again_piece}
use Rattle.shift_reseal.specs.Answers.{wrong_again, take_answer}
use Rattle.shift_reseal.specs.Inside.{Passing, Resealable}
use Rattle.shift_reseal.proofs.Retabled.{with_suite, tab, t-row, t-nonce, t-table, t-unread}
use Rattle.shift_reseal.proofs.Pieces.{put_one, put_none}
use Rattle.shift_reseal.proofs.Answers.{Takeable, takeable}

-- ---- suite 3

three-seals : Seals successor
unfolding seals is_suite retired
three-seals = refl

-- blocks of both suites are as long
four_size : (r : Row) → r.suite ≡ retired_suite → size_of r.suite ≡ size_of successor
unfolding size_of facts_of
four_size r q = ap size_of q

-- ---- a suite 4 entry's places

module _ (f : List ℕ) (i : ℕ) (r : Row) (ring out : List ℕ) (p : Resealable f i r ring out) where
  -- its piece as suite 3 is as long, so it lies in the output
  pub piece-in : (a n : ℕ) → a ≡ r.ad_at + r.ad_len → n ≡ size_of successor → a + (r.text_len + n) ≤ length out
  piece-in a n q k = omega (arith, body_fits f i r p.row.entry p.is_row, p.row.out-long, four_size r p.four)

  module _ (a : ℕ) (q : a ≡ r.ad_at + r.ad_len) where
    pub text_in : a + r.text_len ≤ length out
    text_in = omega (arith, piece-in a (size_of successor) q refl)

    pub text-long : length (stretch out a (a + r.text_len - a)) ≡ r.text_len
    text-long = stretch-length out a (a + r.text_len - a) (omega (arith, text_in)) ∙ omega arith

    pub text-own : length (stretch out a (a + r.text_len - a)) ≡ (row_of f i).text_len
    text-own = text-long ∙ ap (λ (x : Row). x.text_len) p.is_row

    -- the opener left x there
    module _ (x : List ℕ) (k : length x ≡ length (stretch out a (a + r.text_len - a))) where
      pub opened-long : length x ≡ a + r.text_len - a
      opened-long = k ∙ text-long ∙ omega arith

      module _ (n : ℕ) (m : n ≡ size_of successor) where
        pub opened_in : a + (r.text_len + n) ≤ length (put_mid a (a + r.text_len - a) out x)
        opened_in = omega (arith, piece-in a n q m, same_len_mid a (a + r.text_len - a) out x k)

        pub piece-long : length (stretch (put_mid a (a + r.text_len - a) out x) a (a + (r.text_len + n) - a)) ≡ a + (r.text_len + n) - a
        piece-long = stretch-length (put_mid a (a + r.text_len - a) out x) a (a + (r.text_len + n) - a) (omega (arith, opened_in))

        -- where the sealer takes it
        pub opened-is : take r.text_len (stretch (put_mid a (a + r.text_len - a) out x) a (a + (r.text_len + n) - a)) ≡ x
        opened-is = front_is out x a r.text_len (a + (r.text_len + n)) (omega arith) (omega (arith, text_in)) (k ∙ text-long)

        pub can-seal : PieceWritable f ring i r successor (stretch (put_mid a (a + r.text_len - a) out x) a (a + (r.text_len + n) - a))
        can-seal =
            record { entry = p.row.entry; still = three-seals; ring_long = p.row.ring_long; out-long = omega (arith, piece-long, m) }

-- ---- a row

module _ (f ring : List ℕ) (i : ℕ) (r : Row) (q : r ≡ row_of f i) where
  -- of suite 4: text and tag of its message, sealed as suite 3
  pub piece-four : r.suite ≡ retired_suite → (msg out : List ℕ) → msg ≡ entry_out true f ring i
      → put out (r.ad_at + r.ad_len) (piece_as f ring i successor msg) ≡ put out (piece_start f i) (again_piece f ring i)
  unfolding piece_start again_piece
  piece-four four msg out e =
      let s : (row_of f i).suite ≡ retired_suite = rw q at four in
      simp (eq-eqb _ _ s) (λ t. put out ((q t).ad_at + (q t).ad_len) (piece_as f ring i successor (e t)))

  pub wrong-four : r.suite ≡ retired_suite → (b : Bool) → b ≡ tag_right f ring i → not b ≡ wrong_again f ring i
  unfolding wrong_again
  wrong-four four b e =
      let s : (row_of f i).suite ≡ retired_suite = rw q at four in
      simp (eq-eqb _ _ s) (ap not e)

  -- of any other: nothing
  pub piece-other : (r.suite ≡ retired_suite → ⊥) → (out : List ℕ) → out ≡ put out (piece_start f i) (again_piece f ring i)
  unfolding again_piece
  piece-other n out =
      let s : eqb (row_of f i).suite retired_suite ≡ false = rw q at (ne_eqb r.suite retired_suite n) in
      simp s (sym (put_none out (piece_start f i)))

  pub wrong-other : (r.suite ≡ retired_suite → ⊥) → false ≡ wrong_again f ring i
  unfolding wrong_again
  wrong-other n =
      let s : eqb (row_of f i).suite retired_suite ≡ false = rw q at (ne_eqb r.suite retired_suite n) in
      simp s

-- a row that the table says is of another suite is left
pub left_right : (f ring : List ℕ) (i : ℕ) → ((row_of f i).suite ≡ retired_suite → ⊥) → false ≡ wrong_again f ring i
left_right f ring i = wrong-other f ring i (row_of f i) refl

pub left_text : (f ring : List ℕ) (i : ℕ) (out : List ℕ) → ((row_of f i).suite ≡ retired_suite → ⊥) → out ≡ put out (piece_start f i) (again_piece f ring i)
left_text f ring i out n = piece-other f ring i (row_of f i) refl n out

pub ruleset left_row = (left_right, left_text)

-- ---- the table as it would be

-- the header is in front of it
pub head_fits : (w : ℕ) (f : List ℕ) (n : ℕ) → TableIn w f n → 8 ≤ length f
head_fits w f n t = omega (arith, row-late w n, t.fits)

-- a row of a table lies in every list that is as long
pub table_row : (w : ℕ) (l₀ l : List ℕ) (n : ℕ) {i : ℕ} → TableIn w l₀ n → length l ≡ length l₀ → i < n → RowIn w l i
table_row w l₀ l n {i} t q b = row_in w l n i (record { broad = t.broad; fits = omega (arith, t.fits, q) }) b

-- one suite more
pub suite_step : (f out out₀ new : List ℕ) (i w s : ℕ) (r : Row) → RowIn (row_size_of f) out i → w ≡ row_size_of f → s ≡ new_suite r.suite → r ≡ row_of f i
    → out ≡ resuited f i out₀ → new ≡ set out (rest_start w i) s → new ≡ resuited f (i + 1) out₀
unfolding resuited put_all rest_start
suite_step f out out₀ new i w s r h ew es er eo e =
    e
    ∙ ap₂ (λ (v x : ℕ). set out (rest_start v i) x) ew (es ∙ ap (λ (q : Row). new_suite q.suite) er)
    ∙ put_one out (rest_start (row_size_of f) i) (new_suite (row_of f i).suite) (omega (arith, h.broad, h.fits))
    ∙ rw (add-one i) (ap (λ (l : List ℕ). put l (rest_start (row_size_of f) i) (new_suite (row_of f i).suite ∷ [])) eo)

module _ (f : List ℕ) (n : ℕ) (p : Passing f n) where
  P : Passes first_edition first_edition f
  P = passes first_edition first_edition f p.passed

  pub table-in : TableIn (row_size_of f) f n
  table-in = rw p.rows (tab f p.passed)

  pub row-own : (i : ℕ) → i < n → RowIn (row_size_of f) f i
  row-own i h = row_in (row_size_of f) f n i table-in h

  -- its rows with the new suites
  abbrev T : List ℕ
  T = retabled f

  below : (i : ℕ) → i < n → i < count_of f
  below i h = omega (arith, h, p.rows)

  row-anew : (i : ℕ) → i < n → RowIn (row_size_of T) T i
  row-anew i h = row_in (row_size_of T) T (count_of f) i (t-table f p.passed) (below i h)

  spare-anew : (i : ℕ) → i < n → unread_set (row_size_of T) T i ≡ false
  spare-anew i h = t-unread f p.passed i (below i h) ∙ (P.walk.rows i (below i h)).spare

  module _ (i j : ℕ) (hi : i < n) (hj : j < n) where
    nonces-anew : same_bytes (nonce_at (row_size_of T) T i) (nonce_at (row_size_of T) T j) ≡ same_bytes (nonce_at (row_size_of f) f i) (nonce_at (row_size_of f) f j)
    nonces-anew = ap₂ same_bytes (t-nonce f p.passed i (below i hi)) (t-nonce f p.passed j (below j hj))

    -- equal nonces: new suite and key number tell
    pub anew-keys : (a b : Row) → a ≡ row_of f i → b ≡ row_of f j → same_bytes (nonce_at (row_size_of f) f i) (nonce_at (row_size_of f) f j) ≡ true
        → (eqb (new_suite a.suite) (new_suite b.suite) && eqb a.key b.key) ≡ clash (row_size_of T) T i j
    anew-keys a b q r e =
        clash-keys (row_size_of T) T i j (row-anew i hi) (row-anew j hj) (spare-anew i hi) (spare-anew j hj) (with_suite a) (with_suite b)
        (ap with_suite q ∙ sym (t-row f p.passed i (below i hi))) (ap with_suite r ∙ sym (t-row f p.passed j (below j hj))) (nonces-anew ∙ e)

    -- others: no clash
    pub anew-none : same_bytes (nonce_at (row_size_of f) f i) (nonce_at (row_size_of f) f j) ≡ false → false ≡ clash (row_size_of T) T i j
    anew-none e = clash-none (row_size_of T) T i j (row-anew i hi) (row-anew j hj) (spare-anew i hi) (spare-anew j hj) (nonces-anew ∙ e)

-- ---- the entry point

-- the definition's answer is 0, and says what it says
pub take_can : (file : List ℕ) (ring out : ℕ) (x : Result Unit WriteError) {u : Unit} → written_answer x ≡ take_answer file ring out → x ≡ Ok u → Takeable file ring out
take_can file ring out x q d = takeable file ring out (ap (λ (y : Answer). y.number) (sym q ∙ ap written_answer d))

-- the table lies in the file, and in an output of its length
pub both_tables : (f : List ℕ) (n : ℕ) → (check_as first_edition f).number ≡ 0 → n ≡ count_of f → (out : List ℕ) → length out ≡ length f
    → TableIn (row_size_of f) f n × TableIn (row_size_of f) out n
both_tables f n z q out l =
    let t = table-in f n (record { passed = z; rows = q }) in
    (t, record { broad = t.broad; fits = omega (arith, t.fits, l) })
