-- A row of a file that passes is one that the opener takes: suite and every length are right, so it answers 0 or 8.
use Prim.Native.Nat.{ℕ, ◌+◌, ◌*◌, ◌≤◌, ◌<◌}
use native.Mathlib.Omega.{arith}
use mathlib.Core.Path.{◌≡◌, refl, ap, ◌∙◌}
use mathlib.Core.Bool.{Bool, true, false, not, cond}
use mathlib.Core.List.{List}
use lib.Dec.{eqb}
use borrow.Author.Tests.{le-ltb, eq-eqb}
use lib.ListN.{length, take, length-take}
use Rattle.block.specs.Bytes.{same_bytes}
use Rattle.cipher.specs.Cipher.{size_of, nonce_of, cipher_of, limit}
use Rattle.cipher.proofs.Suites.{nonce_most}
use Rattle.mode.specs.Mode.{text_out, tag_out}
use Rattle.status.specs.Verdicts.{refusal}
use Rattle.comet.specs.Answers.{Sealed, sealing, Opened, opened_as, opening, verifying}
use Rattle.shift_format.specs.declared.row.Row.{Row}
use Rattle.shift_format.specs.Format.{row_size_of, nonce_at, row_of, data_of, text_of, tag_of, body_end}
use Rattle.status.specs.Answers.{answer}
use Rattle.shift_format.specs.Inside.{EntryIn}
use Rattle.shift_format.proofs.Rows.{stretch-length, nonce_length}
use Rattle.shift_jobs.specs.Opening.{ring_key, nonce_read, entry_sealing_as, entry_opening, entry_verifying, left, row_opening}
use Rattle.shift_jobs.specs.Inside.{Lendable}

-- on the entry's own bytes, the opener's status and output are the definition's
pub lent : (f ring : List ℕ) (i : ℕ) (r : Row) (x : Opened) (key nonce ad text tag out : List ℕ) → x ≡ opening r.suite key nonce ad text tag out
    → r ≡ row_of f i
    → key ≡ ring_key ring r.key → nonce ≡ take (nonce_of r.suite) (nonce_at (row_size_of f) f i)
    → ad ≡ data_of f r → text ≡ text_of f r → tag ≡ tag_of f r → x ≡ entry_opening f ring i out
unfolding entry_opening
lent f ring i r x key nonce ad text tag out e q ek en ea et eg = e ∙ simp (ek, en, ea, et, eg, q)

-- and so does the record's test, whose number is the opener's into an output of the text's length
pub lent_test : (f ring : List ℕ) (i : ℕ) (r : Row) (x : ℕ) (key nonce ad text tag : List ℕ) → x ≡ verifying r.suite key nonce ad text tag → r ≡ row_of f i
    → key ≡ ring_key ring r.key → nonce ≡ take (nonce_of r.suite) (nonce_at (row_size_of f) f i)
    → ad ≡ data_of f r → text ≡ text_of f r → tag ≡ tag_of f r → x ≡ entry_verifying f ring i
unfolding entry_verifying
lent_test f ring i r x key nonce ad text tag e q ek en ea et eg = e ∙ simp (ek, en, ea, et, eg, q)

pub test_number : (f ring : List ℕ) (i : ℕ) → entry_verifying f ring i ≡ (entry_opening f ring i (text_of f (row_of f i))).number
unfolding entry_verifying entry_opening verifying
test_number f ring i = refl

-- and so does the sealer, of any text under any suite
pub lent_sealer : (f ring : List ℕ) (i suite : ℕ) (r : Row) (x : Sealed) (key nonce ad text out tag : List ℕ) → x ≡ sealing suite key nonce ad text out tag
    → r ≡ row_of f i
    → key ≡ ring_key ring r.key → nonce ≡ take (nonce_of suite) (nonce_at (row_size_of f) f i)
    → ad ≡ data_of f r → x ≡ entry_sealing_as f ring i suite text out tag
lent_sealer f ring i suite r x key nonce ad text out tag e q ek en ea = e ∙ simp (ek, en, ea, q)

-- what the opener compares and recovers on the own bytes of row i
abbrev pub entry_right : List ℕ → List ℕ → ℕ → Bool
entry_right f ring i =
    let r = row_of f i in
    same_bytes (tag_out (cipher_of r.suite) true (ring_key ring r.key) (nonce_read f i) (data_of f r) (text_of f r)) (tag_of f r)

abbrev pub entry_text : List ℕ → List ℕ → ℕ → List ℕ
entry_text f ring i =
    let r = row_of f i in
    text_out (cipher_of r.suite) true (ring_key ring r.key) (nonce_read f i) (data_of f r) (text_of f r)

module _ (f ring : List ℕ) (i : ℕ) (h : EntryIn (row_size_of f) f i) (g : length ring ≡ 256) where
  pub key-long : length (ring_key ring (row_of f i).key) ≡ 16
  key-long = stretch-length ring (16 * (row_of f i).key) 16 (omega (arith, h.key-high))

  pub nonce-long : length (nonce_read f i) ≡ nonce_of (row_of f i).suite
  nonce-long =
      let s = (row_of f i).suite in
      length-take (nonce_of s) (nonce_at (row_size_of f) f i) ∙ omega (arith, nonce_length (row_size_of f) f i h.row_in, nonce_most s)

  pub data-long : length (data_of f (row_of f i)) ≡ (row_of f i).ad_len
  unfolding body_end
  data-long = stretch-length f (row_of f i).ad_at (row_of f i).ad_len (omega (arith, h.body-in))

  pub text-long : length (text_of f (row_of f i)) ≡ (row_of f i).text_len
  unfolding body_end
  text-long = stretch-length f ((row_of f i).ad_at + (row_of f i).ad_len) (row_of f i).text_len (omega (arith, h.body-in))

  pub tag-long : length (tag_of f (row_of f i)) ≡ size_of (row_of f i).suite
  unfolding body_end
  tag-long = stretch-length f ((row_of f i).ad_at + (row_of f i).ad_len + (row_of f i).text_len) (size_of (row_of f i).suite) h.body-in

  -- suite and lengths are right but for the output's, which is what it is
  entry-lengths : (out : List ℕ) → refusal true (row_of f i).suite (length (ring_key ring (row_of f i).key)) (length (nonce_read f i))
      (length (data_of f (row_of f i)))
      (length (text_of f (row_of f i))) (length out) (length (tag_of f (row_of f i))) ≡ cond (not (eqb (length out) (row_of f i).text_len)) 6 0
  unfolding refusal
  entry-lengths out =
      simp (
        h.suite-is,
        key-long,
        eq-eqb _ _ nonce-long,
        data-long,
        le-ltb limit (row_of f i).ad_len (omega (arith, h.data-high)),
        text-long,
        le-ltb _ _ h.text-high,
        eq-eqb _ _ tag-long,
      )

  -- so the opener goes by the output's length and the tag alone
  pub entry-opened : (out : List ℕ) → entry_opening f ring i out ≡ opened_as (cond (not (eqb (length out) (row_of f i).text_len)) 6 0) (entry_right f ring i)
      (entry_text f ring i) out
  unfolding entry_opening opening
  entry-opened out = ap (λ (n : ℕ). opened_as n (entry_right f ring i) (entry_text f ring i) out) (entry-lengths out)

  -- and the row's answer is the opener's, 6 among them
  pub row_opens : (out : List ℕ) → left (answer (entry_opening f ring i out).number 0) (entry_opening f ring i out).out ≡ row_opening f ring i out
  unfolding row_opening
  row_opens out = simp (eq-eqb _ _ g, entry-opened out) (room-case (eqb (length out) (row_of f i).text_len))
    where
      opened : Bool → Opened
      opened b = opened_as (cond (not b) 6 0) (entry_right f ring i) (entry_text f ring i) out

      room-case : (b : Bool) → left (answer (opened b).number 0) (opened b).out
          ≡ cond (not b) (left (answer 6 0) out) (left (answer (opened b).number 0) (opened b).out)
      room-case true = refl
      room-case false = refl

  -- what the opener gave and left is what the row's answer is made of
  pub row_told : (m : ℕ) (x out : List ℕ) → ◌≡◌ {A = Opened} (record { number = m; out = x }) (entry_opening f ring i out)
      → left (answer m 0) x ≡ row_opening f ring i out
  row_told m x out e = ap (λ (y : Opened). left (answer y.number 0) y.out) e ∙ row_opens out

  -- where the output has room, a number above 0 is 8
  pub row-eight : (m : ℕ) (x out : List ℕ) → length out ≡ (row_of f i).text_len → ◌≡◌ {A = Opened} (record { number = m; out = x }) (entry_opening f ring i out)
      → 0 < m → m ≡ 8
  row-eight m x out o e l =
      let q : entry_opening f ring i out ≡ opened_as 0 (entry_right f ring i) (entry_text f ring i) out = rw (eq-eqb _ _ o) at (entry-opened out) in
      eight (entry_right f ring i) (ap (λ (y : Opened). y.number) (e ∙ q))
    where
      eight : (b : Bool) → m ≡ (opened_as 0 b (entry_text f ring i) out).number → m ≡ 8
      eight true z = absurd (omega arith)
      eight false z = z

  pub lendable : (r : Row) → r ≡ row_of f i → Lendable f ring i r
  lendable r q =
      let k : r.key ≤ 15 = rw q h.key-high in
      record { is_row = q; row_in = h.row_in; key_in = omega arith; body-in = rw q h.body-in }
