-- The resealed file is the file with the new suites, its suite 4 pieces put anew: it passes, no suite 4 row is left, and each
-- resealed entry opens to the message that the old one opened to.
use Prim.Native.Nat.{ℕ, ◌+◌, ◌≤◌, ◌<◌}
use native.Mathlib.Decide.{dec_lt}
use native.Mathlib.Omega.{arith}
use mathlib.Core.Path.{◌≡◌, refl, sym, ap, ap₂, ◌∙◌}
use mathlib.Core.Bool.{Bool, true, false, cond}
use mathlib.Core.List.{List, [], ◌++◌}
use mathlib.Core.Logic.{◌⊎◌, inl, inr, ⊎_elim}
use lib.ListN.{length, get_or, take, length-append}
use lib.Dec.{eqb}
use borrow.Author.Tests.{eq-eqb, ne_eqb, eqb-true, eqb-false}
use Rattle.block.specs.Bytes.{AllBytes}
use Rattle.cipher.specs.Cipher.{retired_suite, cipher_of, size_of, nonce_of}
use Rattle.cipher.proofs.Lawful.{lawful}
use Rattle.mode.specs.Mode.{text_out, tag_out}
use Rattle.mode.proofs.Demand2.{text-length, text-bytes, text-back, tag_back, tag-block}
use Rattle.mode.proofs.Start.{suite_nonce}
use Rattle.shift_format.specs.declared.row.Row.{Row}
use Rattle.status.specs.declared.checked.Answer.{Answer}
use Rattle.shift_format.specs.Part.{stretch}
use Rattle.shift_format.specs.Format.{count_of, first_edition, row_size_of, nonce_at, row_of, data_of, text_of, tag_of}
use Rattle.status.specs.Answers.{answer}
use Rattle.shift_check.specs.Check.{check_as}
use Rattle.shift_format.specs.Inside.{EntryIn}
use Rattle.shift_format.proofs.Rows.{stretch-length}
use Rattle.shift_check.proofs.Alike.{stretch-same}
use Rattle.shift_jobs.specs.Opening.{ring_key, nonce_read}
use Rattle.shift_jobs.proofs.Changed.{all_stretch, nonce_bytes, nonce_full, key_block}
use Rattle.shift_draft.specs.Put.{put_all}
use Rattle.shift_draft.specs.Files.{in_edition, piece_start, piece_size, text_as, tag_as, entry_out, entry_tag, rewritten}
use Rattle.shift_draft.specs.Promised.{RightTag}
use Rattle.shift_draft.proofs.Puts.{Apart, all-outside}
use Rattle.shift_draft.proofs.Rewritten.{head, edition-own, piece-in, piece-end, start_is, body-late, bodies-apart, pieces-apart, same_length, same_row}
use Rattle.shift_draft.proofs.Rewritten.{same-nonce, same-data, same_count, parts_are, passes-again, edition_same, pair-low, pair-high}
use Rattle.shift_draft.proofs.Pieces.{entry_at, text-all, out-long}
use Rattle.shift_draft.proofs.Back.{plain_file}
use Rattle.shift_reseal.specs.Files.{successor, retabled, again_piece, resealed_file}
use Rattle.shift_reseal.specs.Promised.{HasFour, Elsewhere, Calm}
use Rattle.shift_reseal.proofs.Retabled.{with_suite, size-new, nonce-new, new-four, new-not, t-length, t-row, t-nonce, t-head, t-body, t-count, t-kept}
use Rattle.shift_reseal.proofs.Retabled.{t_same, clash-of-check}
use Rattle.shift_reseal.proofs.Pieces.{put_places, put_empty, put-alike}
use Rattle.shift_reseal.proofs.Answers.{seen-rows}

-- the nonce bytes that suite 3 reads of row i
abbrev nonce_again : List ℕ → ℕ → List ℕ
nonce_again f i = take (nonce_of successor) (nonce_at (row_size_of f) f i)

-- a message, sealed as suite 3: text and tag
abbrev again_text : List ℕ → List ℕ → ℕ → List ℕ → List ℕ
again_text f ring i msg = text_as false f ring i successor msg

abbrev again_tag : List ℕ → List ℕ → ℕ → List ℕ → List ℕ
again_tag f ring i msg = tag_as false f ring i successor msg

-- of a suite 4 entry's message: how long they are
module _ (f ring : List ℕ) (hf : AllBytes f) (hr : AllBytes ring) (full : length ring ≡ 256) (i : ℕ) (e : EntryIn (row_size_of f) f i) (four : HasFour f i) where
  abbrev msg : List ℕ
  msg = entry_out true f ring i

  msg-all : AllBytes msg
  unfolding entry_out
  msg-all =
      let r = row_of f i in text-bytes (cipher_of r.suite) (lawful r.suite) (ring_key ring r.key) (nonce_read f i) (data_of f r) true (text_of f r)
      (text-all f ring i e full hf hr)

  nonce-four : nonce_read f i ≡ nonce_again f i
  nonce-four = ap (λ (k : ℕ). take k (nonce_at (row_size_of f) f i)) (sym (nonce-new (row_of f i).suite) ∙ ap nonce_of (new-four (row_of f i).suite four))

  size-four : size_of (row_of f i).suite ≡ size_of successor
  size-four = sym (size-new (row_of f i).suite) ∙ ap size_of (new-four (row_of f i).suite four)

  text-long : length (again_text f ring i msg) ≡ (row_of f i).text_len
  text-long =
      let r = row_of f i in
      text-length (cipher_of successor) (lawful successor) (ring_key ring r.key) (nonce_again f i) (data_of f r) false msg msg-all
      ∙ out-long f ring i e full hf hr true

  nonce-fit : length (nonce_again f i) ≡ nonce_of successor
  nonce-fit =
      let s = (row_of f i).suite in
      ap length (sym nonce-four) ∙ nonce_full f ring i e full ∙ suite_nonce s ∙ sym (nonce-new s) ∙ ap nonce_of (new-four s four)

  tag-long : length (again_tag f ring i msg) ≡ size_of successor
  tag-long =
      let r = row_of f i in
      (tag-block (cipher_of successor) (lawful successor) (ring_key ring r.key) (nonce_again f i) (data_of f r) false msg
      (key_block f ring i e full hr) (all-nonce (nonce_bytes f i hf)) (nonce-fit ∙ sym (suite_nonce successor))
      (all_stretch f r.ad_at r.ad_len hf) msg-all).long
    where
      all-nonce : AllBytes (nonce_read f i) → AllBytes (nonce_again f i)
      all-nonce h = rw nonce-four at h

module _ (f ring : List ℕ) (hf : AllBytes f) (hr : AllBytes ring) (c : Calm f) (full : length ring ≡ 256) where
  abbrev n : ℕ
  n = count_of f

  abbrev T : List ℕ
  T = retabled f

  z : (check_as first_edition f).number ≡ 0
  z = c.checked

  -- the theorem of the table: with the new suites it passes too
  t-passes : (check_as first_edition T).number ≡ 0
  t-passes = ap (λ (x : Answer). x.number) (clash-of-check f z ∙ (seen-rows T n).none c.calm)

  taken : (i : ℕ) → i < n → EntryIn (row_size_of f) f i
  taken = entry_at first_edition f plain_file z

  t-start : (i : ℕ) → i < n → piece_start T i ≡ piece_start f i
  unfolding piece_start
  t-start i l = ap (λ (r : Row). r.ad_at + r.ad_len) (t-row f z i l)

  t-size : (i : ℕ) → i < n → piece_size T i ≡ piece_size f i
  t-size i l = ap (λ (r : Row). r.text_len + size_of r.suite) (t-row f z i l) ∙ ap (λ (k : ℕ). (row_of f i).text_len + k) (size-new (row_of f i).suite)

  t-edition : in_edition first_edition T ≡ T
  t-edition =
      edition_same first_edition T (omega (arith, t-length f z, (head first_edition f plain_file z).long))
      (t-head f z 0 (omega arith) ∙ pair-low f first_edition hf plain_file.1 (edition-own first_edition f plain_file z))
      (t-head f z 1 (omega arith) ∙ pair-high f first_edition hf plain_file.1 (edition-own first_edition f plain_file z))

  -- ---- with a piece for every row: where nothing is put, what stands there

  whole : ℕ → List ℕ
  whole i = cond (eqb (row_of f i).suite retired_suite) (again_piece f ring i) (stretch T (piece_start T i) (piece_size T i))

  whole_four : (i : ℕ) → HasFour f i → whole i ≡ again_text f ring i (entry_out true f ring i) ++ again_tag f ring i (entry_out true f ring i)
  unfolding whole again_piece
  whole_four i q = simp (eq-eqb _ _ q)

  whole-other : (i : ℕ) → (HasFour f i → ⊥) → whole i ≡ stretch T (piece_start T i) (piece_size T i)
  unfolding whole
  whole-other i q = simp (ne_eqb _ _ q)

  pub again-other : (i : ℕ) → (HasFour f i → ⊥) → again_piece f ring i ≡ []
  unfolding again_piece
  again-other i q = simp (ne_eqb _ _ q)

  again-four : (i : ℕ) → HasFour f i → again_piece f ring i ≡ again_text f ring i (entry_out true f ring i) ++ again_tag f ring i (entry_out true f ring i)
  unfolding again_piece
  again-four i q = simp (eq-eqb _ _ q)

  four-or : (i : ℕ) → HasFour f i ⊎ (HasFour f i → ⊥)
  four-or i = suite-case (eqb (row_of f i).suite retired_suite) refl
    where
      suite-case : (b : Bool) → eqb (row_of f i).suite retired_suite ≡ b → HasFour f i ⊎ (HasFour f i → ⊥)
      suite-case true e = inl (eqb-true _ _ e)
      suite-case false e = inr (eqb-false _ _ e)

  four_long : (i : ℕ) → i < n → HasFour f i → length (again_text f ring i (entry_out true f ring i) ++ again_tag f ring i (entry_out true f ring i)) ≡ piece_size f i
  four_long i l q =
      length-append (again_text f ring i (entry_out true f ring i)) (again_tag f ring i (entry_out true f ring i))
      ∙ ap₂ (λ (a b : ℕ). a + b) (text-long f ring hf hr full i (taken i l) q)
      (tag-long f ring hf hr full i (taken i l) q ∙ sym (size-four f ring hf hr full i (taken i l) q))

  whole_long : (i : ℕ) → i < count_of T → length (whole i) ≡ piece_size T i
  whole_long i l =
      let m : i < n = rw (sym (t-count f z)) l in
      ⊎_elim
      (λ q. ap length (whole_four i q) ∙ four_long i m q ∙ sym (t-size i m))
      (λ q. ap length (whole-other i q) ∙ stretch-length T (piece_start T i) (piece_size T i) (piece-in first_edition T plain_file t-passes i l))
      (four-or i)

  abbrev R : List ℕ
  R = rewritten first_edition whole T

  resealed-is : resealed_file f ring ≡ R
  unfolding resealed_file
  resealed-is =
      put_places (piece_start f) (piece_start T) (again_piece f ring) n T (λ i l. sym (t-start i l))
      ∙ ap (λ (k : ℕ). put_all (piece_start T) (again_piece f ring) k T) (sym (t-count f z))
      ∙ put-alike (piece_start T) whole (again_piece f ring) (count_of T) T t-apart (λ i l. alike i l) (count_of T) (omega arith)
      ∙ ap (put_all (piece_start T) whole (count_of T)) (sym t-edition)
    where
      t-apart : Apart (piece_start T) whole (count_of T) T
      t-apart = rw t-edition at (pieces-apart first_edition T plain_file t-passes first_edition plain_file whole whole_long)

      alike : (i : ℕ) → i < count_of T → (again_piece f ring i ≡ whole i) ⊎ ((again_piece f ring i ≡ [])
          × (whole i ≡ stretch T (piece_start T i) (length (whole i))))
      alike i l =
          ⊎_elim
          (λ q. inl (again-four i q ∙ sym (whole_four i q)))
          (λ q. inr (again-other i q, whole-other i q ∙ ap (stretch T (piece_start T i)) (sym (whole_long i l))))
          (four-or i)

  pub resealed-passes : check_as first_edition (resealed_file f ring) ≡ answer 0 0
  resealed-passes = ap (check_as first_edition) resealed-is ∙ passes-again first_edition T plain_file t-passes first_edition plain_file whole whole_long

  pub resealed-length : length (resealed_file f ring) ≡ length f
  resealed-length = ap length resealed-is ∙ same_length first_edition T plain_file t-passes first_edition plain_file whole whole_long ∙ t-length f z

  pub resealed-count : count_of (resealed_file f ring) ≡ n
  resealed-count = ap count_of resealed-is ∙ same_count first_edition T plain_file t-passes first_edition plain_file whole whole_long ∙ t-count f z

  pub resealed_row : (i : ℕ) → i < n → row_of (resealed_file f ring) i ≡ with_suite (row_of f i)
  resealed_row i l =
      ap (λ (x : List ℕ). row_of x i) resealed-is
      ∙ same_row first_edition T plain_file t-passes first_edition plain_file whole whole_long i (rw (t-count f z) l)
      ∙ t-row f z i l

  pub none_left : (i : ℕ) → i < count_of (resealed_file f ring) → HasFour (resealed_file f ring) i → ⊥
  none_left i l q = new-not (row_of f i).suite (sym (ap (λ (r : Row). r.suite) (resealed_row i (rw resealed-count at l))) ∙ q)

  pub resealed-nonce : (i : ℕ) → i < n → nonce_at (row_size_of (resealed_file f ring)) (resealed_file f ring) i ≡ nonce_at (row_size_of f) f i
  resealed-nonce i l =
      ap (λ (x : List ℕ). nonce_at (row_size_of x) x i) resealed-is
      ∙ same-nonce first_edition T plain_file t-passes first_edition plain_file whole whole_long i (rw (t-count f z) l)
      ∙ t-nonce f z i l

  -- ---- a suite 4 entry, resealed

  module _ (i : ℕ) (l : i < n) (four : HasFour f i) where
    abbrev F : List ℕ
    F = resealed_file f ring

    abbrev r : Row
    r = row_of f i

    abbrev msg₄ : List ℕ
    msg₄ = entry_out true f ring i

    -- the row, with suite 3
    abbrev three : Row
    three = record { job = r.job; suite = successor; key = r.key; ad_len = r.ad_len; ad_at = r.ad_at; text_len = r.text_len }

    new-three : with_suite r ≡ three
    new-three =
        ap (λ (s : ℕ). record { job = r.job; suite = s; key = r.key; ad_len = r.ad_len; ad_at = r.ad_at; text_len = r.text_len })
        (new-four r.suite four)

    pub row-three : row_of F i ≡ three
    row-three = resealed_row i l ∙ new-three

    in-t : i < count_of T
    in-t = rw (t-count f z) l

    row-t : row_of T i ≡ three
    row-t = t-row f z i l ∙ new-three

    pub data-three : data_of F three ≡ data_of f r
    data-three =
        ap (λ (x : List ℕ). data_of x three) resealed-is
        ∙ ap (data_of R) (sym row-t)
        ∙ same-data first_edition T plain_file t-passes first_edition plain_file whole whole_long i in-t
        ∙ ap (data_of T) row-t
        ∙ stretch-same T f (t-length f z) r.ad_at r.ad_len (λ k a b. t-body f z k (omega (arith, body-late first_edition f plain_file z i l)))

    parts-three : (text_of F three ≡ again_text f ring i msg₄) × (tag_of F three ≡ again_tag f ring i msg₄)
    parts-three =
        let p = parts_are first_edition T plain_file t-passes first_edition plain_file whole whole_long i in-t (again_text f ring i msg₄) (again_tag f ring i msg₄)
        (whole_four i four)
        (text-long f ring hf hr full i (taken i l) four ∙ ap (λ (q : Row). q.text_len) (sym row-t)) in (
          ap (λ (x : List ℕ). text_of x three) resealed-is ∙ ap (text_of R) (sym row-t) ∙ p.0,
          ap (λ (x : List ℕ). tag_of x three) resealed-is ∙ ap (tag_of R) (sym row-t) ∙ p.1,
        )

    pub same-message : entry_out true F ring i ≡ msg₄
    unfolding entry_out
    same-message =
        let key = ring_key ring r.key in
        let row = row-three in
        let nonce = resealed-nonce i l in
        (λ t. text_out (cipher_of (row t).suite) true (ring_key ring (row t).key) (take (nonce_of (row t).suite) (nonce t)) (data_of F (row t))
        (text_of F (row t)))
        ∙ ap₂ (λ (a b : List ℕ). text_out (cipher_of successor) true key (nonce_again f i) a b) data-three parts-three.0
        ∙ text-back (cipher_of successor) (lawful successor) key (nonce_again f i) (data_of f r) false msg₄ (msg-all f ring hf hr full i (taken i l) four)

    pub right-again : RightTag F ring i
    unfolding entry_tag
    right-again =
        let key = ring_key ring r.key in
        let row = row-three in
        let nonce = resealed-nonce i l in
        (λ t. tag_out (cipher_of (row t).suite) true (ring_key ring (row t).key) (take (nonce_of (row t).suite) (nonce t)) (data_of F (row t)) (text_of F (row t)))
        ∙ ap₂ (λ (a b : List ℕ). tag_out (cipher_of successor) true key (nonce_again f i) a b) data-three parts-three.0
        ∙ tag_back (cipher_of successor) (lawful successor) key (nonce_again f i) (data_of f r) false msg₄ (msg-all f ring hf hr full i (taken i l) four)
        ∙ sym (ap (tag_of F) row-three ∙ parts-three.1)

  -- ---- every other byte

  again-long : (i : ℕ) → i < n → HasFour f i → length (again_piece f ring i) ≡ piece_size f i
  again-long i l q = ap length (again-four i q) ∙ four_long i l q

  again-most : (i : ℕ) → i < n → length (again_piece f ring i) ≤ piece_size f i
  again-most i l =
      ⊎_elim
      (λ q. omega (arith, again-long i l q))
      (λ q. let e : length (again_piece f ring i) ≡ 0 = ap length (again-other i q) in omega arith)
      (four-or i)

  again-apart : Apart (piece_start f) (again_piece f ring) n T
  again-apart = record {
    fits = λ i l. omega (arith, again-most i l, piece-in first_edition f plain_file z i l, t-length f z);
    after =
        λ i j l m. omega (
          arith,
          again-most i (omega arith),
          piece-end first_edition f plain_file z i,
          bodies-apart first_edition f plain_file z i j l m,
          start_is first_edition f plain_file z j,
        );
  }

  pub kept-else : (k : ℕ) → ((i : ℕ) → i < n → HasFour f i → Elsewhere f i k) → get_or (resealed_file f ring) k 0 ≡ get_or f k 0
  unfolding resealed_file
  kept-else k o =
      all-outside (piece_start f) (again_piece f ring) n T again-apart n (omega arith) k beside
      ∙ t-kept f z k (λ i l q. (o i l q).suite)
    where
      beside : (i : ℕ) → i < n → (k < piece_start f i) ⊎ (piece_start f i + length (again_piece f ring i) ≤ k)
      beside i l =
          ⊎_elim
          (λ q. ⊎_elim (λ a. inl a) (λ a. inr (omega (arith, again-long i l q))) (o i l q).piece)
          (λ q.
          let e : length (again_piece f ring i) ≡ 0 = ap length (again-other i q) in
          elim (dec_lt k (piece_start f i)) [
            | yes a ↦ inl a
            | no a ↦ inr (omega arith)
          ])
          (four-or i)

-- ---- no suite 4 row: nothing changes

pub unchanged : (f ring : List ℕ) → (check_as first_edition f).number ≡ 0 → ((i : ℕ) → i < count_of f → HasFour f i → ⊥) → resealed_file f ring ≡ f
unfolding resealed_file again_piece
unchanged f ring z none = put_empty (piece_start f) (again_piece f ring) (count_of f) (retabled f) (λ i l. simp (ne_eqb _ _ (none i l))) ∙ t_same f z none
