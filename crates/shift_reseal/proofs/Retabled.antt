-- A table with 3 for 4: its rows are the same but for the suite, so a file that passes can be refused with 29 alone once it has the new suites.
use Prim.Native.Nat.{ℕ, zero, suc, ◌+◌, ◌-◌, ◌≤◌, ◌<◌}
use native.Mathlib.Decide.{dec_lt}
use native.Mathlib.Omega.{arith}
use mathlib.Core.Path.{◌≡◌, refl, sym, ap, ap₂, ◌∙◌}
use mathlib.Core.Bool.{Bool, true, false, not, ◌&&◌, cond, true≢false}
use mathlib.Core.List.{List, [], ◌∷◌}
use mathlib.Core.Logic.{inl, inr, ⊎_elim}
use lib.ListN.{length, get_or, take}
use lib.Seq.{ext_get_or}
use lib.Dec.{eqb, leb}
use borrow.Author.Tests.{le-ltb, eq-eqb, ne_eqb, eqb-true}
use Rattle.block.specs.Bytes.{same_bytes}
use Rattle.block.specs.Blocks.{filled}
use Rattle.cipher.specs.Cipher.{retired_suite, facts_of, is_suite, size_of, nonce_of}
use Rattle.shift_format.specs.declared.row.Row.{Row}
use Rattle.shift_format.specs.Format.{edition_of, count_of, total_of, first_edition, row_size, row_size_of, row_start, rest_start, row_at, nonce_start, nonce_at}
use Rattle.shift_format.specs.Format.{nonce_read_at, row_of, body_end}
use Rattle.status.specs.Answers.{answer}
use Rattle.shift_check.specs.Check.{not_above, bad_suite, bad_length, body_start, misplaced, unread_set, nonce_seen, bad_data, body_number, row_number, end_answer}
use Rattle.shift_check.specs.Check.{rows_from, head_number, check_between, check_as}
use Rattle.shift_format.specs.Inside.{TableIn}
use Rattle.shift_format.proofs.Rows.{row_broad, row-late, row_below, row_in, nonce_length}
use Rattle.shift_check.proofs.Sound.{Sound}
use Rattle.shift_check.proofs.Passed.{Passes, passes}
use Rattle.shift_check.proofs.Alike.{word_same}
use Rattle.shift_check.proofs.Searches.{first_same}
use Rattle.shift_check.proofs.Kept.{data_held}
use Rattle.shift_jobs.proofs.Changed.{stretch_at}
use Rattle.shift_draft.proofs.Puts.{Apart, Inside, Outside, where-is, all-length, all-outside, all-inside}
use Rattle.shift_draft.proofs.Rewritten.{body-late}
use Rattle.shift_draft.proofs.Back.{plain_file}
use Rattle.shift_reseal.specs.Files.{successor, new_suite, resuited, retabled}
use Rattle.shift_reseal.specs.Answers.{seen_from}

-- ---- the new suite

module _ (s : ℕ) where
  new-case : {A : Type 0} (of : ℕ → A) → of retired_suite ≡ of successor → of (new_suite s) ≡ of s
  unfolding new_suite
  new-case of q = suite-case (eqb s retired_suite) refl
    where
      suite-case : (b : Bool) → eqb s retired_suite ≡ b → of (cond b successor s) ≡ of s
      suite-case true e = sym q ∙ ap of (sym (eqb-true s retired_suite e))
      suite-case false e = refl

  -- block and nonce are as long as before, and it is one that we have
  pub size-new : size_of (new_suite s) ≡ size_of s
  unfolding size_of facts_of
  size-new = new-case size_of refl

  pub nonce-new : nonce_of (new_suite s) ≡ nonce_of s
  unfolding nonce_of facts_of
  nonce-new = new-case nonce_of refl

  is-new : is_suite (new_suite s) ≡ is_suite s
  unfolding is_suite
  is-new = new-case is_suite refl

  pub new-four : s ≡ retired_suite → new_suite s ≡ successor
  unfolding new_suite
  new-four q = simp (eq-eqb _ _ q)

  pub new-other : (s ≡ retired_suite → ⊥) → new_suite s ≡ s
  unfolding new_suite
  new-other n = simp (ne_eqb _ _ n)

  pub new-not : new_suite s ≡ retired_suite → ⊥
  unfolding new_suite
  new-not = suite-case (eqb s retired_suite) refl
    where
      suite-case : (b : Bool) → eqb s retired_suite ≡ b → cond b successor s ≡ retired_suite → ⊥
      suite-case true e q = let z : ◌≡◌ {A = ℕ} 3 4 = q in omega arith
      suite-case false e q = let z : true ≡ false = sym (eq-eqb s retired_suite q) ∙ e in true≢false z

-- the row with its new suite
abbrev pub with_suite : Row → Row
with_suite r = record { job = r.job; suite = new_suite r.suite; key = r.key; ad_len = r.ad_len; ad_at = r.ad_at; text_len = r.text_len }

end_new : (r : Row) → body_end (with_suite r) ≡ body_end r
unfolding body_end
end_new r = ap (λ (k : ℕ). r.ad_at + r.ad_len + r.text_len + k) (size-new r.suite)

-- ---- bytes that have the file's table, with the new suites

module _ (f l : List ℕ) (n : ℕ) (tf : TableIn (row_size_of f) f n) (tl : TableIn (row_size_of f) l n)
    (agree : (k : ℕ) → k < row_start (row_size_of f) n → get_or l k 0 ≡ get_or f k 0) where
  abbrev w : ℕ
  w = row_size_of f

  broad : 32 ≤ w
  broad = row_broad (edition_of f)

  abbrev g : List ℕ
  g = resuited f n l

  abbrev piece : ℕ → List ℕ
  piece i = new_suite (row_of f i).suite ∷ []

  place : (i : ℕ) → rest_start w i + 28 ≡ row_start w i + w
  unfolding rest_start
  place i = omega (arith, broad)

  suites-apart : Apart (rest_start w) piece n l
  suites-apart = record {
    fits = λ i b. omega (arith, place i, row_below w i n b, tl.fits);
    after = λ i j b m. omega (arith, place i, row_below w i j b, place j, broad);
  }

  pub new-length : length g ≡ length l
  unfolding resuited
  new-length = all-length (rest_start w) piece n l suites-apart n (omega arith)

  pub new-kept : (k : ℕ) → ((i : ℕ) → i < n → (k ≡ rest_start w i → ⊥)) → get_or g k 0 ≡ get_or l k 0
  unfolding resuited
  new-kept k o =
      all-outside (rest_start w) piece n l suites-apart n (omega arith) k
      (λ i b. elim (dec_lt k (rest_start w i)) [
        | yes c ↦ inl c
        | no c ↦ inr (elim (dec_lt (rest_start w i) k) [
          | yes d ↦ omega arith
          | no d ↦ absurd (o i b (omega arith))
        ])
      ])

  -- the header, and what stands after the table
  head-kept : (k : ℕ) → k < 8 → get_or g k 0 ≡ get_or l k 0
  head-kept k b = new-kept k (λ i c q. omega (arith, place i, row-late w i, broad))

  body_kept : (k : ℕ) → row_start w n ≤ k → get_or g k 0 ≡ get_or l k 0
  body_kept k b = new-kept k (λ i c q. omega (arith, place i, row_below w i n c))

  -- the edition stands in the header, so rows are as long unchanged
  pub new-edition : edition_of g ≡ edition_of f
  new-edition = word_same g f 2 0 (λ k b c. head-kept k (omega arith) ∙ agree k (omega (arith, row-late w n)))

  new-row-size : row_size_of g ≡ w
  new-row-size = ap row_size new-edition

  -- a row's bytes but for the suite
  row_kept : (i : ℕ) → i < n → (k : ℕ) → row_start w i ≤ k → k < row_start w i + w → (k ≡ rest_start w i → ⊥) → get_or g k 0 ≡ get_or f k 0
  row_kept i b k c d ne =
      new-kept k (λ j m q. elim (dec_lt j i) [
        | yes e ↦ omega (arith, place j, row_below w j i e)
        | no e ↦ elim (dec_lt i j) [
          | yes h ↦ omega (arith, place j, row_below w i j h, broad)
          | no h ↦ let s : j ≡ i = omega arith in ne (q ∙ ap (rest_start w) s)
        ]
      ])
      ∙ agree k (omega (arith, row_below w i n b))

  pub suite-new : (i : ℕ) → i < n → get_or g (rest_start w i) 0 ≡ new_suite (row_of f i).suite
  unfolding resuited
  suite-new i b =
      let q : rest_start w i ≡ rest_start w i + 0 = omega arith in
      ap (λ (k : ℕ). get_or g k 0) q ∙ all-inside (rest_start w) piece n l suites-apart n (omega arith) i b 0 (omega arith)

  row_at_lem : (i : ℕ) → i < n → row_at w g i ≡ with_suite (row_of f i)
  unfolding row_at
  row_at_lem i b =
      let q = rest_start w i in
      let p = place i in
      let v = broad in
      let job = word_same g f 4 (row_start w i) (λ k c d. row_kept i b k (omega arith) (omega arith) (λ s. omega arith)) in
      let key = row_kept i b (q + 1) (omega arith) (omega arith) (λ s. omega arith) in
      let ad = word_same g f 2 (q + 2) (λ k c d. row_kept i b k (omega arith) (omega arith) (λ s. omega arith)) in
      let at = word_same g f 4 (q + 4) (λ k c d. row_kept i b k (omega arith) (omega arith) (λ s. omega arith)) in
      let len = word_same g f 4 (q + 8) (λ k c d. row_kept i b k (omega arith) (omega arith) (λ s. omega arith)) in
      let suite = suite-new i b in
      λ t. record { job = job t; suite = suite t; key = key t; ad_len = ad t; ad_at = at t; text_len = len t }

  pub row_new : (i : ℕ) → i < n → row_of g i ≡ with_suite (row_of f i)
  row_new i b = ap (λ (v : ℕ). row_at v g i) new-row-size ∙ row_at_lem i b

  table_at : TableIn w g n
  table_at = record { broad = tl.broad; fits = omega (arith, tl.fits, new-length) }

  pub new-table : TableIn (row_size_of g) g n
  new-table = rw new-row-size table_at

  nonce_at_lem : (i : ℕ) → i < n → nonce_at w g i ≡ nonce_at w f i
  unfolding nonce_at nonce_start
  nonce_at_lem i b =
      let lg : length (nonce_at w g i) ≡ 16 = nonce_length w g i (row_in w g n i table_at b) in
      ext_get_or 0 (nonce_at w g i) (nonce_at w f i) (lg ∙ sym (nonce_length w f i (row_in w f n i tf b)))
      (λ k c.
      let m : k < 16 = omega (arith, lg) in
      stretch_at g (nonce_start w i) 16 k m
      ∙ row_kept i b (nonce_start w i + k) (omega (arith, place i, broad)) (omega (arith, place i)) (λ s. omega arith)
      ∙ sym (stretch_at f (nonce_start w i) 16 k m))

  pub nonce-kept : (i : ℕ) → i < n → nonce_at (row_size_of g) g i ≡ nonce_at w f i
  nonce-kept i b = ap (λ (v : ℕ). nonce_at v g i) new-row-size ∙ nonce_at_lem i b

  read_at : (i : ℕ) → i < n → nonce_read_at w g i ≡ nonce_read_at w f i
  read_at i b =
      ap₂ (λ (r : Row) (s : List ℕ). take (nonce_of r.suite) s) (row_at_lem i b) (nonce_at_lem i b)
      ∙ ap (λ (k : ℕ). take k (nonce_at w f i)) (nonce-new (row_of f i).suite)

  -- 34 says of a row what it said
  unread-at : (i : ℕ) → i < n → unread_set w g i ≡ unread_set w f i
  unfolding unread_set
  unread-at i b = ap₂ (λ (s t : List ℕ). not (same_bytes s (filled t))) (nonce_at_lem i b) (read_at i b)

  pub unread-kept : (i : ℕ) → i < n → unread_set (row_size_of g) g i ≡ unread_set w f i
  unread-kept i b = ap (λ (v : ℕ). unread_set v g i) new-row-size ∙ unread-at i b

-- ---- a file that passes, with the new suites

module _ (f : List ℕ) (z : (check_as first_edition f).number ≡ 0) where
  abbrev n : ℕ
  n = count_of f

  abbrev v : ℕ
  v = row_size_of f

  P : Passes first_edition first_edition f
  P = passes first_edition first_edition f z

  pub tab : TableIn v f n
  tab = P.head.table

  abbrev T : List ℕ
  T = retabled f

  pub t-length : length T ≡ length f
  t-length = new-length f f n tab tab (λ k b. refl)

  pub t-row : (i : ℕ) → i < n → row_of T i ≡ with_suite (row_of f i)
  t-row = row_new f f n tab tab (λ k b. refl)

  pub t-nonce : (i : ℕ) → i < n → nonce_at (row_size_of T) T i ≡ nonce_at v f i
  t-nonce = nonce-kept f f n tab tab (λ k b. refl)

  pub t-table : TableIn (row_size_of T) T n
  t-table = new-table f f n tab tab (λ k b. refl)

  pub t-unread : (i : ℕ) → i < n → unread_set (row_size_of T) T i ≡ unread_set v f i
  t-unread = unread-kept f f n tab tab (λ k b. refl)

  pub t-head : (k : ℕ) → k < 8 → get_or T k 0 ≡ get_or f k 0
  t-head = head-kept f f n tab tab (λ k b. refl)

  pub t-body : (k : ℕ) → row_start v n ≤ k → get_or T k 0 ≡ get_or f k 0
  t-body = body_kept f f n tab tab (λ k b. refl)

  pub t-count : count_of T ≡ n
  t-count = word_same T f 2 2 (λ k a b. t-head k (omega arith))

  -- every byte but the suite of a suite 4 row
  pub t-kept : (k : ℕ) → ((i : ℕ) → i < n → (row_of f i).suite ≡ retired_suite → k ≡ rest_start v i → ⊥) → get_or T k 0 ≡ get_or f k 0
  unfolding row_at
  t-kept k o =
      ⊎_elim
      (λ (x : Inside (rest_start v) (piece f f n tab tab (λ k b. refl)) n k).
      let i = x.at in
      let q : k ≡ rest_start v i = omega (arith, x.from, x.to) in
      ap (λ (j : ℕ). get_or T j 0) q
      ∙ suite-new f f n tab tab (λ k b. refl) i x.below
      ∙ new-other (row_of f i).suite (λ s. o i x.below s q)
      ∙ ap (λ (j : ℕ). get_or f j 0) (sym q))
      (λ (x : Outside (rest_start v) (piece f f n tab tab (λ k b. refl)) n k).
      new-kept f f n tab tab (λ k b. refl) k (λ i b q. ⊎_elim (λ c. omega arith) (λ c. omega arith) (x i b)))
      (where-is (rest_start v) (piece f f n tab tab (λ k b. refl)) n k)

  t-edition : edition_of T ≡ edition_of f
  t-edition = new-edition f f n tab tab (λ k b. refl)

  -- the check reads the rows of the new table at the old one's row size
  t-row-size : row_size_of T ≡ v
  t-row-size = ap row_size t-edition

  t-at : (i : ℕ) → i < n → row_at v T i ≡ with_suite (row_of f i)
  t-at = row_at_lem f f n tab tab (λ k b. refl)

  start-kept : (i : ℕ) → i ≤ n → body_start v T n i ≡ body_start v f n i
  unfolding body_start
  start-kept zero h = refl
  start-kept (suc i) h =
      ap (λ (r : Row). cond (eqb (suc i) 0) (row_start v n) (body_end r)) (t-at (suc i - 1) (omega arith))
      ∙ ap (λ (k : ℕ). cond (eqb (suc i) 0) (row_start v n) k) (end_new (row_of f (suc i - 1)))

  module _ (i : ℕ) (l : i < n) where
    s : Sound v f n i
    s = P.walk.rows i l

    order-new : not_above v T i ≡ false
    unfolding not_above
    order-new = ap₂ (λ (a b : Row). not (eqb i 0) && leb a.job b.job) (t-at i l) (t-at (i - 1) (omega arith)) ∙ s.order

    suit-new : bad_suite (row_at v T i) ≡ false
    unfolding bad_suite
    suit-new = simp (t-at i l, is-new (row_of f i).suite, s.suit.suite-is, le-ltb _ _ s.suit.key-high)

    length-new : bad_length (row_at v T i) ≡ false
    unfolding bad_length
    length-new = let z = s.size in simp (t-at i l, le-ltb _ _ z.ad-low, le-ltb _ _ z.ad-high, le-ltb _ _ z.len-high)

    place-new : misplaced v T n i ≡ false
    unfolding misplaced
    place-new = simp (t-at i l, end_new (row_of f i), start-kept i (omega arith), t-length, eq-eqb _ _ s.place.starts, le-ltb _ _ s.place.ends)

    data-new : bad_data T (row_at v T i) ≡ false
    unfolding bad_data
    data-new =
        let b = body-late first_edition f plain_file z i l in
        ap (bad_data T) (t-at i l) ∙ data_held f T v i s.held (λ k a c. t-body k (omega (arith, b)))

    number-new : row_number v T n i ≡ cond (nonce_seen v T i) 29 0
    unfolding row_number body_number
    number-new = simp (order-new, suit-new, length-new, place-new, unread-at f f n tab tab (λ k b. refl) i l, s.spare, data-new)

  t-end : end_answer v T n ≡ answer 0 0
  unfolding end_answer
  t-end = simp (eq-eqb _ _ (start-kept n (omega arith) ∙ P.walk.ends ∙ sym t-length))

  t-zero : head_number first_edition first_edition T ≡ 0
  unfolding head_number
  t-zero =
      let t : total_of T ≡ total_of f = word_same T f 4 4 (λ k a b. t-head k (omega arith)) in
      simp (t-length, t-edition, t, t-count) P.zero

  t-rows : rows_from v T n 0 ≡ seen_from T n 0
  unfolding rows_from seen_from
  t-rows =
      first_same _ _ _ _ _ _ (n - 0) 0
      (λ j l. ap (λ (m : ℕ). not (eqb m 0)) (number-new j (omega arith)) ∙ some (nonce_seen v T j) ∙ ap (λ (u : ℕ). nonce_seen u T j) (sym t-row-size))
      (λ j l e. ap (λ (m : ℕ). answer m j) (seen (nonce_seen v T j) (row_number v T n j) (number-new j (omega arith)) e))
      t-end
    where
      some : (b : Bool) → not (eqb (cond b 29 0) 0) ≡ b
      some true = refl
      some false = refl

      seen : (b : Bool) (m : ℕ) → m ≡ cond b 29 0 → not (eqb m 0) ≡ true → m ≡ 29
      seen true m q e = q
      seen false m q e = absurd (let z : ◌≡◌ {A = ℕ} 0 1 = ap (λ (b : Bool). cond b 1 0) (sym (ap (λ (k : ℕ). not (eqb k 0)) q) ∙ e) in omega arith)

  -- the theorem: the check of the file with the new suites is the search for a clash
  pub clash-of-check : check_as first_edition T ≡ seen_from T n 0
  unfolding check_between
  clash-of-check = simp (t-zero, t-count, t-row-size) t-rows

  -- no suite 4 row: nothing changes
  pub t_same : ((i : ℕ) → i < n → (row_of f i).suite ≡ retired_suite → ⊥) → T ≡ f
  t_same none = ext_get_or 0 T f t-length (λ k b. t-kept k (λ i l q e. none i l q))
