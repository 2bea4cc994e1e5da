-- A moved file passes the full check if the file did. Each row is read back with its offset carried, so every test of a row,
-- and of two neighbouring rows, gives on the moved file what it gave on the file.
use Prim.Native.Nat.{ℕ, zero, suc, ◌-◌, ◌^◌, ◌≤◌, ◌<◌}
use native.Mathlib.Omega.{arith}
use mathlib.Core.Path.{◌≡◌, sym, ap, ap₂, ◌∙◌}
use mathlib.Core.Bool.{false, ◌||◌, ◌&&◌, not}
use mathlib.Core.List.{List}
use lib.ListN.{length, take}
use lib.Dec.{eqb, leb, eqb-suc-zero}
use borrow.Author.Tests.{eq-eqb, le-ltb}
use Rattle.block.specs.Bytes.{same_bytes}
use Rattle.block.specs.Blocks.{filled}
use Rattle.cipher.specs.Cipher.{nonce_of}
use Rattle.shift_format.specs.declared.row.Row.{Row}
use Rattle.shift_format.specs.Format.{edition_of, count_of, total_of, row_size, row_size_of, row_start, row_at, nonce_at, nonce_read_at, body_end}
use Rattle.status.specs.Answers.{answer}
use Rattle.shift_check.specs.Check.{outside, not_above, bad_suite, bad_length, body_start, misplaced, unread_set, clash, nonce_seen, bad_data, body_number, row_number}
use Rattle.shift_check.specs.Check.{end_answer, rows_from, head_number, check_between, check_as}
use Rattle.shift_format.specs.Inside.{TableIn}
use Rattle.shift_check.proofs.Searches.{first-none}
use Rattle.shift_check.proofs.Passed.{Walked}
use Rattle.shift_check.proofs.Bodies.{after_table}
use Rattle.shift_check.proofs.Alike.{any_same}
use Rattle.shift_check.proofs.Kept.{taken}
use Rattle.shift_editions.specs.Files.{carried, moved_from}
use Rattle.shift_editions.proofs.Segments.{word-from, byte-from}
use Rattle.shift_editions.proofs.Laid.{file-long}
use Rattle.shift_editions.proofs.Kept.{long as eight, table-in, edition-is, count-is, total-is, row_is, nonce-is, body-from}

-- rows without fault and a right end
rows_pass : (w : ℕ) (f : List ℕ) (n : ℕ) → ((i : ℕ) → i < n → row_number w f n i ≡ 0) → body_start w f n n ≡ length f → rows_from w f n 0 ≡ answer 0 0
unfolding rows_from end_answer
rows_pass w f n zeros ends = first-none _ _ _ n (λ j l. ap (λ (m : ℕ). not (eqb m 0)) (zeros j l)) ∙ simp (eq-eqb _ _ ends)

module _ (e w v : ℕ) (f : List ℕ) (n : ℕ) (t : TableIn w f n) (broad : 32 ≤ v) (h : Walked w f n) (small : carried w v n (length f) < 256 ^ 4) where
  abbrev file : List ℕ
  file = moved_from e w v f n

  pub low : (i : ℕ) → i < n → row_start w n ≤ (row_at w f i).ad_at
  low i l = omega (arith, after_table w f n h i (omega arith), (h.rows i l).place.starts)

  at_small : (i : ℕ) → i < n → carried w v n (row_at w f i).ad_at < 256 ^ 4
  unfolding carried body_end
  at_small i l = omega (arith, (h.rows i l).place.ends)

  -- the row, with its offset carried
  abbrev shifted : Row → Row
  shifted r = record { job = r.job; suite = r.suite; key = r.key; ad_len = r.ad_len; ad_at = carried w v n r.ad_at; text_len = r.text_len }

  pub row : (i : ℕ) → i < n → row_at v file i ≡ shifted (row_at w f i)
  row i l = row_is e w v f n t broad i l (at_small i l)

  pub job : (i : ℕ) → i < n → (row_at v file i).job ≡ (row_at w f i).job
  job i l = ap (λ (r : Row). r.job) (row i l)

  suite : (i : ℕ) → i < n → (row_at v file i).suite ≡ (row_at w f i).suite
  suite i l = ap (λ (r : Row). r.suite) (row i l)

  key : (i : ℕ) → i < n → (row_at v file i).key ≡ (row_at w f i).key
  key i l = ap (λ (r : Row). r.key) (row i l)

  pub nonce : (i : ℕ) → i < n → nonce_at v file i ≡ nonce_at w f i
  nonce i l = nonce-is e w v f n t broad i l

  pub reads : (i : ℕ) → i < n → nonce_read_at v file i ≡ nonce_read_at w f i
  reads i l = ap₂ (λ (s : ℕ) (x : List ℕ). take (nonce_of s) x) (suite i l) (nonce i l)

  above_same : (i : ℕ) → i < n → not_above v file i ≡ not_above w f i
  unfolding not_above
  above_same i l = ap₂ (λ (a b : ℕ). not (eqb i 0) && leb a b) (job i l) (job (i - 1) (omega arith))

  suite-same : (i : ℕ) → i < n → bad_suite (row_at v file i) ≡ bad_suite (row_at w f i)
  unfolding bad_suite
  suite-same i l = ap bad_suite (row i l)

  length-same : (i : ℕ) → i < n → bad_length (row_at v file i) ≡ bad_length (row_at w f i)
  unfolding bad_length
  length-same i l = ap bad_length (row i l)

  -- ends and starts are carried
  end_is : (i : ℕ) → i < n → body_end (row_at v file i) ≡ carried w v n (body_end (row_at w f i))
  unfolding body_end carried
  end_is i l = ap body_end (row i l) ∙ omega (arith, low i l)

  start_is : (i : ℕ) → i ≤ n → body_start v file n i ≡ carried w v n (body_start w f n i)
  unfolding body_start carried
  start_is zero l = omega arith
  start_is (suc i) l = let s : suc i - 1 ≡ i = omega arith in simp (eqb-suc-zero, s) (end_is i l)

  misplaced-false : (x : ℕ) (g : List ℕ) (i : ℕ) → (row_at x g i).ad_at ≡ body_start x g n i → body_end (row_at x g i) ≤ length g → misplaced x g n i ≡ false
  unfolding misplaced
  misplaced-false x g i a b = simp (eq-eqb _ _ a, le-ltb _ _ b)

  place_same : (i : ℕ) → i < n → misplaced v file n i ≡ misplaced w f n i
  unfolding carried
  place_same i l =
      let p = (h.rows i l).place in
      misplaced-false v file i
      (ap (λ (r : Row). r.ad_at) (row i l) ∙ ap (carried w v n) p.starts ∙ sym (start_is i (omega arith)))
      (omega (arith, end_is i l, file-long w v f n t broad e, p.ends))
      ∙ sym (misplaced-false w f i p.starts p.ends)

  unread-same : (i : ℕ) → i < n → unread_set v file i ≡ unread_set w f i
  unfolding unread_set
  unread-same i l = ap₂ (λ (s x : List ℕ). not (same_bytes s (filled x))) (nonce i l) (reads i l)

  clash-same : (i k : ℕ) → i < n → k < n → clash v file i k ≡ clash w f i k
  unfolding clash
  clash-same i k l m = simp (suite i l, suite k m, key i l, key k m, nonce i l, nonce k m)

  seen_same : (i : ℕ) → i < n → nonce_seen v file i ≡ nonce_seen w f i
  unfolding nonce_seen
  seen_same i l = any_same (clash v file i) (clash w f i) i (λ k m. clash-same i k l (omega arith))

  data-same : (i : ℕ) → i < n → bad_data file (row_at v file i) ≡ bad_data f (row_at w f i)
  unfolding bad_data
  data-same i l =
      let r = row_at w f i in
      let d = body-from e w v f n t broad r.ad_at (low i l) in
      ap (bad_data file) (row i l)
      ∙ ap₂ (λ (a b : ℕ). not (eqb a r.job) || not (eqb b 1 || eqb b 2)) (word-from f file 4 (carried w v n r.ad_at) r.ad_at d)
      (byte-from f file (carried w v n r.ad_at) r.ad_at 4 d)

  number_same : (i : ℕ) → i < n → row_number v file n i ≡ row_number w f n i
  unfolding row_number body_number
  number_same i l = simp (above_same i l, suite-same i l, length-same i l, place_same i l, unread-same i l, seen_same i l, data-same i l)

  rows-zero : rows_from v file n 0 ≡ answer 0 0
  rows-zero =
      rows_pass v file n (λ i l. number_same i l ∙ h.zeros i l)
      (start_is n (omega arith) ∙ ap (carried w v n) h.ends ∙ sym (file-long w v f n t broad e))

  module _ (ed : e < 256 ^ 2) (few : n ≤ 512) (long : length file ≤ 1048576) where
    edition : edition_of file ≡ e
    edition = edition-is e w v f n t broad ed

    count : count_of file ≡ n
    count = count-is e w v f n t broad (omega (arith, few))

    total : total_of file ≡ length file
    total = total-is e w v f n t broad small ∙ sym (file-long w v f n t broad e)

    own-taken : outside e e (edition_of file) ≡ false
    own-taken = taken e e (edition_of file) (omega (arith, edition)) (omega (arith, edition))

    head_zero : row_size e ≡ v → head_number e e file ≡ 0
    unfolding head_number
    head_zero q =
        let a : 8 ≤ length file = eight e w v f n t broad in
        let c : count_of file ≤ 512 = omega (arith, count, few) in
        let row_size_lem : row_size_of file ≡ v = ap row_size edition ∙ q in
        let d : row_start (row_size_of file) (count_of file) ≤ length file = rw (row_size_lem, count) (table-in e w v f n t broad).fits in
        simp (le-ltb _ _ a, le-ltb _ _ long, own-taken, le-ltb _ _ c, eq-eqb _ _ total, le-ltb _ _ d)

    pub file-passes : row_size e ≡ v → check_as e file ≡ answer 0 0
    unfolding check_between
    file-passes q =
        let row_size_lem : row_size_of file ≡ v = ap row_size edition ∙ q in
        simp (head_zero q, row_size_lem, count) rows-zero
