-- Files that agree on some bytes agree on what is read from them: numbers, rows, nonces, the header, a row's number.
use Prim.Native.Nat.{ℕ, zero, suc, ◌+◌, ◌-◌, ◌≤◌, ◌<◌, min}
use native.Mathlib.Omega.{arith}
use mathlib.Core.Path.{◌≡◌, refl, sym, ap, ap₂, ◌∙◌}
use mathlib.Core.Bool.{Bool, true, false, ◌||◌, ◌&&◌, not, cond}
use lib.Dec.{eqb, leb}
use mathlib.Core.List.{List, ◌∷◌}
use lib.ListN.{length, get_or, take, drop, length-take, length-drop}
use lib.Seq.{ext_get_or, get_or-take, get_or-drop}
use Rattle.block.specs.Bytes.{value, part, word, same_bytes}
use Rattle.block.specs.Blocks.{filled}
use Rattle.cipher.specs.Cipher.{nonce_of}
use Rattle.shift_format.specs.declared.row.Row.{Row}
use Rattle.shift_check.specs.Search.{any_below}
use Rattle.shift_format.specs.Part.{stretch}
use Rattle.shift_format.specs.Format.{edition_of, count_of, total_of, row_size_of, row_start, rest_start, row_at, nonce_start, nonce_at, nonce_read_at, body_end}
use Rattle.shift_check.specs.Check.{outside, not_above, bad_suite, bad_length, body_start, misplaced, unread_set, clash, nonce_seen, bad_data, body_number}
use Rattle.shift_check.specs.Check.{row_number, head_number}
use Rattle.shift_format.proofs.Rows.{row_below, row-late}

pub any_same : (p q : ℕ → Bool) (n : ℕ) → ((k : ℕ) → k < n → p k ≡ q k) → any_below p n ≡ any_below q n
unfolding any_below
any_same p q zero h = refl
any_same p q (suc n) h = ap₂ (λ (a b : Bool). a || b) (h n (omega arith)) (any_same p q n (λ k l. h k (omega arith)))

abbrev ladder : Bool → Bool → Bool → Bool → Bool → Bool → Bool → ℕ
ladder a b c d s e x = cond a 25 (cond b 26 (cond c 27 (cond d 28 (cond s 34 (cond e 29 (cond x 30 0))))))

ladder_last : (a b c d s e x y : Bool) → ladder a b c d s e y ≡ 0 → ladder a b c d s e x ≡ cond x 30 0
ladder_last true b c d s e x y z = absurd (omega arith)
ladder_last false true c d s e x y z = absurd (omega arith)
ladder_last false false true d s e x y z = absurd (omega arith)
ladder_last false false false true s e x y z = absurd (omega arith)
ladder_last false false false false true e x y z = absurd (omega arith)
ladder_last false false false false false true x y z = absurd (omega arith)
ladder_last false false false false false false x y z = refl

module _ (f g : List ℕ) where
  -- the bytes from `at` on, n of them, are the same
  abbrev pub Agree : ℕ → ℕ → Type 0
  Agree at n = (k : ℕ) → at ≤ k → k < at + n → get_or f k 0 ≡ get_or g k 0

  part_same : (n at : ℕ) → Agree at n → part n f at ≡ part n g at
  part_same zero at h = refl
  part_same (suc n) at h = ap₂ (λ (x : ℕ) (l : List ℕ). x ∷ l) (h at (omega arith) (omega arith))
      (part_same n (at + 1) (λ k l m. h k (omega arith) (omega arith)))

  pub word_same : (n at : ℕ) → Agree at n → word n f at ≡ word n g at
  word_same n at h = ap value (part_same n at h)

  module _ (long : length f ≡ length g) where
    pub stretch-same : (at n : ℕ) → Agree at n → stretch f at n ≡ stretch g at n
    stretch-same at n h =
        let lf : (x : List ℕ) → length (stretch x at n) ≡ min n (length x - at) = λ x. length-take n (drop at x) ∙ ap (min n) (length-drop at x) in
        ext_get_or 0 (stretch f at n) (stretch g at n) (lf f ∙ ap (λ (k : ℕ). min n (k - at)) long ∙ sym (lf g))
        (λ k l.
        let m : k < n = omega (arith, lf f) in
        get_or-take n (drop at f) k 0 m ∙ get_or-drop at f k 0 ∙ h (at + k) (omega arith) (omega arith)
        ∙ sym (get_or-take n (drop at g) k 0 m ∙ get_or-drop at g k 0))

    -- the header from its row count on, and the table of n rows
    abbrev pub AgreeTable : ℕ → ℕ → Type 0
    AgreeTable w n = (k : ℕ) → 2 ≤ k → k < row_start w n → get_or f k 0 ≡ get_or g k 0

    -- they are the same; the editions may differ
    module _ (w n : ℕ) (broad : 32 ≤ w) (table : AgreeTable w n) where
      agree : (at m : ℕ) → 2 ≤ at → at + m ≤ row_start w n → Agree at m
      agree at m b h k l u = table k (omega arith) (omega arith)

      pub row_same : (i : ℕ) → i < n → row_at w f i ≡ row_at w g i
      unfolding row_at rest_start
      row_same i h =
          let b = row_below w i n h in
          let z = row-late w i in
          let q = rest_start w i in
          let job = word_same 4 (row_start w i) (agree (row_start w i) 4 (omega arith) (omega arith)) in
          let suite = agree q 1 (omega arith) (omega arith) q (omega arith) (omega arith) in
          let key = agree (q + 1) 1 (omega arith) (omega arith) (q + 1) (omega arith) (omega arith) in
          let ad = word_same 2 (q + 2) (agree (q + 2) 2 (omega arith) (omega arith)) in
          let at = word_same 4 (q + 4) (agree (q + 4) 4 (omega arith) (omega arith)) in
          let len = word_same 4 (q + 8) (agree (q + 8) 4 (omega arith) (omega arith)) in
          λ t. record { job = job t; suite = suite t; key = key t; ad_len = ad t; ad_at = at t; text_len = len t }

      pub nonce-same : (i : ℕ) → i < n → nonce_at w f i ≡ nonce_at w g i
      unfolding nonce_at nonce_start rest_start
      nonce-same i h = stretch-same (nonce_start w i) 16 (agree (nonce_start w i) 16 (omega (arith, row-late w i)) (omega (arith, row_below w i n h)))

      read_same : (i : ℕ) → i < n → nonce_read_at w f i ≡ nonce_read_at w g i
      read_same i h = ap₂ (λ (r : Row) (s : List ℕ). take (nonce_of r.suite) s) (row_same i h) (nonce-same i h)

      unread-same : (i : ℕ) → i < n → unread_set w f i ≡ unread_set w g i
      unfolding unread_set
      unread-same i h = ap₂ (λ (s t : List ℕ). not (same_bytes s (filled t))) (nonce-same i h) (read_same i h)

      pub start-same : (i : ℕ) → i ≤ n → body_start w f n i ≡ body_start w g n i
      unfolding body_start
      start-same zero h = refl
      start-same (suc i) h = ap (λ (r : Row). cond (eqb (suc i) 0) (row_start w n) (body_end r)) (row_same (suc i - 1) (omega arith))

      above_same : (i : ℕ) → i < n → not_above w f i ≡ not_above w g i
      unfolding not_above
      above_same i h = ap₂ (λ (r q : Row). not (eqb i 0) && leb r.job q.job) (row_same i h) (row_same (i - 1) (omega arith))

      misplaced-same : (i : ℕ) → i < n → misplaced w f n i ≡ misplaced w g n i
      unfolding misplaced
      misplaced-same i h = simp (row_same i h, start-same i (omega arith), long)

      seen_same : (i : ℕ) → i < n → nonce_seen w f i ≡ nonce_seen w g i
      unfolding nonce_seen clash
      seen_same i h = any_same (clash w f i) (clash w g i) i (λ k l. clash-same k (omega arith))
        where
          clash-same : (k : ℕ) → k < n → clash w f i k ≡ clash w g i k
          clash-same k l =
              ap₂ (λ (r q : Row). eqb r.suite q.suite && (eqb r.key q.key && same_bytes (nonce_read_at w f i) (nonce_read_at w f k))) (row_same i h)
              (row_same k l)
              ∙ ap₂ (λ (s t : List ℕ). eqb (row_at w g i).suite (row_at w g k).suite && (eqb (row_at w g i).key (row_at w g k).key && same_bytes s t))
              (read_same i h) (read_same k l)

      -- of a row that passes in g, only 30 is left in f
      pub row-number-last : (i : ℕ) → i < n → row_number w g n i ≡ 0 → row_number w f n i ≡ cond (bad_data f (row_at w g i)) 30 0
      unfolding row_number body_number
      row-number-last i h z =
          simp (above_same i h, row_same i h, misplaced-same i h, unread-same i h, seen_same i h)
          (ladder_last (not_above w g i) (bad_suite (row_at w g i)) (bad_length (row_at w g i)) (misplaced w g n i) (unread_set w g i) (nonce_seen w g i)
          (bad_data f (row_at w g i)) (bad_data g (row_at w g i)) z)

      pub count_same : count_of f ≡ count_of g
      unfolding row_start
      count_same = word_same 2 2 (agree 2 2 (omega arith) (omega arith))

      pub total-same : total_of f ≡ total_of g
      unfolding row_start
      total-same = word_same 4 4 (agree 4 4 (omega arith) (omega arith))

      -- 20 to 24, where both editions are taken or neither, and their rows are of one size
      pub head-same : (a b c d : ℕ) → outside a b (edition_of f) ≡ outside c d (edition_of g) → row_size_of f ≡ row_size_of g → head_number a b f ≡ head_number c d g
      unfolding head_number
      head-same a b c d o q = simp (long, o, count_same, total-same, q)
