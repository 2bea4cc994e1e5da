-- The offsets of the parts of a moved file: header, rows and bodies. By induction on the rows, k rows take k row widths, so
-- row i of the new table stands at its offset.
use Prim.Native.Nat.{ℕ, zero, suc, ◌+◌, ◌-◌, ◌*◌, ◌≤◌, ◌<◌}
use native.Mathlib.Nat.{mul-suc, mul-le-mul_left, eq-or-lt_of_le, le_of_suc-le-suc, not-suc-le-zero, mul-zero}
use native.Mathlib.Omega.{arith}
use mathlib.Core.Path.{◌≡◌, sym, ap, ap₂, ◌∙◌}
use mathlib.Core.List.{List, ◌++◌}
use mathlib.Core.Logic.{⊎_elim}
use lib.ListN.{length, take, drop, replicate, length-append, length-replicate, length-drop}
use lib.Seq.{take_all, drop_at}
use Rattle.block.specs.Bytes.{bytes}
use Rattle.block.proofs.Bytes.{length-bytes}
use Rattle.shift_format.specs.Part.{stretch}
use Rattle.shift_format.specs.Format.{row_start, rest_start, row_at}
use Rattle.shift_format.specs.Inside.{TableIn}
use Rattle.shift_format.proofs.Rows.{row_in, stretch-length}
use Rattle.shift_editions.specs.Files.{carried, moved_row, moved_rows, moved_header, moved_from}
use Rattle.shift_editions.proofs.Segments.{skip, in_first, in_second, at_front}

module _ (w v : ℕ) (f : List ℕ) (n : ℕ) (t : TableIn w f n) (broad : 32 ≤ v) where
  module _ (i : ℕ) (l : i < n) where
    abbrev job_part : List ℕ
    job_part = stretch f (row_start w i) 4

    abbrev zeros : List ℕ
    zeros = replicate (v - 32) 0

    abbrev field_part : List ℕ
    field_part = stretch f (rest_start w i) 4

    abbrev offset : List ℕ
    offset = bytes 4 (carried w v n (row_at w f i).ad_at)

    abbrev rest_part : List ℕ
    rest_part = stretch f (rest_start w i + 8) 20

    zeros-long : length zeros ≡ v - 32
    zeros-long = length-replicate (v - 32) 0

    offset-long : length offset ≡ 4
    offset-long = length-bytes 4 (carried w v n (row_at w f i).ad_at)

    job-long : length job_part ≡ 4
    job-long = stretch-length f (row_start w i) 4 (omega (arith, (row_in w f n i t l).fits, t.broad))

    fields-long : length field_part ≡ 4
    unfolding rest_start
    fields-long = stretch-length f (rest_start w i) 4 (omega (arith, (row_in w f n i t l).fits, t.broad))

    rest-long : length rest_part ≡ 20
    unfolding rest_start
    rest-long = stretch-length f (rest_start w i + 8) 20 (omega (arith, (row_in w f n i t l).fits, t.broad))

    -- the parts of the row
    pub row-long : length (moved_row w v f n i) ≡ v
    unfolding moved_row
    row-long =
        omega (
          arith,
          length-append job_part (zeros ++ (field_part ++ (offset ++ rest_part))),
          length-append zeros (field_part ++ (offset ++ rest_part)),
          length-append field_part (offset ++ rest_part),
          length-append offset rest_part,
          job-long,
          fields-long,
          rest-long,
          offset-long,
          zeros-long,
        )

    pub row-job : stretch (moved_row w v f n i) 0 4 ≡ job_part
    unfolding moved_row
    row-job = at_front job_part (zeros ++ (field_part ++ (offset ++ rest_part))) 4 job-long

    pub row-station : stretch (moved_row w v f n i) (4 + 0) (v - 32) ≡ zeros
    unfolding moved_row
    row-station =
        in_second job_part (zeros ++ (field_part ++ (offset ++ rest_part))) 4 0 (v - 32) job-long
        ∙ at_front zeros (field_part ++ (offset ++ rest_part)) (v - 32) zeros-long

    past : (k m : ℕ) → stretch (moved_row w v f n i) (v - 28 + k) m ≡ stretch (field_part ++ (offset ++ rest_part)) k m
    unfolding moved_row
    past k m =
        let q : v - 28 + k ≡ 4 + (v - 32 + k) = omega arith in
        ap (λ (j : ℕ). stretch (moved_row w v f n i) j m) q
        ∙ in_second job_part (zeros ++ (field_part ++ (offset ++ rest_part))) 4 (v - 32 + k) m job-long
        ∙ in_second zeros (field_part ++ (offset ++ rest_part)) (v - 32) k m zeros-long

    pub row-fields : stretch (moved_row w v f n i) (v - 28 + 0) 4 ≡ field_part
    row-fields = past 0 4 ∙ at_front field_part (offset ++ rest_part) 4 fields-long

    pub row-offset : stretch (moved_row w v f n i) (v - 28 + 4) 4 ≡ offset
    row-offset = past 4 4 ∙ in_second field_part (offset ++ rest_part) 4 0 4 fields-long ∙ at_front offset rest_part 4 offset-long

    pub row-rest : stretch (moved_row w v f n i) (v - 28 + 8) 20 ≡ rest_part
    row-rest =
        past 8 20 ∙ in_second field_part (offset ++ rest_part) 4 4 20 fields-long
        ∙ in_second offset rest_part 4 0 20 offset-long ∙ take_all 20 rest_part (omega (arith, rest-long))

  -- the rows
  pub rows_long : (k : ℕ) → k ≤ n → length (moved_rows w v f n k) ≡ v * k
  unfolding moved_rows
  rows_long zero l = sym (mul-zero v)
  rows_long (suc k) l =
      length-append (moved_rows w v f n k) (moved_row w v f n k)
      ∙ ap₂ (λ (a b : ℕ). a + b) (rows_long k (omega arith)) (row-long k l)
      ∙ sym (mul-suc v k)

  rows_at : (k i : ℕ) → i < k → k ≤ n → stretch (moved_rows w v f n k) (v * i) v ≡ moved_row w v f n i
  unfolding moved_rows
  rows_at zero i l h = absurd (not-suc-le-zero l)
  rows_at (suc k) i l h =
      ⊎_elim
      (λ q.
      let e : length (moved_rows w v f n k) ≡ v * i = rows_long k (omega arith) ∙ ap (λ (j : ℕ). v * j) (sym q) in
      ap (take v) (drop_at (moved_rows w v f n k) (moved_row w v f n k) (v * i) e)
      ∙ take_all v (moved_row w v f n k) (omega (arith, row-long k h))
      ∙ ap (moved_row w v f n) (sym q))
      (λ m. in_first (moved_rows w v f n k) (moved_row w v f n k) (v * i) v (omega (arith, rows_long k (omega arith), mul-suc v i, mul-le-mul_left v m))
      ∙ rows_at k i m (omega arith))
      (eq-or-lt_of_le (le_of_suc-le-suc l))

  module _ (e : ℕ) where
    pub header-long : length (moved_header e w v f n) ≡ 8
    unfolding moved_header
    header-long =
        let c = carried w v n (length f) in
        omega (
          arith,
          length-append (bytes 2 e) (bytes 2 n ++ bytes 4 c),
          length-append (bytes 2 n) (bytes 4 c),
          length-bytes 2 e,
          length-bytes 2 n,
          length-bytes 4 c,
        )

    pub file-row : (i : ℕ) → i < n → stretch (moved_from e w v f n) (row_start v i) v ≡ moved_row w v f n i
    unfolding moved_from row_start
    file-row i l =
        in_second (moved_header e w v f n) (moved_rows w v f n n ++ drop (row_start w n) f) 8 (v * i) v header-long
        ∙ in_first (moved_rows w v f n n) (drop (row_start w n) f) (v * i) v (omega (arith, rows_long n (omega arith), mul-suc v i, mul-le-mul_left v l))
        ∙ rows_at n i l (omega arith)

    -- the bodies stand after the rows, as they stood
    pub file-bodies : drop (row_start v n) (moved_from e w v f n) ≡ drop (row_start w n) f
    unfolding moved_from row_start
    file-bodies =
        skip (moved_header e w v f n) (moved_rows w v f n n ++ drop (row_start w n) f) 8 (v * n) header-long
        ∙ drop_at (moved_rows w v f n n) (drop (row_start w n) f) (v * n) (rows_long n (omega arith))

    pub file-long : length (moved_from e w v f n) ≡ carried w v n (length f)
    unfolding moved_from carried row_start
    file-long =
        let d = drop (row_start w n) f in
        omega (
          arith,
          length-append (moved_header e w v f n) (moved_rows w v f n n ++ d),
          length-append (moved_rows w v f n n) d,
          header-long,
          rows_long n (omega arith),
          length-drop (row_start w n) f,
        )
