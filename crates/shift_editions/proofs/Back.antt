-- A file that is moved to the other edition and back is the same file, byte for byte: header, every row and the bodies are
-- each written back as they were read.
use Prim.Native.Nat.{ℕ, zero, suc, ◌+◌, ◌-◌, ◌*◌, ◌^◌, ◌≤◌, ◌<◌}
use native.Mathlib.Nat.{mul-suc, mul-zero, add_assoc}
use native.Mathlib.Omega.{arith}
use mathlib.Core.Path.{◌≡◌, sym, ap, ap₂, ◌∙◌}
use mathlib.Core.List.{List, ◌++◌}
use lib.ListN.{length, take, drop, replicate, take-append-drop}
use lib.Seq.{drop-drop}
use Rattle.block.specs.Bytes.{AllBytes, bytes}
use Rattle.block.proofs.Bytes.{unpack}
use Rattle.shift_format.specs.declared.row.Row.{Row}
use Rattle.shift_format.specs.Part.{stretch}
use Rattle.shift_format.specs.Format.{edition_of, count_of, total_of, row_start, rest_start, row_at}
use Rattle.shift_format.specs.Inside.{TableIn}
use Rattle.shift_format.proofs.Rows.{row_in}
use Rattle.shift_editions.specs.Files.{carried, moved_row, moved_rows, moved_header, moved_from}
use Rattle.shift_format.proofs.Parts.{join}
use Rattle.shift_editions.proofs.Laid.{file-bodies, file-long}
use Rattle.shift_editions.proofs.Kept.{job-part, field-part, rest_part, row_is, carried_back}

-- what a file must say of itself to come back
pub record Whole (w v : ℕ) (f : List ℕ) (n : ℕ) : Type 0 where
  pub bytes : AllBytes f
  pub table : TableIn w f n
  pub count : count_of f ≡ n
  pub total : total_of f ≡ length f
  pub behind : (i : ℕ) → i < n → row_start w n ≤ (row_at w f i).ad_at
  pub small : (i : ℕ) → i < n → carried w v n (row_at w f i).ad_at < 256 ^ 4
  pub station : (i : ℕ) → i < n → stretch f (row_start w i + 4) (w - 32) ≡ replicate (w - 32) 0

module _ (e w v : ℕ) (f : List ℕ) (n : ℕ) (h : Whole w v f n) (broad : 32 ≤ v) where
  abbrev there : List ℕ
  there = moved_from e w v f n

  -- header
  header-back : moved_header (edition_of f) v w there n ≡ take 8 f
  unfolding moved_header row_start
  header-back =
      let a = h.bytes in
      let l : 8 ≤ length f = omega (arith, h.table.fits) in
      let total : carried v w n (length there) ≡ total_of f = ap (carried v w n) (file-long w v f n h.table broad e)
      ∙ carried_back w v n (length f) h.table.fits ∙ sym h.total in
      ap₂ (λ (x y : List ℕ). x ++ y) (unpack 2 f 0 a (omega arith))
      (ap₂ (λ (x y : List ℕ). x ++ y) (ap (bytes 2) (sym h.count) ∙ unpack 2 f 2 a (omega arith)) (ap (bytes 4) total ∙ unpack 4 f 4 a (omega arith))
      ∙ join f 2 2 4)
      ∙ join f 0 2 6

  offset-is : (i : ℕ) → i < n → bytes 4 (row_at w f i).ad_at ≡ stretch f (rest_start w i + 4) 4
  unfolding row_at rest_start
  offset-is i l = unpack 4 f (rest_start w i + 4) h.bytes (omega (arith, (row_in w f n i h.table l).fits, h.table.broad))

  -- a row
  row_back : (i : ℕ) → i < n → moved_row v w there n i ≡ stretch f (row_start w i) w
  unfolding moved_row rest_start
  row_back i l =
      let t = h.table in
      let p = row_start w i in
      let q = p + (w - 28) in
      let fits = (row_in w f n i t l).fits in
      let at : carried v w n (row_at v there i).ad_at ≡ (row_at w f i).ad_at =
      ap (λ (r : Row). carried v w n r.ad_at) (row_is e w v f n t broad i l (h.small i l)) ∙ carried_back w v n (row_at w f i).ad_at (h.behind i l) in
      let offset : bytes 4 (carried v w n (row_at v there i).ad_at) ≡ stretch f (q + 4) 4 = ap (bytes 4) at ∙ offset-is i l in
      let r4 : p + 4 + (w - 32) ≡ q = omega (arith, t.broad) in
      let w4 : 4 + (w - 32 + 28) ≡ w = omega (arith, t.broad) in
      ap₂ (λ (x y : List ℕ). x ++ y) (job-part e w v f n t broad i l)
      (ap₂ (λ (x y : List ℕ). x ++ y) (sym (h.station i l))
      (ap₂ (λ (x y : List ℕ). x ++ y) (field-part e w v f n t broad i l)
      (ap₂ (λ (x y : List ℕ). x ++ y) offset (rest_part e w v f n t broad i l ∙ ap (λ (j : ℕ). stretch f j 20) (sym (add_assoc q 4 4)))
      ∙ join f (q + 4) 4 20) ∙ join f q 4 24 ∙ ap (λ (j : ℕ). stretch f j 28) (sym r4)) ∙ join f (p + 4) (w - 32) 28)
      ∙ join f p 4 (w - 32 + 28)
      ∙ ap (stretch f p) w4

  rows_back : (k : ℕ) → k ≤ n → moved_rows v w there n k ≡ stretch f 8 (w * k)
  unfolding moved_rows row_start
  rows_back zero l = ap (stretch f 8) (sym (mul-zero w))
  rows_back (suc k) l =
      ap₂ (λ (x y : List ℕ). x ++ y) (rows_back k (omega arith)) (row_back k l)
      ∙ join f 8 (w * k) w
      ∙ ap (stretch f 8) (sym (mul-suc w k))

  pub file-back : moved_from (edition_of f) v w there n ≡ f
  unfolding moved_from row_start
  file-back =
      ap₂ (λ (x y : List ℕ). x ++ y) header-back
      (ap₂ (λ (x y : List ℕ). x ++ y) (rows_back n (omega arith)) (file-bodies w v f n h.table broad e ∙ sym (drop-drop (w * n) 8 f))
      ∙ take-append-drop (w * n) (drop 8 f))
      ∙ take-append-drop 8 f
