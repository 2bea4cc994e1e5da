-- What is read from a moved file: header fields, the fields of each row, and the bodies. Each lies at a known offset (`Laid`),
-- so reading it gives what was written there: the old value, or the carried offset.
use Prim.Native.Nat.{ℕ, ◌+◌, ◌-◌, ◌^◌, ◌≤◌, ◌<◌}
use native.Mathlib.Nat.{add-zero, add_assoc}
use native.Mathlib.Omega.{arith}
use mathlib.Core.Path.{◌≡◌, sym, ap, ◌∙◌}
use mathlib.Core.List.{List, ◌++◌}
use lib.ListN.{length, get_or, drop, replicate}
use lib.Seq.{drop-drop, take_all}
use Rattle.block.specs.Bytes.{value, bytes, word}
use Rattle.block.proofs.Bytes.{length-bytes, value-bytes}
use Rattle.shift_format.specs.Part.{stretch}
use Rattle.shift_format.specs.Format.{edition_of, count_of, total_of, row_start, rest_start, row_at, nonce_start, nonce_at}
use Rattle.shift_format.specs.Inside.{TableIn}
use Rattle.shift_format.proofs.Rows.{row_in}
use Rattle.shift_editions.specs.Files.{carried, moved_row, moved_header, moved_from}
use Rattle.shift_editions.proofs.Segments.{inside, in_first, in_second, at_front, word-stretch, seg_same, word_in, byte-in}
use Rattle.shift_editions.proofs.Laid.{row-job, row-station, row-fields, row-offset, row-rest, header-long, file-row, file-bodies, file-long}

module _ (e w v : ℕ) (f : List ℕ) (n : ℕ) (t : TableIn w f n) (broad : 32 ≤ v) where
  abbrev file : List ℕ
  file = moved_from e w v f n

  -- the new table lies in the new file
  pub table-in : TableIn v file n
  unfolding carried
  table-in = record { broad = broad; fits = omega (arith, file-long w v f n t broad e) }

  -- ---- the header

  abbrev head : List ℕ
  head = moved_header e w v f n

  head-part : (k m : ℕ) → k + m ≤ 8 → stretch file k m ≡ stretch head k m
  unfolding moved_from
  head-part k m l = in_first head _ k m (omega (arith, header-long w v f n t broad e))

  pub long : 8 ≤ length file
  unfolding row_start
  long = omega (arith, table-in.fits)

  pub edition-is : e < 256 ^ 2 → edition_of file ≡ e
  unfolding moved_header
  edition-is h =
      word-stretch 2 file 0 (omega (arith, long)) ∙ ap value (head-part 0 2 (omega arith)
      ∙ at_front (bytes 2 e) (bytes 2 n ++ bytes 4 (carried w v n (length f))) 2 (length-bytes 2 e)) ∙ value-bytes 2 e h

  pub count-is : n < 256 ^ 2 → count_of file ≡ n
  unfolding moved_header
  count-is h =
      word-stretch 2 file 2 (omega (arith, long))
      ∙ ap value (head-part 2 2 (omega arith) ∙ in_second (bytes 2 e) (bytes 2 n ++ bytes 4 (carried w v n (length f))) 2 0 2 (length-bytes 2 e)
      ∙ at_front (bytes 2 n) (bytes 4 (carried w v n (length f))) 2 (length-bytes 2 n))
      ∙ value-bytes 2 n h

  pub total-is : carried w v n (length f) < 256 ^ 4 → total_of file ≡ carried w v n (length f)
  unfolding moved_header
  total-is h =
      let c = carried w v n (length f) in
      word-stretch 4 file 4 (omega (arith, long))
      ∙ ap value (head-part 4 4 (omega arith) ∙ in_second (bytes 2 e) (bytes 2 n ++ bytes 4 c) 2 2 4 (length-bytes 2 e)
      ∙ in_second (bytes 2 n) (bytes 4 c) 2 0 4 (length-bytes 2 n) ∙ whole c)
      ∙ value-bytes 4 c h
    where
      whole : (c : ℕ) → stretch (bytes 4 c) 0 4 ≡ bytes 4 c
      whole c = take_all 4 (bytes 4 c) (omega (arith, length-bytes 4 c))

  -- ---- a row

  module _ (i : ℕ) (l : i < n) where
    row_fits : row_start v i + v ≤ length file
    row_fits = (row_in v file n i table-in l).fits

    old-fits : row_start w i + w ≤ length f
    old-fits = (row_in w f n i t l).fits

    read : (k m : ℕ) → k + m ≤ v → stretch file (row_start v i + k) m ≡ stretch (moved_row w v f n i) k m
    read k m h = sym (inside file (row_start v i) v k m row_fits h) ∙ ap (λ (x : List ℕ). stretch x k m) (file-row w v f n t broad e i l)

    read-rest : (k m : ℕ) → k + m ≤ 28 → stretch file (rest_start v i + k) m ≡ stretch (moved_row w v f n i) (v - 28 + k) m
    unfolding rest_start
    read-rest k m h =
        let q : row_start v i + (v - 28) + k ≡ row_start v i + (v - 28 + k) = omega arith in
        ap (λ (j : ℕ). stretch file j m) q ∙ read (v - 28 + k) m (omega arith)

    pub job-part : stretch file (row_start v i) 4 ≡ stretch f (row_start w i) 4
    job-part = ap (λ (j : ℕ). stretch file j 4) (sym (add-zero (row_start v i))) ∙ read 0 4 (omega arith) ∙ row-job w v f n t broad i l

    pub field-part : stretch file (rest_start v i) 4 ≡ stretch f (rest_start w i) 4
    field-part = ap (λ (j : ℕ). stretch file j 4) (sym (add-zero (rest_start v i))) ∙ read-rest 0 4 (omega arith) ∙ row-fields w v f n t broad i l

    pub offset-part : stretch file (rest_start v i + 4) 4 ≡ bytes 4 (carried w v n (row_at w f i).ad_at)
    offset-part = read-rest 4 4 (omega arith) ∙ row-offset w v f n t broad i l

    pub rest_part : stretch file (rest_start v i + 8) 20 ≡ stretch f (rest_start w i + 8) 20
    rest_part = read-rest 8 20 (omega arith) ∙ row-rest w v f n t broad i l

    pub station-part : stretch file (row_start v i + 4) (v - 32) ≡ replicate (v - 32) 0
    station-part = read 4 (v - 32) (omega arith) ∙ row-station w v f n t broad i l

    rest-fits : rest_start v i + 28 ≤ length file
    unfolding rest_start
    rest-fits = omega (arith, row_fits)

    old-rest-fits : rest_start w i + 28 ≤ length f
    unfolding rest_start
    old-rest-fits = omega (arith, old-fits, t.broad)

    -- the row, with its offset carried
    pub row_is : carried w v n (row_at w f i).ad_at < 256 ^ 4 → row_at v file i
        ≡ (let r = row_at w f i in record {
          job = r.job;
          suite = r.suite;
          key = r.key;
          ad_len = r.ad_len;
          ad_at = carried w v n r.ad_at;
          text_len = r.text_len;
        })
    unfolding row_at
    row_is h =
        let p = rest_start v i in
        let q = rest_start w i in
        let job : word 4 file (row_start v i) ≡ word 4 f (row_start w i) =
        word-stretch 4 file (row_start v i) (omega (arith, row_fits)) ∙ ap value job-part
        ∙ sym (word-stretch 4 f (row_start w i) (omega (arith, old-fits, t.broad))) in
        let suite : get_or file p 0 ≡ get_or f q 0 =
        ap (λ (j : ℕ). get_or file j 0) (sym (add-zero p)) ∙ byte-in f file q p 4 (omega (arith, old-rest-fits)) (omega (arith, rest-fits)) field-part 0
        (omega arith) ∙ ap (λ (j : ℕ). get_or f j 0) (add-zero q) in
        let key = byte-in f file q p 4 (omega (arith, old-rest-fits)) (omega (arith, rest-fits)) field-part 1 (omega arith) in
        let ad = word_in f file q p 4 (omega (arith, old-rest-fits)) (omega (arith, rest-fits)) field-part 2 2 (omega arith) in
        let at : word 4 file (p + 4) ≡ carried w v n (word 4 f (q + 4)) =
        word-stretch 4 file (p + 4) (omega (arith, rest-fits)) ∙ ap value offset-part ∙ value-bytes 4 (carried w v n (row_at w f i).ad_at) h in
        let len : word 4 file (p + 8) ≡ word 4 f (q + 8) =
        ap (λ (j : ℕ). word 4 file j) (sym (add-zero (p + 8))) ∙ word_in f file (q + 8) (p + 8) 20 (omega (arith, old-rest-fits))
        (omega (arith, rest-fits)) rest_part 0 4 (omega arith) ∙ ap (λ (j : ℕ). word 4 f j) (add-zero (q + 8)) in
        λ s. record { job = job s; suite = suite s; key = key s; ad_len = ad s; ad_at = at s; text_len = len s }

    pub nonce-is : nonce_at v file i ≡ nonce_at w f i
    unfolding nonce_at nonce_start
    nonce-is =
        let p = rest_start v i in
        let q = rest_start w i in
        ap (λ (j : ℕ). stretch file j 16) (sym (add_assoc p 8 4))
        ∙ seg_same f file (q + 8) (p + 8) 20 (omega (arith, old-rest-fits)) (omega (arith, rest-fits)) rest_part 4 16 (omega arith)
        ∙ ap (λ (j : ℕ). stretch f j 16) (add_assoc q 8 4)

  -- ---- the bodies

  pub body-from : (x : ℕ) → row_start w n ≤ x → drop (carried w v n x) file ≡ drop x f
  unfolding carried
  body-from x h =
      let q : x - row_start w n + row_start v n ≡ row_start v n + (x - row_start w n) = omega arith in
      let r : row_start w n + (x - row_start w n) ≡ x = omega arith in
      ap (λ (j : ℕ). drop j file) q
      ∙ sym (drop-drop (x - row_start w n) (row_start v n) file)
      ∙ ap (drop (x - row_start w n)) (file-bodies w v f n t broad e)
      ∙ drop-drop (x - row_start w n) (row_start w n) f
      ∙ ap (λ (j : ℕ). drop j f) r

-- carried there and back
pub carried_back : (w v n x : ℕ) → row_start w n ≤ x → carried v w n (carried w v n x) ≡ x
unfolding carried
carried_back w v n x h = omega arith
