-- There and back, both ways round; the moved file passes; and the way back makes no file longer.
use Prim.Native.Nat.{ℕ, zero, suc, ◌+◌, ◌-◌, ◌*◌, ◌^◌, ◌≤◌, ◌<◌}
use native.Mathlib.Nat.{mul-le-mul_right}
use native.Mathlib.Omega.{arith}
use mathlib.Core.Path.{◌≡◌, refl, sym, ap, ap₂, ◌∙◌}
use mathlib.Core.List.{List}
use lib.ListN.{length, drop, replicate}
use lib.Dec.{lit<, lit≤}
use Rattle.block.specs.Bytes.{AllBytes, bytes, value}
use Rattle.block.proofs.Bytes.{unpack, bytes-zeros}
use Rattle.status.specs.declared.checked.Answer.{Answer}
use Rattle.shift_format.specs.declared.row.Row.{Row}
use Rattle.shift_format.specs.Part.{stretch}
use Rattle.shift_format.specs.Format.{edition_of, count_of, total_of, first_edition, newest, row_size, row_size_of, row_start, row_at, row_of, body_end, station_at}
use Rattle.status.specs.Answers.{answer}
use Rattle.shift_check.specs.Check.{head_number, check_as}
use Rattle.shift_format.proofs.Rows.{row_broad, row_in, station_none}
use Rattle.shift_check.proofs.Passed.{Passes, passes, own_edition}
use Rattle.shift_check.proofs.Bodies.{after_table}
use Rattle.shift_check.proofs.Kept.{wider}
use Rattle.shift_editions.specs.Files.{carried, moved_from, moved}
use Rattle.shift_editions.specs.Answers.{FileMoved, to_edition2_of, to_edition1_of}
use Rattle.shift_editions.specs.Promised.{done, ThereAndBack, BackAndThere, UpPasses, BackPasses, BackShort, LengthTold, UpRises, BackFalls}
use Rattle.shift_editions.proofs.Segments.{word-stretch}
use Rattle.shift_editions.proofs.Laid.{file-long}
use Rattle.shift_editions.proofs.Kept.{edition-is, count-is, total-is, station-part, table-in, body-from}
use Rattle.shift_editions.proofs.Back.{Whole, file-back}
use Rattle.shift_editions.proofs.Passing.{low, row, file-passes}
use Rattle.shift_editions.proofs.Done.{NoStation, up_goes, goes_up, back_goes, goes_back, up_is, back_is, length_back, length_up}

-- a station of 0, read again
zeros-value : (m : ℕ) → value (replicate m 0) ≡ 0
unfolding value
zeros-value zero = refl
zeros-value (suc m) = ap (λ (x : ℕ). 0 + 256 * x) (zeros-value m)

-- a file of edition a that passes, moved to edition b
module _ (a b : ℕ) (ha : a < 256 ^ 2) (hb : b < 256 ^ 2) (f : List ℕ) (z : (check_as a f).number ≡ 0) where
  ok : Passes a a f
  ok = passes a a f z

  own : edition_of f ≡ a
  own = own_edition a f ok

  abbrev w : ℕ
  w = row_size_of f

  abbrev v : ℕ
  v = row_size b

  abbrev n : ℕ
  n = count_of f

  abbrev g : List ℕ
  g = moved b f

  small_count : n < 256 ^ 2
  small_count = omega (arith, ok.head.few)

  pub new-row-size : row_size_of g ≡ v
  new-row-size = ap row_size (edition-is b w v f n ok.head.table (row_broad b) hb)

  pub new-count : count_of g ≡ n
  new-count = count-is b w v f n ok.head.table (row_broad b) small_count

  -- it has no station
  pub new_none : NoStation g
  unfolding station_at
  new_none i l =
      let t = ok.head.table in
      let m : i < n = rw (sym new-count) l in
      let fits = (row_in v g n i (table-in b w v f n t (row_broad b)) m).fits in
      ap (λ (x : ℕ). station_at x g i) new-row-size
      ∙ word-stretch (v - 32) g (row_start v i + 4) (omega (arith, fits, row_broad b))
      ∙ ap value (station-part b w v f n t (row_broad b) i m)
      ∙ zeros-value (v - 32)

  module _ (short : length g ≤ 1048576) where
    small : carried w v n (length f) < 256 ^ 4
    small = omega (arith, file-long w v f n ok.head.table (row_broad b) b)

    pub new-passes : check_as b g ≡ answer 0 0
    new-passes = file-passes b w v f n ok.head.table (row_broad b) ok.walk small hb ok.head.few short refl

    -- every place after the table is carried: the total, and each offset
    new-total : total_of g ≡ carried w v n (length f)
    new-total = total-is b w v f n ok.head.table (row_broad b) small

    new-offset : (i : ℕ) → i < n → (row_of g i).ad_at ≡ carried w v n (row_of f i).ad_at
    new-offset i l =
        ap (λ (k : ℕ). (row_at k g i).ad_at) new-row-size ∙ ap (λ (r : Row). r.ad_at) (row b w v f n ok.head.table (row_broad b) ok.walk small i l)

    old-offset : (i : ℕ) → i < n → row_start w n ≤ (row_of f i).ad_at
    old-offset = low b w v f n ok.head.table (row_broad b) ok.walk small

    new-bodies : drop (row_start (row_size_of g) (count_of g)) g ≡ drop (row_start w n) f
    unfolding carried
    new-bodies =
        let q : carried w v n (row_start w n) ≡ row_start v n = omega arith in
        ap₂ (λ (x y : ℕ). drop (row_start x y) g) new-row-size new-count
        ∙ ap (λ (x : ℕ). drop x g) (sym q)
        ∙ body-from b w v f n ok.head.table (row_broad b) (row_start w n) (omega arith)

    module _ (all : AllBytes f) (none : NoStation f) where
      station : (i : ℕ) → i < n → stretch f (row_start w i + 4) (w - 32) ≡ replicate (w - 32) 0
      unfolding station_at
      station i l =
          let fits = (row_in w f n i ok.head.table l).fits in
          sym (unpack (w - 32) f (row_start w i + 4) all (omega (arith, row_broad (edition_of f)))) ∙ ap (bytes (w - 32)) (none i l) ∙ bytes-zeros (w - 32)

      whole : Whole w v f n
      unfolding carried body_end
      whole = record {
        bytes = all;
        table = ok.head.table;
        count = refl;
        total = ok.head.total;
        behind = λ i l. omega (arith, after_table w f n ok.walk i (omega arith), (ok.walk.rows i l).place.starts);
        small = λ i l. omega (arith, (ok.walk.rows i l).place.ends, small);
        station = station;
      }

      back-again : moved a g ≡ f
      back-again =
          let old : row_size a ≡ w = ap row_size (sym own) in
          ap (λ (x : ℕ). moved_from a x (row_size a) g (count_of g)) new-row-size
          ∙ ap (λ (x : ℕ). moved_from a v x g (count_of g)) old
          ∙ ap (moved_from a v w g) new-count
          ∙ ap (λ (x : ℕ). moved_from x v w g n) (sym own)
          ∙ file-back b w v f n whole (row_broad b)

pub one : first_edition < 256 ^ 2
one = lit< tt

pub two : newest < 256 ^ 2
two = lit< tt

one_size : row_size first_edition ≡ 32
unfolding row_size
one_size = refl

-- edition 1 has no station
pub one_none : (f : List ℕ) → (check_as first_edition f).number ≡ 0 → NoStation f
one_none f z i l = sym (station_none f i (row_size_of f) (ap row_size (own first_edition newest one two f z) ∙ one_size))

-- the way back makes no file longer
pub back_short : BackShort
unfolding carried row_start
back_short f z =
    let p = passes newest newest f z in
    let n = count_of f in
    let m : row_size first_edition * n ≤ row_size_of f * n = rw one_size (mul-le-mul_right n (row_broad (edition_of f))) in
    omega (
      arith,
      file-long (row_size_of f) (row_size first_edition) f n p.head.table (row_broad first_edition) first_edition,
      p.head.short,
      p.head.table.fits,
    )

-- from rows of 32 bytes to rows of 36 every place after the table rises by 4n, and from 36 to 32 it falls by that
carried_up : (w v n x : ℕ) → w ≡ 32 → v ≡ 36 → row_start w n ≤ x → carried w v n x ≡ x + 4 * n
unfolding carried row_start
carried_up w v n x p q h = rw (p, q) (omega (arith, rw p at h))

carried_down : (w v n x : ℕ) → w ≡ 36 → v ≡ 32 → row_start w n ≤ x → x ≡ carried w v n x + 4 * n
unfolding carried row_start
carried_down w v n x p q h = rw (p, q) (omega (arith, rw p at h))

two_size : row_size newest ≡ 36
unfolding row_size
two_size = refl

-- ---- the routines

abbrev number_of : Answer → ℕ
number_of x = x.number

abbrev pub out_of : FileMoved → List ℕ
out_of x = x.out

pub up_passes : UpPasses
unfolding to_edition2_of
up_passes f out₀ z =
    let d = up_goes f (length out₀) z in
    ap (λ (x : List ℕ). (check_as newest x).number) (ap out_of (up_is f out₀ d.zero))
    ∙ ap number_of (new-passes first_edition newest one two f d.passed d.room.short)

pub back_passes : BackPasses
unfolding to_edition1_of
back_passes f out₀ z =
    let d = (back_goes f (length out₀) z).0 in
    ap (λ (x : List ℕ). (check_as first_edition x).number) (ap out_of (back_is f out₀ d.zero))
    ∙ ap number_of (new-passes newest first_edition two one f d.passed d.room.short)

pub there_and_back : ThereAndBack
unfolding to_edition2_of
there_and_back f out₀ out₁ all z o =
    let d = up_goes f (length out₀) z in
    let g = moved newest f in
    let again : moved first_edition g ≡ f = back-again first_edition newest one two f d.passed d.room.short all (one_none f d.passed) in
    let passed : (check_as newest g).number ≡ 0 = ap number_of (new-passes first_edition newest one two f d.passed d.room.short) in
    ap (λ (x : List ℕ). to_edition1_of x out₁) (ap out_of (up_is f out₀ d.zero))
    ∙ back_is g out₁ (goes_back g (length out₁) passed (new_none first_edition newest one two f d.passed)
    (record { short = back_short g passed; fits = o ∙ sym (ap length again) }))
    ∙ ap done again

pub back_and_there : BackAndThere
unfolding to_edition1_of
back_and_there f out₀ out₁ all z o =
    let d = (back_goes f (length out₀) z).0 in
    let g = moved first_edition f in
    let again : moved newest g ≡ f = back-again newest first_edition two one f d.passed d.room.short all (back_goes f (length out₀) z).1 in
    let passed : (check_as first_edition g).number ≡ 0 = ap number_of (new-passes newest first_edition two one f d.passed d.room.short) in
    let long : length (moved newest g) ≤ 1048576 = rw (ap length again) (passes newest newest f d.passed).head.short in
    ap (λ (x : List ℕ). to_edition2_of x out₁) (ap out_of (back_is f out₀ d.zero))
    ∙ up_is g out₁ (goes_up g (length out₁) passed (record { short = long; fits = o ∙ sym (ap length again) }))
    ∙ ap done again

pub up_rises : UpRises
unfolding to_edition2_of
up_rises f out₀ z =
    let d = up_goes f (length out₀) z in
    let p = d.passed in
    let short = d.room.short in
    let n = count_of f in
    let t = (ok first_edition newest one two f p).head in
    let up : (x : ℕ) → row_start (row_size_of f) n ≤ x → carried (row_size_of f) (row_size newest) n x
    ≡ x + 4 * n = λ x h. carried_up (row_size_of f) (row_size newest) n x (ap row_size (own first_edition newest one two f p) ∙ one_size) two_size h in
    rw (ap out_of (up_is f out₀ d.zero)) (record {
      count = new-count first_edition newest one two f p;
      long = file-long (row_size_of f) (row_size newest) f n t.table (row_broad newest) newest ∙ up (length f) t.table.fits;
      total = new-total first_edition newest one two f p short ∙ up (length f) t.table.fits ∙ ap (λ (x : ℕ). x + 4 * n) (sym t.total);
      offset = λ i l. new-offset first_edition newest one two f p short i l ∙ up (row_of f i).ad_at (old-offset first_edition newest one two f p short i l);
      bodies = new-bodies first_edition newest one two f p short;
    })

pub back_falls : BackFalls
unfolding to_edition1_of
back_falls f out₀ z =
    let d = (back_goes f (length out₀) z).0 in
    let p = d.passed in
    let short = d.room.short in
    let n = count_of f in
    let g = moved first_edition f in
    let t = (ok newest first_edition two one f p).head in
    let many : count_of g ≡ n = new-count newest first_edition two one f p in
    let down : (x : ℕ) → row_start (row_size_of f) n ≤ x → x ≡ carried (row_size_of f) (row_size first_edition) n x + 4 * n = λ x h. carried_down (row_size_of f)
    (row_size first_edition) n x (ap row_size (own newest first_edition two one f p) ∙ two_size) one_size h in
    rw (ap out_of (back_is f out₀ d.zero)) (record {
      count = sym many;
      long = down (length f) t.table.fits ∙ ap₂ (λ (x y : ℕ). x + 4 * y)
          (sym (file-long (row_size_of f) (row_size first_edition) f n t.table (row_broad first_edition) first_edition)) (sym many);
      total = t.total ∙ down (length f) t.table.fits ∙ ap₂ (λ (x y : ℕ). x + 4 * y) (sym (new-total newest first_edition two one f p short)) (sym many);
      offset = λ i l.
          let m : i < n = rw many at l in
          down (row_of f i).ad_at (old-offset newest first_edition two one f p short i m)
          ∙ ap₂ (λ (x y : ℕ). x + 4 * y) (sym (new-offset newest first_edition two one f p short i m)) (sym many);
      bodies = sym (new-bodies newest first_edition two one f p short);
    })

-- a file that passes has its header in order, and the size of its rows is that of its edition
head_zero : (e : ℕ) (f : List ℕ) → first_edition ≤ e → e ≤ newest → (check_as e f).number ≡ 0 → head_number first_edition newest f ≡ 0
head_zero e f low high z = (passes first_edition newest f (wider e f low high z)).zero

pub length_told : LengthTold
length_told = record {
  up = λ f z.
      length_up f (head_zero first_edition f (lit≤ tt) (lit≤ tt) z)
      (λ q. let s : ◌≡◌ {A = ℕ} 32 36 = sym (ap row_size (own first_edition newest one two f z) ∙ one_size) ∙ q ∙ two_size in omega arith);
  back = λ f z. length_back f (head_zero newest f (lit≤ tt) (lit≤ tt) z) (ap row_size (own newest first_edition two one f z));
}
