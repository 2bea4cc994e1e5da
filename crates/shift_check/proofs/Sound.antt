-- What number 0 says: of a row that each of 25 to 30 and 34 lets it pass, of a header that each of 20 to 24 does.
use Prim.Native.Nat.{ℕ, ◌+◌, ◌≤◌}
use native.Mathlib.Omega.{arith}
use mathlib.Core.Path.{◌≡◌}
use mathlib.Core.Bool.{false, ◌||◌, not}
use mathlib.Core.List.{List}
use lib.ListN.{length}
use lib.Dec.{ltb, eqb, lit<}
use borrow.Author.Tests.{ltb-false, eqb-true, not-false}
use Rattle.block.proofs.Tests.{both_false}
use Rattle.block.proofs.Ladder.{not_taken}
use Rattle.cipher.specs.Cipher.{is_suite, IsSuite, limit}
use Rattle.shift_format.specs.declared.row.Row.{Row}
use Rattle.shift_format.specs.Format.{edition_of, count_of, total_of, row_size_of, row_start, row_at, body_end}
use Rattle.shift_check.specs.Check.{not_above, outside, bad_suite, bad_length, body_start, misplaced, unread_set, nonce_seen, bad_data, body_number, row_number}
use Rattle.shift_check.specs.Check.{head_number}
use Rattle.shift_format.specs.Inside.{TableIn}
use Rattle.shift_format.proofs.Rows.{row_broad}

-- ---- a row

-- a number lies in its range, and another is small enough: the form of 27
range : (a x b y d : ℕ) → outside a b x || ltb d y ≡ false → (a ≤ x) × (x ≤ b) × (y ≤ d)
range a x b y d h =
    let o = both_false (outside a b x) (ltb d y) h in
    let r = both_false (ltb x a) (ltb b x) o.0 in
    (ltb-false _ _ r.0, ltb-false _ _ r.1, ltb-false _ _ o.1)

pub record Suited (r : Row) : Type 0 where
  pub suite-is : IsSuite r.suite
  pub key-high : r.key ≤ 15

suited : (r : Row) → bad_suite r ≡ false → Suited r
unfolding bad_suite
suited r h =
    let o = both_false (not (is_suite r.suite)) (ltb 15 r.key) h in
    record { suite-is = not-false _ o.0; key-high = ltb-false _ _ o.1 }

pub record Sized (r : Row) : Type 0 where
  pub ad-low : 5 ≤ r.ad_len
  pub ad-high : r.ad_len ≤ 1024
  pub len-high : r.text_len ≤ limit

sized : (r : Row) → bad_length r ≡ false → Sized r
unfolding bad_length
sized r h = let q = range 5 r.ad_len 1024 r.text_len limit h in record { ad-low = q.0; ad-high = q.1; len-high = q.2 }

pub record Placed (w : ℕ) (f : List ℕ) (n i : ℕ) : Type 0 where
  pub starts : (row_at w f i).ad_at ≡ body_start w f n i
  pub ends : body_end (row_at w f i) ≤ length f

placed : (w : ℕ) (f : List ℕ) (n i : ℕ) → misplaced w f n i ≡ false → Placed w f n i
unfolding misplaced
placed w f n i h =
    let o = both_false (not (eqb (row_at w f i).ad_at (body_start w f n i))) (ltb (length f) (body_end (row_at w f i))) h in
    record { starts = eqb-true _ _ (not-false _ o.0); ends = ltb-false _ _ o.1 }

-- after 27 and 28, the associated data's first five bytes are in the file
pub head_in : (w : ℕ) (f : List ℕ) (n i : ℕ) → bad_length (row_at w f i) ≡ false → misplaced w f n i ≡ false → (row_at w f i).ad_at + 5 ≤ length f
unfolding body_end
head_in w f n i s p = omega (arith, (sized (row_at w f i) s).ad-low, (placed w f n i p).ends)

pub record Sound (w : ℕ) (f : List ℕ) (n i : ℕ) : Type 0 where
  pub order : not_above w f i ≡ false
  pub suit : Suited (row_at w f i)
  pub size : Sized (row_at w f i)
  pub place : Placed w f n i
  pub spare : unread_set w f i ≡ false
  pub fresh : nonce_seen w f i ≡ false
  pub held : bad_data f (row_at w f i) ≡ false

pub sound : (w : ℕ) (f : List ℕ) (n i : ℕ) → row_number w f n i ≡ 0 → Sound w f n i
unfolding row_number body_number
sound w f n i z =
    let p25 = not_taken (not_above w f i) 25 _ (lit< tt) z in
    let p26 = not_taken (bad_suite (row_at w f i)) 26 _ (lit< tt) p25.1 in
    let p27 = not_taken (bad_length (row_at w f i)) 27 _ (lit< tt) p26.1 in
    let p28 = not_taken (misplaced w f n i) 28 _ (lit< tt) p27.1 in
    let p34 = not_taken (unread_set w f i) 34 _ (lit< tt) p28.1 in
    let p29 = not_taken (nonce_seen w f i) 29 _ (lit< tt) p34.1 in
    let p30 = not_taken (bad_data f (row_at w f i)) 30 _ (lit< tt) p29.1 in
    record {
      order = p25.0;
      suit = suited (row_at w f i) p26.0;
      size = sized (row_at w f i) p27.0;
      place = placed w f n i p28.0;
      spare = p34.0;
      fresh = p29.0;
      held = p30.0;
    }

-- ---- the header

pub record Headed (low high : ℕ) (f : List ℕ) : Type 0 where
  pub long : 8 ≤ length f
  pub short : length f ≤ 1048576
  pub from : low ≤ edition_of f
  pub to : edition_of f ≤ high
  pub few : count_of f ≤ 512
  pub total : total_of f ≡ length f
  pub table : TableIn (row_size_of f) f (count_of f)

pub headed : (low high : ℕ) (f : List ℕ) → head_number low high f ≡ 0 → Headed low high f
unfolding head_number
headed low high f h =
    let p20 = not_taken (ltb (length f) 8 || ltb 1048576 (length f)) 20 _ (lit< tt) h in
    let p21 = not_taken (outside low high (edition_of f)) 21 _ (lit< tt) p20.1 in
    let p22 = not_taken (ltb 512 (count_of f)) 22 _ (lit< tt) p21.1 in
    let p23 = not_taken (not (eqb (total_of f) (length f))) 23 _ (lit< tt) p22.1 in
    let p24 = not_taken (ltb (length f) (row_start (row_size_of f) (count_of f))) 24 _ (lit< tt) p23.1 in
    let len = both_false (ltb (length f) 8) (ltb 1048576 (length f)) p20.0 in
    let taken = both_false (ltb (edition_of f) low) (ltb high (edition_of f)) p21.0 in
    record {
      long = ltb-false _ _ len.0;
      short = ltb-false _ _ len.1;
      from = ltb-false _ _ taken.0;
      to = ltb-false _ _ taken.1;
      few = ltb-false _ _ p22.0;
      total = eqb-true _ _ (not-false _ p23.0);
      table = record { broad = row_broad (edition_of f); fits = ltb-false _ _ p24.0 };
    }
