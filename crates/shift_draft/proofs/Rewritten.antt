-- A file that passes, with another edition and other bytes for text and tag of each row: it has the same rows and associated
-- data, so it passes at that edition.
use Prim.Native.Nat.{ℕ, ◌+◌, ◌-◌, ◌/◌, ◌%◌, ◌≤◌, ◌<◌}
use native.Mathlib.Decide.{dec_lt}
use native.Mathlib.Omega.{arith}
use mathlib.Core.Path.{◌≡◌, refl, sym, ap, ◌∙◌}
use mathlib.Core.List.{List, ◌++◌}
use mathlib.Core.Logic.{inl, inr, ⊎_elim}
use lib.ListN.{length, get_or, drop}
use lib.Seq.{get_or-take, get_or-drop, ext_get_or}
use Rattle.block.specs.Bytes.{AllBytes, value, bytes}
use Rattle.block.proofs.Lists.{append_inj}
use Rattle.cipher.specs.Cipher.{size_of}
use Rattle.shift_format.specs.declared.row.Row.{Row}
use Rattle.status.specs.declared.checked.Answer.{Answer}
use Rattle.shift_format.specs.Part.{stretch}
use Rattle.shift_format.specs.Format.{edition_of, count_of, first_edition, row_size, row_size_of, row_start, row_at, nonce_at, row_of, data_of, text_of, tag_of, body_end}
use Rattle.status.specs.Answers.{answer}
use Rattle.shift_check.specs.Check.{outside, check_as}
use Rattle.shift_format.proofs.Parts.{join}
use Rattle.shift_format.proofs.Rows.{row_broad, row-late, stretch-length}
use Rattle.shift_check.proofs.Searches.{first-none}
use Rattle.shift_check.proofs.Sound.{Sound, Headed}
use Rattle.shift_check.proofs.Passed.{Walked, passes, own_edition}
use Rattle.shift_check.proofs.Bodies.{apart, after_table}
use Rattle.shift_check.proofs.Alike.{AgreeTable, stretch-same, row_same, nonce-same, count_same}
use Rattle.shift_check.proofs.Kept.{data_held, taken, check-kept}
use Rattle.shift_draft.specs.Files.{in_edition, piece_start, piece_size, rewritten}
use Rattle.shift_draft.proofs.Puts.{Apart, Inside, Outside, where-is, put-length, put_in, put-beside, all-length, all-outside, all-inside, piece-stretch}

-- ---- the edition

module _ (e : ℕ) (f : List ℕ) (h : 8 ≤ length f) where
  pub edition-length : length (in_edition e f) ≡ length f
  unfolding in_edition bytes
  edition-length = put-length f 0 (bytes 2 e) (omega arith)

  pub edition-other : (k : ℕ) → 2 ≤ k → get_or (in_edition e f) k 0 ≡ get_or f k 0
  unfolding in_edition bytes
  edition-other k b = put-beside f 0 (bytes 2 e) (omega arith) k (inr (omega arith))

  pub edition-low : get_or (in_edition e f) 0 0 ≡ e % 256
  unfolding in_edition bytes
  edition-low = put_in f 0 (bytes 2 e) (omega arith) 0 (omega arith)

  pub edition-high : get_or (in_edition e f) 1 0 ≡ e / 256 % 256
  unfolding in_edition bytes
  edition-high = put_in f 0 (bytes 2 e) (omega arith) 1 (omega arith)

-- a file that has the edition already
pub edition_same : (e : ℕ) (f : List ℕ) → 8 ≤ length f → get_or f 0 0 ≡ e % 256 → get_or f 1 0 ≡ e / 256 % 256 → in_edition e f ≡ f
edition_same e f h a b =
    ext_get_or 0 (in_edition e f) f (edition-length e f h)
    (λ k l. elim (dec_lt k 2) [
      | no m ↦ edition-other e f h k (omega arith)
      | yes m ↦ elim (dec_lt k 1) [
        | yes c ↦ let q : k ≡ 0 = omega arith in rw q (edition-low e f h ∙ sym a)
        | no c ↦ let q : k ≡ 1 = omega arith in rw q (edition-high e f h ∙ sym b)
      ]
    ])

-- two bytes that make a number
pair_is : (l : List ℕ) (e : ℕ) → e < 256 → get_or l 0 0 ≡ e % 256 → get_or l 1 0 ≡ e / 256 % 256 → edition_of l ≡ e
unfolding value
pair_is l e s p q = omega arith

pub pair-low : (l : List ℕ) (e : ℕ) → AllBytes l → e < 256 → edition_of l ≡ e → get_or l 0 0 ≡ e % 256
unfolding value
pair-low l e b s q = omega (arith, b 0, b 1)

pub pair-high : (l : List ℕ) (e : ℕ) → AllBytes l → e < 256 → edition_of l ≡ e → get_or l 1 0 ≡ e / 256 % 256
unfolding value
pair-high l e b s q = omega (arith, b 0, b 1)

-- ---- a stretch in two parts

pub two_parts : (g : List ℕ) (s n m : ℕ) → stretch g s (n + m) ≡ stretch g s n ++ stretch g (s + n) m
two_parts g s n m = sym (join g s n m)

-- rows of edition e are as long as those of edition 1
abbrev pub Plain : ℕ → Type 0
Plain e = (row_size e ≡ row_size first_edition) × (e < 256)

module _ (e₀ : ℕ) (f : List ℕ) (p₀ : Plain e₀) (z : (check_as e₀ f).number ≡ 0) where
  pub head : Headed e₀ e₀ f
  head = (passes e₀ e₀ f z).head

  pub edition-own : edition_of f ≡ e₀
  edition-own = own_edition e₀ f (passes e₀ e₀ f z)

  pub walk : Walked (row_size_of f) f (count_of f)
  walk = (passes e₀ e₀ f z).walk

  pub row-sound : (i : ℕ) → i < count_of f → Sound (row_size_of f) f (count_of f) i
  row-sound i l = walk.rows i l

  -- the body starts after the table
  pub body-late : (i : ℕ) → i < count_of f → row_start (row_size_of f) (count_of f) ≤ (row_of f i).ad_at
  body-late i l = omega (arith, after_table (row_size_of f) f (count_of f) walk i (omega arith), (row-sound i l).place.starts)

  -- text and tag end where the body does
  pub piece-end : (i : ℕ) → piece_start f i + piece_size f i ≡ body_end (row_of f i)
  unfolding piece_start body_end
  piece-end i = omega arith

  pub start_is : (i : ℕ) → piece_start f i ≡ (row_of f i).ad_at + (row_of f i).ad_len
  unfolding piece_start
  start_is i = refl

  pub bodies-apart : (i j : ℕ) → i < j → j < count_of f → body_end (row_of f i) ≤ (row_of f j).ad_at
  bodies-apart = apart (row_size_of f) f (count_of f) walk

  pub piece-in : (i : ℕ) → i < count_of f → piece_start f i + piece_size f i ≤ length f
  piece-in i l = omega (arith, piece-end i, (row-sound i l).place.ends)

  module _ (e : ℕ) (p : Plain e) (piece : ℕ → List ℕ) (long : (i : ℕ) → i < count_of f → length (piece i) ≡ piece_size f i) where
    abbrev g : List ℕ
    g = rewritten e piece f

    base-length : length (in_edition e f) ≡ length f
    base-length = edition-length e f head.long

    pub pieces-apart : Apart (piece_start f) piece (count_of f) (in_edition e f)
    pieces-apart = record {
      fits = λ i l. omega (arith, long i l, piece-in i l, base-length);
      after = λ i j l m. omega (arith, long i (omega arith), piece-end i, bodies-apart i j l m, start_is j);
    }

    pub same_length : length g ≡ length f
    same_length = all-length (piece_start f) piece (count_of f) (in_edition e f) pieces-apart (count_of f) (omega arith) ∙ base-length

    -- outside of every piece the file is kept, but for the edition
    kept : (k : ℕ) → 2 ≤ k → Outside (piece_start f) piece (count_of f) k → get_or g k 0 ≡ get_or f k 0
    kept k b o = all-outside (piece_start f) piece (count_of f) (in_edition e f) pieces-apart (count_of f) (omega arith) k o ∙ edition-other e f head.long k b

    head-outside : (k : ℕ) → k < row_start (row_size_of f) (count_of f) → Outside (piece_start f) piece (count_of f) k
    head-outside k b i l = inl (omega (arith, body-late i l, start_is i))

    pub same-table : AgreeTable g f same_length (row_size_of f) (count_of f)
    same-table k a b = kept k a (head-outside k b)

    data-outside : (j : ℕ) → j < count_of f → (k : ℕ) → (row_of f j).ad_at ≤ k → k < piece_start f j → Outside (piece_start f) piece (count_of f) k
    data-outside j m k a b i l =
        elim (dec_lt i j) [
          | yes c ↦ inr (omega (arith, long i l, piece-end i, bodies-apart i j c m))
          | no c ↦ elim (dec_lt j i) [
            | yes d ↦ inl (omega (arith, piece-end j, bodies-apart j i d l, start_is i))
            | no d ↦ let q : i ≡ j = omega arith in inl (rw q b)
          ]
        ]

    -- associated data is kept
    data-kept : (j : ℕ) → j < count_of f → (k : ℕ) → (row_of f j).ad_at ≤ k → k < piece_start f j → get_or g k 0 ≡ get_or f k 0
    data-kept j m k a b = kept k (omega (arith, body-late j m, row-late (row_size_of f) (count_of f))) (data-outside j m k a b)

    pub same-data : (j : ℕ) → j < count_of f → data_of g (row_of f j) ≡ data_of f (row_of f j)
    same-data j m = stretch-same g f same_length (row_of f j).ad_at (row_of f j).ad_len (λ k a b. data-kept j m k a (omega (arith, start_is j)))

    new-edition : edition_of g ≡ e
    new-edition =
        let o : (k : ℕ) → k < 2 → get_or g k 0 ≡ get_or (in_edition e f) k 0 = λ k b. all-outside (piece_start f) piece (count_of f) (in_edition e f) pieces-apart
        (count_of f) (omega arith) k (head-outside k (omega (arith, row-late (row_size_of f) (count_of f)))) in
        pair_is g e p.1 (o 0 (omega arith) ∙ edition-low e f head.long) (o 1 (omega arith) ∙ edition-high e f head.long)

    -- rows are as long unchanged
    same-row-size : row_size_of g ≡ row_size_of f
    same-row-size = ap row_size new-edition ∙ p.0 ∙ sym (ap row_size edition-own ∙ p₀.0)

    pub same_row : (i : ℕ) → i < count_of f → row_of g i ≡ row_of f i
    same_row i l = ap (λ (w : ℕ). row_at w g i) same-row-size ∙ row_same g f same_length (row_size_of f) (count_of f) (row_broad (edition_of f)) same-table i l

    pub same-nonce : (i : ℕ) → i < count_of f → nonce_at (row_size_of g) g i ≡ nonce_at (row_size_of f) f i
    same-nonce i l = ap (λ (w : ℕ). nonce_at w g i) same-row-size ∙ nonce-same g f same_length (row_size_of f) (count_of f) (row_broad (edition_of f)) same-table i l

    pub same_count : count_of g ≡ count_of f
    same_count = count_same g f same_length (row_size_of f) (count_of f) (row_broad (edition_of f)) same-table

    pub same_start : (i : ℕ) → i < count_of f → piece_start g i ≡ piece_start f i
    unfolding piece_start
    same_start i l = ap (λ (r : Row). r.ad_at + r.ad_len) (same_row i l)

    pub same_size : (i : ℕ) → i < count_of f → piece_size g i ≡ piece_size f i
    same_size i l = ap (λ (r : Row). r.text_len + size_of r.suite) (same_row i l)

    -- text and tag are what was put
    pub piece_is : (i : ℕ) → i < count_of f → stretch g (piece_start f i) (piece_size f i) ≡ piece i
    piece_is i l = ap (stretch g (piece_start f i)) (sym (long i l)) ∙ piece-stretch (piece_start f) piece (count_of f) (in_edition e f) pieces-apart i l

    pub parts_are : (i : ℕ) → i < count_of f → (x y : List ℕ) → piece i ≡ x ++ y → length x ≡ (row_of f i).text_len → (text_of g (row_of f i) ≡ x)
        × (tag_of g (row_of f i) ≡ y)
    unfolding piece_start
    parts_are i l x y q s =
        let r = row_of f i in
        let t : stretch g (piece_start f i) r.text_len ++ stretch g (piece_start f i + r.text_len) (size_of r.suite)
        ≡ x ++ y = sym (two_parts g (piece_start f i) r.text_len (size_of r.suite)) ∙ piece_is i l ∙ q in
        append_inj _ _ x y (stretch-length g (piece_start f i) r.text_len (omega (arith, same_length, piece-in i l)) ∙ sym s) t

    -- ---- the check

    pub passes-again : check_as e g ≡ answer 0 0
    passes-again =
        check-kept f g same_length e e e₀ e₀ (passes e₀ e₀ f z) (ap (outside e e) new-edition ∙ taken e e e (omega arith) (omega arith)) same-row-size
        same-table
        ∙ first-none _ _ _ (count_of f)
        (λ j m.
        let s = row-sound j m in
        data_held f g (row_size_of f) j s.held (λ k a b. data-kept j m k a (omega (arith, s.size.ad-low, start_is j))))

-- ---- and back: with the old edition, and the old bytes for text and tag of each row, it is the old file

module _ (e₀ : ℕ) (f : List ℕ) (p₀ : Plain e₀) (z : (check_as e₀ f).number ≡ 0) (e : ℕ) (p : Plain e)
    (piece : ℕ → List ℕ) (long : (i : ℕ) → i < count_of f → length (piece i) ≡ piece_size f i)
    (hf : AllBytes f) (old : ℕ → List ℕ) (own : (i : ℕ) → i < count_of f → old i ≡ stretch f (piece_start f i) (piece_size f i)) where
  abbrev new : List ℕ
  new = rewritten e piece f

  z-new : (check_as e new).number ≡ 0
  z-new = ap (λ (x : Answer). x.number) (passes-again e₀ f p₀ z e p piece long)

  count-new : count_of new ≡ count_of f
  count-new = same_count e₀ f p₀ z e p piece long

  old-long : (i : ℕ) → i < count_of f → length (old i) ≡ piece_size f i
  old-long i l = ap length (own i l) ∙ stretch-length f (piece_start f i) (piece_size f i) (piece-in e₀ f p₀ z i l)

  long-new : (i : ℕ) → i < count_of new → length (old i) ≡ piece_size new i
  long-new i l = let m : i < count_of f = rw (sym count-new) l in old-long i m ∙ sym (same_size e₀ f p₀ z e p piece long i m)

  back-apart : Apart (piece_start new) old (count_of new) (in_edition e₀ new)
  back-apart = pieces-apart e new p z-new e₀ p₀ old long-new

  back-length : length (rewritten e₀ old new) ≡ length f
  back-length = same_length e new p z-new e₀ p₀ old long-new ∙ same_length e₀ f p₀ z e p piece long

  back_inside : (k : ℕ) → Inside (piece_start f) piece (count_of f) k → get_or (rewritten e₀ old new) k 0 ≡ get_or f k 0
  back_inside k x =
      let i = x.at in
      let m = k - piece_start f i in
      let n : m < piece_size f i = omega (arith, x.from, x.to, long i x.below) in
      let s : piece_start new i ≡ piece_start f i = same_start e₀ f p₀ z e p piece long i x.below in
      let q : k ≡ piece_start new i + m = omega (arith, x.from) in
      let r : piece_start f i + m ≡ k = omega (arith, x.from) in
      ap (λ (j : ℕ). get_or (rewritten e₀ old new) j 0) q
      ∙ all-inside (piece_start new) old (count_of new) (in_edition e₀ new) back-apart (count_of new) (omega arith) i (rw count-new x.below) m
      (omega (arith, old-long i x.below))
      ∙ ap (λ (l : List ℕ). get_or l m 0) (own i x.below)
      ∙ get_or-take (piece_size f i) (drop (piece_start f i) f) m 0 n
      ∙ get_or-drop (piece_start f i) f m 0
      ∙ ap (λ (j : ℕ). get_or f j 0) r

  back-outside : (k : ℕ) → Outside (piece_start f) piece (count_of f) k → get_or (rewritten e₀ old new) k 0 ≡ get_or f k 0
  back-outside k o =
      let big : 8 ≤ length new = omega (arith, same_length e₀ f p₀ z e p piece long, (head e₀ f p₀ z).long) in
      let o-new : Outside (piece_start new) old (count_of new) k =
      λ i l.
      let m : i < count_of f = rw (sym count-new) l in
      let s = same_start e₀ f p₀ z e p piece long i m in
      ⊎_elim (λ b. inl (omega (arith, s, b))) (λ b. inr (omega (arith, s, b, long i m, old-long i m))) (o i m) in
      let ed = edition-own e₀ f p₀ z in
      all-outside (piece_start new) old (count_of new) (in_edition e₀ new) back-apart (count_of new) (omega arith) k o-new
      ∙ elim (dec_lt k 2) [
        | no b ↦ edition-other e₀ new big k (omega arith) ∙ kept e₀ f p₀ z e p piece long k (omega arith) o
        | yes b ↦ elim (dec_lt k 1) [
          | yes c ↦ let q : k ≡ 0 = omega arith in rw q (edition-low e₀ new big ∙ sym (pair-low f e₀ hf p₀.1 ed))
          | no c ↦ let q : k ≡ 1 = omega arith in rw q (edition-high e₀ new big ∙ sym (pair-high f e₀ hf p₀.1 ed))
        ]
      ]

  pub put_back : rewritten e₀ old new ≡ f
  put_back =
      ext_get_or 0 (rewritten e₀ old new) f back-length
      (λ k l. ⊎_elim (back_inside k) (back-outside k) (where-is (piece_start f) piece (count_of f) k))
