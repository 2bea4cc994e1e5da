-- Each accepted call takes the value after the bytes so far to the value after those bytes and its own, whatever the bytes so far were cut into.
use mathlib.Core.Path.{◌≡◌, refl, sym, ap, ap₂, ◌∙◌}
use mathlib.Core.Bool.{Bool, false, cond}
use Prim.Native.Nat.{ℕ, ◌-◌, ◌*◌, ◌/◌, ◌%◌, ◌<◌}
use native.Mathlib.Nat.{le_refl, zero-mod}
use native.Mathlib.Omega.{arith}
use mathlib.Core.List.{List, [], ◌∷◌, ◌++◌}
use lib.ListN.{length, take, replicate, length-append}
use lib.Seq.{take_at}
use borrow.Author.Tests.{ne_eqb}
use Rattle.block.specs.Bytes.{AllBytes}
use Rattle.block.proofs.Lists.{all_take}
use Rattle.block.specs.Blocks.{filled}
use Rattle.cipher.specs.Cipher.{Cipher, Lawful, Block, cipher_of, nonce_of}
use Rattle.cipher.proofs.Lawful.{lawful}
use Rattle.mode.specs.Blocks.{blocks}
use Rattle.mode.specs.Mode.{ciphertext, tag}
use Rattle.mode.proofs.Blocks.{blocks-nil, all_blocks}
use Rattle.mode.proofs.Chain.{some}
use Rattle.mode.proofs.Start.{suite_nonce, y-block, z-block}
use Rattle.mode.specs.Walk.{States, whole, rest, walked, covered, tagged, origin, data_done}
use Rattle.session.specs.Value.{Value, fresh, states, held_of, first_mark, data_states, data_in, begun, text_states, blocks_out, text_in, part_out, end_out}
use Rattle.session.specs.Value.{end_tag}
use Rattle.session.proofs.Joined.{data_so_far, text_so_far, out_so_far, states_so_far, so_far}
use Rattle.mode.proofs.Cut.{length_rest, whole-short, rest-short, blocks-whole-rest, blocks-more-bytes, rest_more}
use Rattle.block_state.proofs.Clean.{states_path}
use Rattle.mode.proofs.Walk.{walked-append, covered-append, Fine, walked-fine, later_first, text-walk, tag-walk}

-- ---- a walk over the whole blocks of l goes on with what comes after l

module _ (κ : Cipher) (pos : 0 < κ.size) (first short : ℕ) (s : States) (l : List ℕ) where
  abbrev n : ℕ
  n = κ.size

  abbrev up_to : States
  up_to = walked κ false first short s (blocks n (whole n l))

  -- xs, the next blocks
  on : (xs : List (List ℕ)) → walked κ false (first_mark κ first (length l)) short up_to xs ≡ walked κ false first short s (blocks n (whole n l) ++ xs)
  on xs = ap (λ (m : ℕ). walked κ false m short up_to xs) (sym (later_first n first pos l)) ∙ sym (walked-append κ false first short s (blocks n (whole n l)) xs)

  out-on : (xs : List (List ℕ)) → covered κ false first short s (blocks n (whole n l)) ++ covered κ false (first_mark κ first (length l)) short up_to xs
      ≡ covered κ false first short s (blocks n (whole n l) ++ xs)
  out-on xs =
      ap (λ (m : ℕ). covered κ false first short s (blocks n (whole n l)) ++ covered κ false m short up_to xs) (sym (later_first n first pos l))
      ∙ sym (covered-append κ false first short s (blocks n (whole n l)) xs)

  pub walk_more : (p : List ℕ) → walked κ false (first_mark κ first (length l)) short up_to (blocks n (whole n (rest n l ++ p)))
      ≡ walked κ false first short s (blocks n (whole n (l ++ p)))
  walk_more p = on (blocks n (whole n (rest n l ++ p))) ∙ ap (walked κ false first short s) (sym (blocks-more-bytes n pos l p))

  pub walk-last : walked κ false (first_mark κ first (length l)) short up_to (blocks n (rest n l)) ≡ walked κ false first short s (blocks n l)
  walk-last = on (blocks n (rest n l)) ∙ ap (walked κ false first short s) (blocks-whole-rest n pos l)

  pub out-more : (p : List ℕ) → covered κ false first short s (blocks n (whole n l)) ++ covered κ false (first_mark κ first (length l)) short up_to
      (blocks n (whole n (rest n l ++ p)))
      ≡ covered κ false first short s (blocks n (whole n (l ++ p)))
  out-more p = out-on (blocks n (whole n (rest n l ++ p))) ∙ ap (covered κ false first short s) (sym (blocks-more-bytes n pos l p))

  pub out-last : covered κ false first short s (blocks n (whole n l)) ++ covered κ false (first_mark κ first (length l)) short up_to (blocks n (rest n l))
      ≡ covered κ false first short s (blocks n l)
  out-last = out-on (blocks n (rest n l)) ∙ ap (covered κ false first short s) (blocks-whole-rest n pos l)

module _ (suite : ℕ) (key nonce : List ℕ) (hk : Block 16 key) (hv : AllBytes nonce) (lv : length nonce ≡ nonce_of suite) where
  abbrev κ : Cipher
  κ = cipher_of suite

  L : Lawful κ
  L = lawful suite

  pos : 0 < κ.size
  pos = some κ L

  abbrev value : List ℕ → List ℕ → Value
  value a m = so_far suite key nonce a m

  origin-fine : Fine κ (origin κ key nonce)
  origin-fine =
      let ln = lv ∙ sym (suite_nonce suite) in
      record { y = y-block κ L key nonce hk hv ln L.sizes; z = z-block κ L key nonce hk hv ln L.sizes }

  bytes-in : (l : List ℕ) → AllBytes l → Rattle.mode.proofs.Blocks.AllBlocks κ.size (blocks κ.size l)
  bytes-in l h = all_blocks (length l) κ.size pos l (le_refl (length l)) h

  whole-bytes : (l : List ℕ) → AllBytes l → AllBytes (whole κ.size l)
  unfolding whole
  whole-bytes l h = all_take (length l / κ.size * κ.size) l h

  done-fine : (a : List ℕ) → AllBytes a → Fine κ (data_done κ key nonce a)
  done-fine a ha = walked-fine κ L false 0x08 0x10 (origin κ key nonce) (omega arith) (omega arith) (bytes-in a ha) origin-fine

  so-far-fine : (a m : List ℕ) → AllBytes a → AllBytes m → Fine κ (states_so_far κ key nonce a m)
  so-far-fine a [] ha hm = walked-fine κ L false 0x08 0x10 (origin κ key nonce) (omega arith) (omega arith) (bytes-in _ (whole-bytes a ha)) origin-fine
  so-far-fine a (x ∷ m) ha hm = walked-fine κ L false 0x20 0x40 (data_done κ key nonce a) (omega arith) (omega arith) (bytes-in _ (whole-bytes (x ∷ m) hm))
      (done-fine a ha)

  -- the states are read back from the value
  pub states-are : (a m : List ℕ) → AllBytes a → AllBytes m → states κ (value a m) ≡ states_so_far κ key nonce a m
  unfolding so_far
  states-are a m ha hm =
      let s = states_so_far κ key nonce a m in
      states_path (take_at s.Y (replicate (16 - length s.Y) 0) κ.size (so-far-fine a m ha hm).y.long) refl

  -- the held bytes are read back too
  back : (l : List ℕ) → take (length l % κ.size) (filled (rest κ.size l)) ≡ rest κ.size l
  back l = take_at (rest κ.size l) _ (length l % κ.size) (length_rest κ.size pos l)

  pub data_held : (a : List ℕ) → held_of κ (value a []) (length a) ≡ rest κ.size a
  unfolding so_far
  data_held a = back a

  pub text-held : (a m : List ℕ) → held_of κ (value a m) (length m) ≡ rest κ.size m
  unfolding so_far
  text-held a [] = ap (λ (k : ℕ). take k (filled (rest κ.size a))) (zero-mod κ.size) ∙ sym (rest-short κ.size pos [] pos)
  text-held a (x ∷ m) = back (x ∷ m)

  -- ---- associated data

  data-states : (a p : List ℕ) → AllBytes a → data_states κ (value a []) p ≡ data_so_far κ key nonce (a ++ p)
  unfolding data_states so_far
  data-states a p ha =
      ap₂ (λ (s : States) (h : List ℕ). walked κ false (first_mark κ 0x08 (length a)) 0x10 s (blocks κ.size (whole κ.size (h ++ p))))
      (states-are a [] ha (λ i. omega arith)) (data_held a)
      ∙ walk_more κ pos 0x08 0x10 (origin κ key nonce) a p

  value-path : {s t : States} {h g : List ℕ} {a b c d : ℕ} → s ≡ t → h ≡ g → a ≡ b → c ≡ d
      → ◌≡◌ {A = Value} (record { suite = suite; Y = filled s.Y; Z = s.Z; held = filled h; ad_total = a; text_total = c })
      (record { suite = suite; Y = filled t.Y; Z = t.Z; held = filled g; ad_total = b; text_total = d })
  value-path p q r e = λ i. record { suite = suite; Y = filled (p i).Y; Z = (p i).Z; held = filled (q i); ad_total = r i; text_total = e i }

  pub data-more : (a p : List ℕ) → AllBytes a → data_in κ (value a []) p ≡ value (a ++ p) []
  unfolding data_in so_far
  data-more a p ha =
      value-path (data-states a p ha) (ap (λ (h : List ℕ). rest κ.size (h ++ p)) (data_held a) ∙ sym (rest_more κ.size pos a p))
      (sym (length-append a p)) refl

  -- ---- message

  pub begun-is : (a m : List ℕ) → AllBytes a → AllBytes m → begun κ (value a m) ≡ text_so_far κ key nonce a m
  unfolding begun walked so_far
  begun-is a [] ha hm =
      ap₂ (λ (s : States) (h : List ℕ). walked κ false (first_mark κ 0x08 (length a)) 0x10 s (blocks κ.size h)) (states-are a [] ha hm) (data_held a)
      ∙ walk-last κ pos 0x08 0x10 (origin κ key nonce) a
      ∙ sym (ap (walked κ false 0x20 0x40 (data_done κ key nonce a)) (ap (blocks κ.size) (whole-short κ.size pos [] pos) ∙ blocks-nil κ.size pos))
  begun-is a (x ∷ m) ha hm =
      let v = value a (x ∷ m) in
      ap (λ (t : Bool). cond t (walked κ false (first_mark κ 0x08 v.ad_total) 0x10 (states κ v) (blocks κ.size (held_of κ v v.ad_total)))
      (states κ v)) (ne_eqb (length (x ∷ m)) 0 (λ e. omega arith))
      ∙ states-are a (x ∷ m) ha hm

  text-states : (a m l : List ℕ) → AllBytes a → AllBytes m → text_states κ (value a m) l
      ≡ walked κ false (first_mark κ 0x20 (length m)) 0x40 (text_so_far κ key nonce a m) (blocks κ.size l)
  unfolding text_states so_far
  text-states a m l ha hm = ap (λ (s : States). walked κ false (first_mark κ 0x20 (length m)) 0x40 s (blocks κ.size l)) (begun-is a m ha hm)

  text_out : (a m l : List ℕ) → AllBytes a → AllBytes m → blocks_out κ (value a m) l
      ≡ covered κ false (first_mark κ 0x20 (length m)) 0x40 (text_so_far κ key nonce a m) (blocks κ.size l)
  unfolding blocks_out so_far
  text_out a m l ha hm = ap (λ (s : States). covered κ false (first_mark κ 0x20 (length m)) 0x40 s (blocks κ.size l)) (begun-is a m ha hm)

  -- the output for a part is the next piece of the ciphertext
  pub part_out_lem : (a m p : List ℕ) → AllBytes a → AllBytes m → out_so_far κ key nonce a m ++ part_out κ (value a m) p ≡ out_so_far κ key nonce a (m ++ p)
  unfolding part_out so_far
  part_out_lem a m p ha hm =
      ap (λ (o : List ℕ). out_so_far κ key nonce a m ++ o)
      (ap (λ (h : List ℕ). blocks_out κ (value a m) (whole κ.size (h ++ p))) (text-held a m) ∙ text_out a m (whole κ.size (rest κ.size m ++ p)) ha hm)
      ∙ out-more κ pos 0x20 0x40 (data_done κ key nonce a) m p

  part-states : (a m p : List ℕ) → AllBytes a → AllBytes m
      → text_states κ (value a m) (whole κ.size (held_of κ (value a m) (length m) ++ p)) ≡ text_so_far κ key nonce a (m ++ p)
  part-states a m p ha hm =
      ap (λ (h : List ℕ). text_states κ (value a m) (whole κ.size (h ++ p))) (text-held a m)
      ∙ text-states a m (whole κ.size (rest κ.size m ++ p)) ha hm
      ∙ walk_more κ pos 0x20 0x40 (data_done κ key nonce a) m p

  part-rest : (a m p : List ℕ) → rest κ.size (held_of κ (value a m) (length m) ++ p) ≡ rest κ.size (m ++ p)
  part-rest a m p = ap (λ (h : List ℕ). rest κ.size (h ++ p)) (text-held a m) ∙ sym (rest_more κ.size pos m p)

  pub text-more : (a m : List ℕ) (x : ℕ) (p : List ℕ) → AllBytes a → AllBytes m → text_in κ (value a m) (x ∷ p) ≡ value a (m ++ (x ∷ p))
  unfolding text_in so_far
  text-more a [] x p ha hm = value-path (part-states a [] (x ∷ p) ha hm) (part-rest a [] (x ∷ p)) refl (sym (length-append [] (x ∷ p)))
  text-more a (y ∷ m) x p ha hm = value-path (part-states a (y ∷ m) (x ∷ p) ha hm) (part-rest a (y ∷ m) (x ∷ p)) refl (sym (length-append (y ∷ m) (x ∷ p)))

  -- ---- the end

  pub end-out : (a m : List ℕ) → AllBytes a → AllBytes m → out_so_far κ key nonce a m ++ end_out κ (value a m) ≡ ciphertext κ key nonce a m
  unfolding end_out so_far
  end-out a m ha hm =
      ap (λ (o : List ℕ). out_so_far κ key nonce a m ++ o)
      (ap (blocks_out κ (value a m)) (text-held a m) ∙ text_out a m (rest κ.size m) ha hm)
      ∙ out-last κ pos 0x20 0x40 (data_done κ key nonce a) m
      ∙ sym (text-walk κ pos key nonce a m false)

  pub end-tag : (a m : List ℕ) → AllBytes a → AllBytes m → end_tag κ (value a m) ≡ tag κ key nonce a m
  unfolding end_tag so_far
  end-tag a m ha hm =
      ap (tagged κ)
      (ap (text_states κ (value a m)) (text-held a m)
      ∙ text-states a m (rest κ.size m) ha hm
      ∙ walk-last κ pos 0x20 0x40 (data_done κ key nonce a) m)
      ∙ sym (tag-walk κ pos key nonce a m false)

  -- ---- the start

  pub fresh-is : fresh suite key nonce ≡ value [] []
  unfolding so_far walked
  fresh-is =
      value-path {h = []} (ap (walked κ false 0x08 0x10 (origin κ key nonce))
      (sym (ap (blocks κ.size) (whole-short κ.size pos [] pos) ∙ blocks-nil κ.size pos)))
      (sym (rest-short κ.size pos [] pos)) refl refl

  -- no message byte, no ciphertext
  pub none_out : (a : List ℕ) → out_so_far κ key nonce a [] ≡ []
  unfolding covered
  none_out a = ap (covered κ false 0x20 0x40 (data_done κ key nonce a)) (ap (blocks κ.size) (whole-short κ.size pos [] pos) ∙ blocks-nil κ.size pos)
