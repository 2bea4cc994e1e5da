-- What the code computed for a part of the message, or for the end, is what the definition gives.
use mathlib.Core.Path.{◌≡◌, refl, ap, ap₂, ◌∙◌}
use mathlib.Core.Bool.{false}
use Prim.Native.Nat.{ℕ, ◌+◌, ◌%◌}
use native.Mathlib.Nat.{suc-ne-zero}
use mathlib.Core.List.{List, [], ◌∷◌, ◌++◌}
use lib.ListN.{length, take}
use Rattle.block.specs.Blocks.{filled}
use Rattle.cipher.specs.Cipher.{Cipher, cipher_of}
use Rattle.mode.specs.Blocks.{blocks}
use Rattle.mode.specs.Walk.{States, whole, rest, walked, covered, tagged}
use Rattle.session_blocks.specs.Written.{written}
use Rattle.session.specs.Value.{Value, value_of, gave, first_mark, begun, text_states, blocks_out, text_in, part_out, text_given, text_done, end_out}
use Rattle.session.specs.Value.{end_tag, end_done, over}

-- two, n and m are what the code found for the states, the block's size and the first mark
module _ (v : Value) (two : States) (n m : ℕ)
    (e2 : two ≡ begun (cipher_of v.suite) v) (en : n ≡ (cipher_of v.suite).size) (em : m ≡ first_mark (cipher_of v.suite) 0x20 v.text_total) where
  abbrev κ : Cipher
  κ = cipher_of v.suite

  module _ (p : List ℕ) where
    abbrev text : List ℕ
    text = take (v.text_total % n) v.held ++ p

    abbrev new : List ℕ
    new = covered κ false m 0x40 two (blocks κ.size (whole κ.size text))

    new_is : new ≡ part_out κ v p
    unfolding part_out blocks_out
    new_is = λ i. covered κ false (em i) 0x40 (e2 i) (blocks κ.size (whole κ.size (take (v.text_total % en i) v.held ++ p)))

    next_is : (next : Value) (su : States) (g : List ℕ) → next ≡ value_of v.suite su g v.ad_total (v.text_total + length p)
        → su ≡ walked κ false m 0x40 two (blocks κ.size (whole κ.size text)) → g ≡ filled (rest κ.size text) → next ≡ text_in κ v p
    unfolding text_in text_states
    next_is next su g e es eg =
        e ∙ ap₂ (λ (s : States) (h : List ℕ). value_of v.suite s h v.ad_total (v.text_total + length p)) es eg
        ∙ (λ i. value_of v.suite (walked κ false (em i) 0x40 (e2 i) (blocks κ.size (whole κ.size (take (v.text_total % en i) v.held ++ p))))
        (filled (rest κ.size (take (v.text_total % en i) v.held ++ p))) v.ad_total (v.text_total + length p))

    pub part-given : (out o : List ℕ) (count : ℕ) (next : Value) (su : States) (g : List ℕ) → o ≡ written new out → count ≡ length new
        → next ≡ value_of v.suite su g v.ad_total (v.text_total + length p)
        → su ≡ walked κ false m 0x40 two (blocks κ.size (whole κ.size text)) → g ≡ filled (rest κ.size text)
        → gave 0 count next o [] ≡ text_given v p out
    part-given out o count next su g eo ec e es eg =
        (λ i. gave 0 (ec i) (next_is next su g e es eg i) (eo i) []) ∙ ap (λ (w : List ℕ). gave 0 (length w) (text_in κ v p) (written w out) []) new_is

  -- the end: the held bytes are all that is left
  abbrev last : List ℕ
  last = take (v.text_total % n) v.held

  end-out-is : covered κ false m 0x40 two (blocks κ.size last) ≡ end_out κ v
  unfolding end_out blocks_out
  end-out-is = λ i. covered κ false (em i) 0x40 (e2 i) (blocks κ.size (take (v.text_total % en i) v.held))

  end-tag-is : tagged κ (walked κ false m 0x40 two (blocks κ.size last)) ≡ end_tag κ v
  unfolding end_tag text_states
  end-tag-is = λ i. tagged κ (walked κ false (em i) 0x40 (e2 i) (blocks κ.size (take (v.text_total % en i) v.held)))

  pub end-given : (out o t : List ℕ) (count : ℕ) (next : Value) (su : States) → o ≡ written (covered κ false m 0x40 two (blocks κ.size last)) out
      → count ≡ length (covered κ false m 0x40 two (blocks κ.size last)) → next ≡ over → su ≡ walked κ false m 0x40 two (blocks κ.size last)
      → t ≡ tagged κ su
      → gave 0 count next o t ≡ end_done v out
  end-given out o t count next su eo ec e es et =
      let et' : t ≡ end_tag κ v = et ∙ ap (tagged κ) es ∙ end-tag-is in
      (λ i. gave 0 (ec i) (e i) (eo i) (et' i)) ∙ ap (λ (w : List ℕ). gave 0 (length w) over (written w out) (end_tag κ v)) end-out-is

-- an empty part, and any other
pub done_empty : (v : Value) (p out : List ℕ) → length p ≡ 0 → gave 0 0 v out [] ≡ text_done v p out
done_empty v [] out e = refl
done_empty v (x ∷ p) out e = absurd (suc-ne-zero (length p) e)

pub done_more : (v : Value) (p out : List ℕ) → (length p ≡ 0 → ⊥) → text_given v p out ≡ text_done v p out
done_more v [] out h = absurd (h refl)
done_more v (x ∷ p) out h = refl

-- the number is 0 for both
pub done-number : (v : Value) (p out : List ℕ) → (text_done v p out).number ≡ 0
done-number v [] out = refl
done-number v (x ∷ p) out = refl
