-- Sealing and opening undo each other, whatever the key: text and tag of one direction come back from the other.
use mathlib.Core.Path.{◌≡◌, refl, sym, ap, ◌∙◌, subst}
use mathlib.Core.Bool.{Bool, true, false, not}
use Prim.Native.Nat.{ℕ}
use native.Mathlib.Nat.{le_refl, add-zero}
use mathlib.Core.List.{List, []}
use lib.ListN.{length}
use Rattle.block.specs.Bytes.{AllBytes}
use Rattle.cipher.specs.Cipher.{Cipher, Lawful, Block}
use Rattle.mode.specs.Blocks.{blocks, chop}
use Rattle.mode.specs.Mode.{nonce_size, image, trail, after, crypted, after_data, text_out, tag_out}
use Rattle.mode.proofs.Blocks.{all_blocks}
use Rattle.mode.proofs.Chain.{Good, Undone, undone, good-after, image-block, some}
use Rattle.mode.proofs.Start.{good-data}

-- of an empty text both directions make the same tag
pub empty_tag : (κ : Cipher) (key nonce ad : List ℕ) → tag_out κ true key nonce ad [] ≡ tag_out κ false key nonce ad []
unfolding tag_out trail blocks chop
empty_tag κ key nonce ad = refl

module _ (κ : Cipher) (L : Lawful κ) (key nonce ad : List ℕ) where
  whole : (d : Bool) (t : List ℕ) → AllBytes t → Undone κ L d (after_data κ key nonce ad (length t)) t
  whole d t ht = undone κ L (length t) d (after_data κ key nonce ad (length t)) t (le_refl (length t)) ht

  pub text-length : (d : Bool) (t : List ℕ) → AllBytes t → length (text_out κ d key nonce ad t) ≡ length t
  unfolding text_out
  text-length d t ht = (whole d t ht).0

  pub text-bytes : (d : Bool) (t : List ℕ) → AllBytes t → AllBytes (text_out κ d key nonce ad t)
  unfolding text_out
  text-bytes d t ht = (whole d t ht).3

  pub text-back : (d : Bool) (t : List ℕ) → AllBytes t → text_out κ (not d) key nonce ad (text_out κ d key nonce ad t) ≡ t
  unfolding text_out
  text-back d t ht =
      let o = crypted κ d (after_data κ key nonce ad (length t)) (blocks κ.size t) in
      ap (λ (l : ℕ). crypted κ (not d) (after_data κ key nonce ad l) (blocks κ.size o)) (whole d t ht).0 ∙ (whole d t ht).1

  pub tag_back : (d : Bool) (t : List ℕ) → AllBytes t → tag_out κ (not d) key nonce ad (text_out κ d key nonce ad t) ≡ tag_out κ d key nonce ad t
  unfolding text_out tag_out
  tag_back d t ht =
      let o = crypted κ d (after_data κ key nonce ad (length t)) (blocks κ.size t) in
      ap (λ (l : ℕ). image κ (after κ (not d) (after_data κ key nonce ad l) (blocks κ.size o))) (whole d t ht).0
      ∙ ap (image κ) (whole d t ht).2

  -- the tag is a block
  pub tag-block : (d : Bool) (t : List ℕ) → Block 16 key → AllBytes nonce → length nonce ≡ nonce_size κ → AllBytes ad → AllBytes t
      → Block κ.size (tag_out κ d key nonce ad t)
  unfolding tag_out
  tag-block d t hk hv lv ha ht =
      let bs = blocks κ.size t in
      let c = after_data κ key nonce ad (length t) in
      image-block κ L 0 (after κ d c bs)
      (good-after κ L d 0 c (all_blocks (length t) κ.size (some κ L) t (le_refl (length t)) ht)
      (subst (λ (f : ℕ). Good κ f c) (sym (add-zero (length bs))) (good-data κ L key nonce hk hv lv ad t ha)))
