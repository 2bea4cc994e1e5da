-- The walk at version 1 is the frozen one, block by block.
use mathlib.Core.Path.{◌≡◌, refl, ap, ◌∙◌}
use Prim.Native.Nat.{ℕ}
use mathlib.Core.Bool.{Bool, true, false, cond}
use mathlib.Core.List.{List, [], ◌∷◌, ◌++◌}
use lib.ListN.{take, drop, replicate}
use lib.Dec.{eqb}
use Rattle.block.specs.Xors.{xors}
use Rattle.cipher.specs.Cipher.{Cipher, one}
use Rattle.mode.specs.Blocks.{blocks}
use Rattle.mode.specs.Words.{double_by}
use Rattle.mode.specs.Keys.{marked, on_low, next_key}
use Rattle.mode.specs.Mode.{start_y, start_z}
use Rattle.mode.specs.Walk.{States, mark_of, turned, hidden, message_of, walked, covered, tagged, origin, data_done}
use Rattle.mode.specs.VersionOne.{Carried, carried, begin, data_in, text_in, all_out, last_call, KeptBytes}
use Rattle.mode.proofs.Walk.{text-walk, tag-walk}

-- the walk's two states, as the frozen one carries them
abbrev told : States → Carried
told s = carried s.Y s.Z

module _ (n : ℕ) (E : List ℕ → List ℕ → List ℕ) where
  abbrev κ : Cipher
  κ = record { size = n; E = E; version = one }

  data_is : (first : ℕ) (s : States) (bs : List (List ℕ)) → told (walked κ false first 0x10 s bs) ≡ data_in n E first (told s) bs
  unfolding walked turned next_key on_low double_by marked data_in
  data_is first s [] = refl
  data_is first s (b ∷ bs) = data_is 0 (turned κ (mark_of κ first 0x10 b) s b) bs

  text-is : (d : Bool) (first : ℕ) (s : States) (bs : List (List ℕ)) → told (walked κ d first 0x40 s bs) ≡ text_in n E d first (told s) bs
  unfolding walked turned hidden next_key on_low double_by marked text_in
  text-is d first s [] = refl
  text-is d first s (b ∷ bs) =
      let m = mark_of κ first 0x40 b in
      text-is d 0 (turned κ m s (message_of κ d m s b)) bs

  out-is : (d : Bool) (first : ℕ) (s : States) (bs : List (List ℕ)) → covered κ d first 0x40 s bs ≡ all_out n E d first (told s) bs
  unfolding covered turned hidden next_key on_low double_by marked all_out
  out-is d first s [] = refl
  out-is d first s (b ∷ bs) =
      let m = mark_of κ first 0x40 b in
      ap (λ (r : List ℕ). hidden κ m s b ++ r) (out-is d 0 (turned κ m s (message_of κ d m s b)) bs)

  tag_is : (s : States) → tagged κ s ≡ last_call n E (told s)
  unfolding tagged next_key on_low double_by marked
  tag_is s = refl

  begin-is : (key nonce : List ℕ) → told (origin κ key nonce) ≡ begin n E key nonce
  unfolding start_y start_z
  begin-is key nonce = by (eqb n 16)
    where
      by : (b : Bool) → carried (cond b key (E key (cond b nonce (replicate 8 0))))
          (cond b (E key (cond b nonce (replicate 8 0))) (xors (take 15 key) nonce ++ drop 15 key))
          ≡ cond b (carried key (E key nonce)) (carried (E key (replicate 8 0)) (xors (take 15 key) nonce ++ drop 15 key))
      by true = refl
      by false = refl

  behind-is : (key nonce ad : List ℕ) → told (data_done κ key nonce ad) ≡ data_in n E 0x08 (begin n E key nonce) (blocks n ad)
  behind-is key nonce ad = data_is 0x08 (origin κ key nonce) (blocks n ad) ∙ ap (λ (c : Carried). data_in n E 0x08 c (blocks n ad)) (begin-is key nonce)

pub kept-bytes : KeptBytes
kept-bytes n E pos d key nonce ad text =
    let s = data_done (κ n E) key nonce ad in (
      text-walk (κ n E) pos key nonce ad text d
          ∙ out-is n E d 0x20 s (blocks n text)
          ∙ ap (λ (c : Carried). all_out n E d 0x20 c (blocks n text)) (behind-is n E key nonce ad),
      tag-walk (κ n E) pos key nonce ad text d
          ∙ tag_is n E (walked (κ n E) d 0x20 0x40 s (blocks n text))
          ∙ ap (last_call n E) (text-is n E d 0x20 s (blocks n text) ∙ ap (λ (c : Carried). text_in n E d 0x20 c (blocks n text)) (behind-is n E key nonce ad)),
    )
