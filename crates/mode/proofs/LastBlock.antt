-- A ciphertext altered in its last block alone opens to a message that differs in its last block alone, so its tag differs too.
use mathlib.Core.Path.{◌≡◌, refl, sym, ap, ap₂, ◌∙◌, subst}
use mathlib.Core.Bool.{Bool, true, false}
use Prim.Native.Nat.{ℕ, ◌+◌, ◌*◌, ◌≤◌, ◌<◌}
use native.Mathlib.Nat.{le_refl}
use native.Mathlib.Omega.{arith}
use mathlib.Core.List.{List, [], ◌∷◌, ◌++◌, append_assoc}
use lib.ListN.{length, take, drop, drop_of_length-le}
use lib.Seq.{take_at, length-take-le}
use Rattle.block.specs.Bytes.{AllBytes}
use Rattle.block.proofs.Lists.{all_take}
use Rattle.cipher.specs.Cipher.{Cipher, Lawful, Block}
use Rattle.mode.specs.Blocks.{blocks}
use Rattle.mode.specs.Mode.{Chain, nonce_size, absorbed, masked, message, trail, after, crypted, after_data, text_out, tag_out}
use Rattle.mode.proofs.Blocks.{blocks-split}
use Rattle.mode.proofs.Chain.{undone, some}
use Rattle.mode.proofs.Demand2.{text-length, text-bytes, text-back, tag_back}
use Rattle.mode.proofs.Demand3.{message-told}

crypted_append : (κ : Cipher) (d : Bool) (c : Chain) (xs bs : List (List ℕ)) → crypted κ d c (xs ++ bs) ≡ crypted κ d c xs ++ crypted κ d (after κ d c xs) bs
unfolding trail
crypted_append κ d c [] bs = refl
crypted_append κ d c (b ∷ xs) bs =
    ap (λ (r : List ℕ). masked κ c b ++ r) (crypted_append κ d (absorbed κ c (message κ d c b)) xs bs)
    ∙ sym (append_assoc (masked κ c b) _ _)

module _ (κ : Cipher) (L : Lawful κ) (j : ℕ) where
  -- the first j blocks that are output, from the first j blocks that come in
  front : (d : Bool) (c : Chain) (x : List ℕ) → AllBytes x → j * κ.size < length x
      → take (j * κ.size) (crypted κ d c (blocks κ.size x)) ≡ crypted κ d c (blocks κ.size (take (j * κ.size) x))
  front d c x hx h =
      let n = κ.size in
      let p = take (j * n) x in
      let lp : length p ≡ j * n = length-take-le (j * n) x (omega arith) in
      ap (take (j * n)) (ap (crypted κ d c) (blocks-split n (some κ L) j x h) ∙ crypted_append κ d c (blocks n p) _)
      ∙ take_at (crypted κ d c (blocks n p)) _ (j * n) ((undone κ L (length p) d c p (le_refl (length p)) (all_take (j * n) x hx)).0 ∙ lp)

  module _ (key nonce ad x y : List ℕ) (hx : AllBytes x) (hy : AllBytes y) (l : length x ≡ length y)
      (inside : j * κ.size < length x) (last : length x ≤ j * κ.size + κ.size) (before : take (j * κ.size) x ≡ take (j * κ.size) y) where
    text-before : (d : Bool) → take (j * κ.size) (text_out κ d key nonce ad x) ≡ take (j * κ.size) (text_out κ d key nonce ad y)
    unfolding text_out
    text-before d =
        let n = κ.size in
        let C : ℕ → Chain = λ k. after_data κ key nonce ad k in
        front d (C (length x)) x hx inside
        ∙ ap₂ (λ (k : ℕ) (p : List ℕ). crypted κ d (C k) (blocks n p)) l before
        ∙ sym (front d (C (length y)) y hy (subst (λ (k : ℕ). j * n < k) l inside))

    -- two ciphertexts that differ in the last block alone: equal tags only if they are equal
    pub last-told : Block 16 key → AllBytes nonce → length nonce ≡ nonce_size κ → AllBytes ad → tag_out κ true key nonce ad x ≡ tag_out κ true key nonce ad y
        → x ≡ y
    last-told hk hv lv ha e =
        let n = κ.size in
        let u = text_out κ true key nonce ad x in
        let w = text_out κ true key nonce ad y in
        let hu : AllBytes u = text-bytes κ L key nonce ad true x hx in
        let hw : AllBytes w = text-bytes κ L key nonce ad true y hy in
        let lu : length u ≡ length x = text-length κ L key nonce ad true x hx in
        let lw : length w ≡ length y = text-length κ L key nonce ad true y hy in
        let behind : drop (j * n + n) u ≡ drop (j * n + n) w =
        drop_of_length-le u {i = j * n + n} (omega arith) ∙ sym (drop_of_length-le w {i = j * n + n} (omega arith)) in
        let same : u ≡ w =
        message-told κ L j u w hu hw (lu ∙ l ∙ sym lw) (text-before true) behind key nonce ad hk hv lv ha
        (tag_back κ L key nonce ad true x hx ∙ e ∙ sym (tag_back κ L key nonce ad true y hy)) in
        sym (text-back κ L key nonce ad true x hx) ∙ ap (text_out κ false key nonce ad) same ∙ text-back κ L key nonce ad true y hy
