-- A chain that starts with blocks keeps to blocks, and one direction of the text undoes the other: each step puts the same message block in.
use mathlib.Core.Path.{◌≡◌, refl, sym, ap, ap₂, ◌∙◌, subst}
use mathlib.Core.Logic.{◌⊎◌, inl, inr}
use mathlib.Core.Bool.{Bool, true, false, not}
use Prim.Native.Nat.{ℕ, zero, suc, ◌+◌, ◌-◌, ◌≤◌, ◌<◌, min}
use native.Mathlib.Nat.{suc-add, zero-add}
use native.Mathlib.Omega.{arith}
use native.Mathlib.Decide.{dec_le}
use mathlib.Core.List.{List, [], ◌∷◌, ◌++◌}
use lib.ListN.{length, take, drop, length-append, length-drop, length-take, take-append-drop}
use Rattle.block.specs.Bytes.{AllBytes}
use Rattle.block.specs.Xors.{xors}
use Rattle.block.proofs.Lists.{nil_of, all_take, all_drop, all_append}
use Rattle.block.proofs.Xors.{length-xors, all_xors, xors_cancel}
use Rattle.cipher.specs.Cipher.{Cipher, Lawful, Block}
use Rattle.mode.specs.Blocks.{blocks}
use Rattle.mode.specs.Words.{shuffle, pad}
use Rattle.mode.specs.Mode.{Chain, first_key, image, absorbed, masked, message, trail, after, crypted}
use Rattle.mode.proofs.Blocks.{blocks-nil, blocks_more, blocks-cons, AllBlocks, none, more}
use Rattle.mode.proofs.Words.{pad_block, shuffle_block}
use Rattle.mode.proofs.Keys.{Enough, enough_first}

pub xors_block : (n : ℕ) (s t : List ℕ) → Block n s → Block n t → Block n (xors s t)
xors_block n s t a b =
    let la : length s ≡ n = a.long in
    let lb : length t ≡ n = b.long in
    record { long = length-xors s t (omega arith) ∙ la; bytes = all_xors s t a.bytes b.bytes }

-- Y is a block, and there are keys for f blocks and the tag
pub record Good (κ : Cipher) (f : ℕ) (c : Chain) : Type 0 where
  pub y : Block κ.size c.Y
  pub enough : Enough f c.left

module _ (κ : Cipher) (L : Lawful κ) where
  pub some : 0 < κ.size
  some = two L.sizes
    where
      two : (κ.size ≡ 16) ⊎ (κ.size ≡ 8) → 0 < κ.size
      two (inl e) = omega arith
      two (inr e) = omega arith

  pub image-block : (f : ℕ) (c : Chain) → Good κ f c → Block κ.size (image κ c)
  image-block f c g = L.image (first_key c.left) c.Y (enough_first f c.left g.enough) g.y

  pub good-absorbed : (f : ℕ) (c : Chain) (b : List ℕ) → Good κ (suc f) c → AllBytes b → length b ≤ κ.size → Good κ f (absorbed κ c b)
  unfolding absorbed
  good-absorbed f c b g hb lb =
      record {
        y = xors_block κ.size (image κ c) (pad κ.size b) (image-block (suc f) c g) (pad_block κ.size b lb hb);
        enough = g.enough.1;
      }

  -- ---- a block of text

  pub length-masked : (c : Chain) (b : List ℕ) → length b ≤ κ.size → length (masked κ c b) ≡ length b
  unfolding masked
  length-masked c b h = length-xors b (shuffle κ.size (image κ c)) (omega (arith, (shuffle_block κ.size (image κ c) L.sizes).long))

  pub all-masked : (c : Chain) (b : List ℕ) → AllBytes b → AllBytes (masked κ c b)
  unfolding masked
  all-masked c b hb = all_xors b (shuffle κ.size (image κ c)) hb (shuffle_block κ.size (image κ c) L.sizes).bytes

  -- unmasking takes the mask off
  masked-twice : (c : Chain) (b : List ℕ) → length b ≤ κ.size → masked κ c (masked κ c b) ≡ b
  unfolding masked
  masked-twice c b h = xors_cancel b (shuffle κ.size (image κ c)) (omega (arith, (shuffle_block κ.size (image κ c) L.sizes).long))

  -- the output, read in the other direction, is the same message block
  message-back : (d : Bool) (c : Chain) (b : List ℕ) → length b ≤ κ.size → message κ (not d) c (masked κ c b) ≡ message κ d c b
  unfolding message
  message-back true c b h = refl
  message-back false c b h = masked-twice c b h

  pub length-message : (d : Bool) (c : Chain) (b : List ℕ) → length b ≤ κ.size → length (message κ d c b) ≡ length b
  unfolding message
  length-message true c b h = length-masked c b h
  length-message false c b h = refl

  pub all-message : (d : Bool) (c : Chain) (b : List ℕ) → AllBytes b → AllBytes (message κ d c b)
  unfolding message
  all-message true c b hb = all-masked c b hb
  all-message false c b hb = hb

  pub good-message : (d : Bool) (f : ℕ) (c : Chain) (b : List ℕ) → Good κ (suc f) c → AllBytes b → length b ≤ κ.size
      → Good κ f (absorbed κ c (message κ d c b))
  good-message d f c b g hb lb = good-absorbed f c (message κ d c b) g (all-message d c b hb) (omega (arith, length-message d c b lb))

  pub good-after : (d : Bool) (f : ℕ) (c : Chain) {bs : List (List ℕ)} → AllBlocks κ.size bs → Good κ (length bs + f) c → Good κ f (after κ d c bs)
  unfolding trail
  good-after d f c none g = subst (λ (k : ℕ). Good κ k c) (zero-add f) g
  good-after d f c (more {b = b} {bs = bs} hb lb hbs) g =
      good-after d f (absorbed κ c (message κ d c b)) hbs
      (good-message d (length bs + f) c b (subst (λ (k : ℕ). Good κ k c) (suc-add (length bs) f) g) hb lb)

  -- ---- a whole text, read in one direction and then in the other

  abbrev pub Undone : Bool → Chain → List ℕ → Type 0
  Undone d c t =
      let n : ℕ = κ.size in
      let o : List ℕ = crypted κ d c (blocks n t) in
      (length o ≡ length t) × (crypted κ (not d) c (blocks n o) ≡ t) × (after κ (not d) c (blocks n o) ≡ after κ d c (blocks n t)) × AllBytes o

  undo-none : (d : Bool) (c : Chain) (t : List ℕ) → length t ≡ 0 → Undone d c t
  unfolding trail
  undo-none d c t e =
      let n = κ.size in
      let bt : blocks n t ≡ [] = ap (blocks n) (nil_of t e) ∙ blocks-nil n some in
      let o : crypted κ d c (blocks n t) ≡ [] = ap (crypted κ d c) bt in
      let bo : blocks n (crypted κ d c (blocks n t)) ≡ [] = ap (blocks n) o ∙ blocks-nil n some in (
        ap length o ∙ sym e,
        ap (crypted κ (not d) c) bo ∙ sym (nil_of t e),
        ap (after κ (not d) c) bo ∙ sym (ap (after κ d c) bt),
        subst AllBytes (sym o) (λ i. omega arith),
      )

  undo-more : (d : Bool) (c : Chain) (t : List ℕ) → 0 < length t → AllBytes t
      → Undone d (absorbed κ c (message κ d c (take κ.size t))) (drop κ.size t) → Undone d c t
  unfolding trail
  undo-more d c t p ht ih =
      let n = κ.size in
      let b = take n t in
      let r = drop n t in
      let x = masked κ c b in
      let c' = absorbed κ c (message κ d c b) in
      let o' = crypted κ d c' (blocks n r) in
      let lb : length b ≡ min n (length t) = length-take n t in
      let lr : length r ≡ length t - n = length-drop n t in
      let lx : length x ≡ length b = length-masked c b (omega arith) in
      let pos : 0 < n = some in
      let eo : crypted κ d c (blocks n t) ≡ x ++ o' = ap (crypted κ d c) (blocks_more n pos t p) in
      let full : (length x ≡ n) ⊎ (o' ≡ []) = elim (dec_le n (length t)) [ yes h ↦ inl (omega arith) | no h ↦ inr (nil_of o' (ih.0 ∙ omega arith)) ] in
      let eb : blocks n (crypted κ d c (blocks n t)) ≡ x ∷ blocks n o' = ap (blocks n) eo ∙ blocks-cons n pos x o' (omega arith) (omega arith) full in
      let eu : masked κ c x ≡ b = masked-twice c b (omega arith) in
      let em : absorbed κ c (message κ (not d) c x) ≡ c' = ap (absorbed κ c) (message-back d c b (omega arith)) in (
        ap length eo ∙ length-append x o' ∙ omega (arith, ih.0),
        ap (crypted κ (not d) c) eb ∙ ap₂ (λ (u : List ℕ) (v : Chain). u ++ crypted κ (not d) v (blocks n o')) eu em ∙ ap (λ (u : List ℕ). b ++ u) ih.1
            ∙ take-append-drop n t,
        ap (after κ (not d) c) eb ∙ ap (λ (v : Chain). after κ (not d) v (blocks n o')) em ∙ ih.2 ∙ sym (ap (after κ d c) (blocks_more n pos t p)),
        subst AllBytes (sym eo) (all_append x o' (all-masked c b (all_take n t ht)) ih.3),
      )

  pub undone : (f : ℕ) (d : Bool) (c : Chain) (t : List ℕ) → length t ≤ f → AllBytes t → Undone d c t
  undone zero d c t h ht = undo-none d c t (omega arith)
  undone (suc f) d c t h ht =
      elim (dec_le 1 (length t)) [
        | yes p ↦ undo-more d c t p ht
            (undone f d (absorbed κ c (message κ d c (take κ.size t))) (drop κ.size t) (omega (arith, length-drop κ.size t, some))
            (all_drop κ.size t ht))
        | no p ↦ undo-none d c t (omega arith)
      ]
