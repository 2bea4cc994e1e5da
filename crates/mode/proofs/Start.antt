-- The start, by block size: key and nonce of the right lengths start a chain of blocks with a key for every block and the tag.
use mathlib.Core.Path.{◌≡◌, sym, ap, ap₂, ◌∙◌, subst}
use mathlib.Core.Logic.{◌⊎◌, inl, inr}
use mathlib.Core.Bool.{Bool, true, false, cond}
use Prim.Native.Nat.{ℕ, ◌+◌, ◌≤◌}
use native.Mathlib.Nat.{le_refl}
use native.Mathlib.Omega.{arith}
use mathlib.Core.List.{List, ◌++◌}
use lib.ListN.{length, take, drop, replicate, length-append, length-drop}
use lib.Dec.{eqb}
use lib.Seq.{length-take-le}
use borrow.Author.Tests.{eq-eqb, ne_eqb}
use Rattle.block.specs.Bytes.{AllBytes}
use Rattle.block.specs.Xors.{xors}
use Rattle.block.proofs.Lists.{all_take, all_drop, all_append, all_replicate}
use Rattle.block.proofs.Xors.{length-xors, all_xors}
use Rattle.cipher.specs.Cipher.{Cipher, Lawful, Block, cipher_of, size_of, nonce_of}
use Rattle.cipher.proofs.Suites as suites
use Rattle.mode.specs.Blocks.{blocks, lengths}
use Rattle.mode.specs.Keys.{marks}
use Rattle.mode.specs.Mode.{nonce_size, start_y, start_z, start, after_data}
use Rattle.mode.proofs.Blocks.{count_same, all_blocks}
use Rattle.mode.proofs.Keys.{marks-bytes, marks-count, enough_keys}
use Rattle.mode.proofs.Chain.{Good, good-after, some}

module _ (κ : Cipher) where
  -- blocks of 16
  wide_test : κ.size ≡ 16 → eqb κ.size 16 ≡ true
  wide_test e = eq-eqb κ.size 16 e

  -- blocks of 8
  narrow-test : κ.size ≡ 8 → eqb κ.size 16 ≡ false
  narrow-test e = ne_eqb κ.size 16 (λ q. omega arith)

  pub nonce_wide : κ.size ≡ 16 → nonce_size κ ≡ 16
  unfolding nonce_size
  nonce_wide e = ap (λ (t : Bool). cond t 16 15) (wide_test e)

  pub nonce_narrow : κ.size ≡ 8 → nonce_size κ ≡ 15
  unfolding nonce_size
  nonce_narrow e = ap (λ (t : Bool). cond t 16 15) (narrow-test e)

  pub nonce_most : nonce_size κ ≤ 16
  unfolding nonce_size
  nonce_most = two (eqb κ.size 16)
    where
      two : (t : Bool) → cond t 16 15 ≤ 16
      two true = omega arith
      two false = omega arith

  module _ (key nonce : List ℕ) where
    pub start_y_wide : κ.size ≡ 16 → start_y κ key nonce ≡ key
    unfolding start_y
    start_y_wide e = ap (λ (t : Bool). cond t key (κ.E key (cond t nonce (replicate 8 0)))) (wide_test e)

    pub start_y_narrow : κ.size ≡ 8 → start_y κ key nonce ≡ κ.E key (replicate 8 0)
    unfolding start_y
    start_y_narrow e = ap (λ (t : Bool). cond t key (κ.E key (cond t nonce (replicate 8 0)))) (narrow-test e)

    pub start_z_wide : κ.size ≡ 16 → start_z κ key nonce ≡ κ.E key nonce
    unfolding start_z
    start_z_wide e = ap (λ (t : Bool). cond t (κ.E key (cond t nonce (replicate 8 0))) (xors (take 15 key) nonce ++ drop 15 key)) (wide_test e)

    pub start_z_narrow : κ.size ≡ 8 → start_z κ key nonce ≡ xors (take 15 key) nonce ++ drop 15 key
    unfolding start_z
    start_z_narrow e = ap (λ (t : Bool). cond t (κ.E key (cond t nonce (replicate 8 0))) (xors (take 15 key) nonce ++ drop 15 key)) (narrow-test e)

-- the table's nonce is the mode's
pub suite_nonce : (s : ℕ) → nonce_size (cipher_of s) ≡ nonce_of s
suite_nonce s = two (suites.sizes_two s)
  where
    two : (size_of s ≡ 16) ⊎ (size_of s ≡ 8) → nonce_size (cipher_of s) ≡ nonce_of s
    two (inl e) = nonce_wide (cipher_of s) e ∙ sym (suites.nonce_wide s e)
    two (inr e) = nonce_narrow (cipher_of s) e ∙ sym (suites.nonce_narrow s e)

module _ (κ : Cipher) (L : Lawful κ) (key nonce : List ℕ) (hk : Block 16 key) (hv : AllBytes nonce) (lv : length nonce ≡ nonce_size κ) where
  pub y-block : (κ.size ≡ 16) ⊎ (κ.size ≡ 8) → Block κ.size (start_y κ key nonce)
  y-block (inl e) = subst (Block κ.size) (sym (start_y_wide κ key nonce e)) (subst (λ (n : ℕ). Block n key) (sym e) hk)
  y-block (inr e) =
      subst (Block κ.size) (sym (start_y_narrow κ key nonce e))
      (L.image key (replicate 8 0) hk (record { long = sym e; bytes = all_replicate 8 0 (omega arith) }))

  pub z-block : (κ.size ≡ 16) ⊎ (κ.size ≡ 8) → Block 16 (start_z κ key nonce)
  z-block (inl e) =
      let bv : Block κ.size nonce = record { long = lv ∙ nonce_wide κ e ∙ sym e; bytes = hv } in
      subst (Block 16) (sym (start_z_wide κ key nonce e)) (subst (λ (n : ℕ). Block n (κ.E key nonce)) e (L.image key nonce hk bv))
  z-block (inr e) =
      let lk : length key ≡ 16 = hk.long in
      let ln : length nonce ≡ 15 = lv ∙ nonce_narrow κ e in
      let lt : length (take 15 key) ≡ 15 = length-take-le 15 key (omega arith) in
      let lx : length (xors (take 15 key) nonce) ≡ 15 = length-xors (take 15 key) nonce (omega arith) ∙ lt in
      subst (Block 16) (sym (start_z_narrow κ key nonce e))
      (record {
        long = length-append (xors (take 15 key) nonce) (drop 15 key) ∙ omega (arith, length-drop 15 key);
        bytes = all_append (xors (take 15 key) nonce) (drop 15 key) (all_xors (take 15 key) nonce (all_take 15 key hk.bytes) hv)
            (all_drop 15 key hk.bytes);
      })

  pub good_start : (a m : ℕ) → Good κ (length (lengths κ.size a) + length (lengths κ.size m)) (start κ key nonce a m)
  unfolding start
  good_start a m =
      let f = length (lengths κ.size a) + length (lengths κ.size m) in
      record {
        y = y-block L.sizes;
        enough =
            enough_keys κ.version f (start_z κ key nonce) (marks κ.version κ.size a m) (z-block L.sizes) (marks-bytes κ.version κ.size a m)
            (omega (arith, marks-count κ.version κ.size a m));
      }

  -- in blocks of the two texts
  pub good-start-blocks : (a m : List ℕ) → Good κ (length (blocks κ.size a) + length (blocks κ.size m)) (start κ key nonce (length a) (length m))
  good-start-blocks a m =
      let n = κ.size in
      subst (λ (f : ℕ). Good κ f (start κ key nonce (length a) (length m)))
      (sym (ap₂ (λ (x y : ℕ). x + y) (count_same n (some κ L) a) (count_same n (some κ L) m)))
      (good_start (length a) (length m))

  pub good-data : (a m : List ℕ) → AllBytes a → Good κ (length (blocks κ.size m)) (after_data κ key nonce a (length m))
  unfolding after_data
  good-data a m ha =
      good-after κ L false (length (blocks κ.size m)) (start κ key nonce (length a) (length m))
      (all_blocks (length a) κ.size (some κ L) a (le_refl (length a)) ha) (good-start-blocks a m)
