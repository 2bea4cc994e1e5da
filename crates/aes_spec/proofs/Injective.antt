-- Every image is a block, and no two blocks share one: each step can be undone. The columns' map, applied four times, changes nothing.
use mathlib.Core.Path.{◌≡◌, refl, sym, ap, ap₂, ◌∙◌}
use mathlib.Core.List.{List}
use Prim.Native.Nat.{ℕ, zero, suc, ◌+◌, ◌*◌, ◌/◌, ◌%◌}
use native.Mathlib.Omega.{arith}
use lib.ListN.{length}
use Rattle.block.specs.Words.{xor}
use Rattle.block.specs.Bytes.{AllBytes}
use Rattle.block.proofs.XorLaws.{assoc, comm, self, zero_l, twice, left_comm}
use Rattle.block.proofs.Lists.{part-whole}
use Rattle.block.proofs.Xors.{xors_comm, xors_inj}
use Rattle.aes_spec.specs.Field.{xtime}
use Rattle.aes_spec.specs.Sbox.{sub_byte}
use Rattle.aes_spec.specs.Cipher.{cell, grid, sub_bytes, shift_rows, mixed, mix_columns, add_round_key, round_key, state, cipher}
use Rattle.aes_spec.proofs.Field.{xtime_sum, two_product, three_product}
use Rattle.aes_spec.proofs.Sbox.{unsub, unsub_sub}
use Rattle.aes_spec.proofs.Steps.{from-same, sub-bytes, shift-bytes, add-bytes, add-length, key-length, key-bytes, state-length, state-bytes}

-- ---- one column

-- the columns' map applied twice joins only every other byte
abbrev joined : ℕ → ℕ → ℕ
joined a c = xor (xtime (xtime a)) (xor a (xtime (xtime c)))

squared : (a b c d : ℕ) → mixed (mixed a b c d) (mixed b c d a) (mixed c d a b) (mixed d a b c) ≡ joined a c
squared a b c d = simp (two_product, three_product, xtime_sum, assoc, comm, left_comm, twice)

fourth : (a c : ℕ) → joined (joined a c) (joined c a) ≡ a
fourth a c = simp (xtime_sum, assoc, comm, left_comm, self, twice, zero_l)

-- so a is made of the four bytes of the mixed column
unmix : ℕ → ℕ → ℕ → ℕ → ℕ
unmix e f g h = joined (mixed e f g h) (mixed g h e f)

mixed_undone : (a b c d : ℕ) → unmix (mixed a b c d) (mixed b c d a) (mixed c d a b) (mixed d a b c) ≡ a
unfolding unmix
mixed_undone a b c d = ap₂ joined (squared a b c d) (squared c d a b) ∙ fourth a c

-- ---- the steps undone

unsub_bytes : List ℕ → List ℕ
unsub_bytes m = grid (λ r c. unsub (cell m r c))

unshift_rows : List ℕ → List ℕ
unshift_rows m = grid (λ r c. cell m r ((c + 3 * r) % 4))

unmix_columns : List ℕ → List ℕ
unmix_columns m = grid (λ r c. unmix (cell m r c) (cell m ((r + 1) % 4) c) (cell m ((r + 2) % 4) c) (cell m ((r + 3) % 4) c))

module _ (s : List ℕ) (l : length s ≡ 16) where
  -- the byte k places below byte i in its column
  abbrev down : ℕ → ℕ → ℕ
  down i k = cell s ((i % 4 + k) % 4) (i / 4)

  sub-undone : AllBytes s → unsub_bytes (sub_bytes s) ≡ s
  unfolding unsub_bytes sub_bytes
  sub-undone h = from-same (λ i. unsub (sub_byte (down i 0))) (λ i. down i 0) (λ i. unsub_sub (down i 0) (h _)) 0 16 ∙ part-whole 16 s l

  shift-undone : unshift_rows (shift_rows s) ≡ s
  unfolding unshift_rows shift_rows
  shift-undone = part-whole 16 s l

  mix-undone : unmix_columns (mix_columns s) ≡ s
  unfolding unmix_columns mix_columns
  mix-undone =
      from-same (λ i. again (down i 0) (down i 1) (down i 2) (down i 3)) (λ i. down i 0)
      (λ i. mixed_undone (down i 0) (down i 1) (down i 2) (down i 3)) 0 16
      ∙ part-whole 16 s l
    where
      again : ℕ → ℕ → ℕ → ℕ → ℕ
      again a b c d = unmix (mixed a b c d) (mixed b c d a) (mixed c d a b) (mixed d a b c)

module _ (s : List ℕ) (l : length s ≡ 16) (h : AllBytes s) where
  last-undone : unsub_bytes (unshift_rows (shift_rows (sub_bytes s))) ≡ s
  unfolding sub_bytes
  last-undone = ap unsub_bytes (shift-undone (sub_bytes s) refl) ∙ sub-undone s l h

  round-undone : unsub_bytes (unshift_rows (unmix_columns (mix_columns (shift_rows (sub_bytes s))))) ≡ s
  unfolding shift_rows
  round-undone = ap (λ (m : List ℕ). unsub_bytes (unshift_rows m)) (mix-undone (shift_rows (sub_bytes s)) refl) ∙ last-undone

add_same : (s t k : List ℕ) → length s ≡ 16 → length t ≡ 16 → length k ≡ 16 → add_round_key s k ≡ add_round_key t k → s ≡ t
unfolding add_round_key
add_same s t k ls lt lk e = xors_inj k s t (omega arith) (omega arith) (xors_comm k s ∙ e ∙ xors_comm t k)

-- ---- the cipher

module _ (key block : List ℕ) (lb : length block ≡ 16) (hk : AllBytes key) (hb : AllBytes block) where
  -- every image is a block
  pub image : (length (cipher key block) ≡ 16) × AllBytes (cipher key block)
  unfolding cipher shift_rows
  image =
      let s = state key block 9 in (
        add-length (shift_rows (sub_bytes s)) (round_key key 10) refl (key-length key 10),
        add-bytes (shift_rows (sub_bytes s)) (shift-bytes (sub_bytes s) (sub-bytes s (state-bytes key block lb hk hb 9))) (round_key key 10) (key-bytes key 10 hk),
      )

module _ (key x y : List ℕ) (lx : length x ≡ 16) (ly : length y ≡ 16) (hk : AllBytes key) (hx : AllBytes x) (hy : AllBytes y) where
  state-injective : (n : ℕ) → state key x n ≡ state key y n → x ≡ y
  unfolding state mix_columns
  state-injective zero e = add_same x y (round_key key 0) lx ly (key-length key 0) e
  state-injective (suc n) e =
      let s = state key x n in
      let t = state key y n in
      state-injective n
      (sym (round-undone s (state-length key x lx n) (state-bytes key x lx hk hx n))
      ∙ ap (λ (m : List ℕ). unsub_bytes (unshift_rows (unmix_columns m)))
      (add_same (mix_columns (shift_rows (sub_bytes s))) (mix_columns (shift_rows (sub_bytes t))) (round_key key (suc n)) refl refl (key-length key (suc n)) e)
      ∙ round-undone t (state-length key y ly n) (state-bytes key y ly hk hy n))

  -- no two blocks share an image
  pub injective : cipher key x ≡ cipher key y → x ≡ y
  unfolding cipher shift_rows
  injective e =
      let s = state key x 9 in
      let t = state key y 9 in
      state-injective 9
      (sym (last-undone s (state-length key x lx 9) (state-bytes key x lx hk hx 9))
      ∙ ap (λ (m : List ℕ). unsub_bytes (unshift_rows m))
      (add_same (shift_rows (sub_bytes s)) (shift_rows (sub_bytes t)) (round_key key 10) refl refl (key-length key 10) e)
      ∙ last-undone t (state-length key y ly 9) (state-bytes key y ly hk hy 9))
