-- Each step makes sixteen bytes of bytes, and each word of the key schedule is four.
use mathlib.Core.Path.{◌≡◌, refl, ap₂, ◌∙◌}
use mathlib.Core.Bool.{Bool, true, false, cond}
use mathlib.Core.List.{List, [], ◌∷◌, ◌++◌}
use Prim.Native.Nat.{ℕ, zero, suc, ◌+◌, ◌-◌, ◌*◌, ◌/◌, ◌%◌, ◌<◌}
use native.Mathlib.Omega.{arith}
use lib.Dec.{eqb, lit<}
use lib.ListN.{length, length-append}
use Rattle.block.specs.Bytes.{AllBytes}
use Rattle.block.specs.Xors.{xors}
use Rattle.block.proofs.XorLaws.{below}
use Rattle.block.proofs.Lists.{all_nil, all_cons, all_append, all_replicate, all_part}
use Rattle.block.proofs.Xors.{length-xors, all_xors}
use Rattle.aes_spec.specs.Cipher.{from, sub_bytes, shift_rows, mixed, mix_columns, add_round_key, sub_word, rot_word, power, rcon, temp, w, round_key, state}
use Rattle.aes_spec.proofs.Field.{xtime-byte, product_byte}
use Rattle.aes_spec.proofs.Sbox.{sub_byte_lem}

pub from-same : (f g : ℕ → ℕ) → ((i : ℕ) → f i ≡ g i) → (i n : ℕ) → from i n f ≡ from i n g
from-same f g e i zero = refl
from-same f g e i (suc n) = ap₂ (λ (x : ℕ) (l : List ℕ). x ∷ l) (e i) (from-same f g e (suc i) n)

pub all_from : (f : ℕ → ℕ) → ((j : ℕ) → f j < 256) → (i n : ℕ) → AllBytes (from i n f)
all_from f h i zero = all_nil
all_from f h i (suc n) = all_cons (f i) (from (suc i) n f) (h i) (all_from f h (suc i) n)

-- ---- the four steps

mixed-byte : (a b c d : ℕ) → a < 256 → b < 256 → c < 256 → d < 256 → mixed a b c d < 256
mixed-byte a b c d ha hb hc hd = below 8 (below 8 (below 8 (product_byte _ a ha) (product_byte _ b hb)) hc) hd

module _ (s : List ℕ) (hs : AllBytes s) where
  pub sub-bytes : AllBytes (sub_bytes s)
  unfolding sub_bytes
  sub-bytes = all_from _ (λ j. sub_byte_lem _ (hs (j % 4 + 4 * (j / 4)))) 0 16

  pub shift-bytes : AllBytes (shift_rows s)
  unfolding shift_rows
  shift-bytes = all_from _ (λ j. hs (j % 4 + 4 * ((j / 4 + j % 4) % 4))) 0 16

  pub mix-bytes : AllBytes (mix_columns s)
  unfolding mix_columns
  mix-bytes =
      all_from _
      (λ j. mixed-byte _ _ _ _ (hs (j % 4 + 4 * (j / 4))) (hs ((j % 4 + 1) % 4 + 4 * (j / 4))) (hs ((j % 4 + 2) % 4 + 4 * (j / 4))) (hs ((j % 4 + 3) % 4 + 4 * (j / 4))))
      0 16

  pub add-bytes : (k : List ℕ) → AllBytes k → AllBytes (add_round_key s k)
  unfolding add_round_key
  add-bytes k hk = all_xors s k hs hk

pub add-length : (s k : List ℕ) → length s ≡ 16 → length k ≡ 16 → length (add_round_key s k) ≡ 16
unfolding add_round_key
add-length s k ls lk = length-xors s k (omega arith) ∙ ls

-- ---- the key schedule

power-byte : (i : ℕ) → power i < 256
unfolding power
power-byte zero = lit< tt
power-byte (suc i) = xtime-byte (power i)

rcon-bytes : (i : ℕ) → AllBytes (rcon i)
rcon-bytes i = all_cons (power (i - 1)) (0 ∷ 0 ∷ 0 ∷ []) (power-byte (i - 1)) (all_replicate 3 0 (lit< tt))

module _ (i : ℕ) (t : List ℕ) where
  temp-length : length t ≡ 4 → length (temp i t) ≡ 4
  temp-length l = go (eqb (i % 4) 0)
    where
      go : (b : Bool) → length (cond b (xors (sub_word (rot_word t)) (rcon (i / 4))) t) ≡ 4
      go true = refl
      go false = l

  temp-bytes : AllBytes t → AllBytes (temp i t)
  temp-bytes h = go (eqb (i % 4) 0)
    where
      go : (b : Bool) → AllBytes (cond b (xors (sub_word (rot_word t)) (rcon (i / 4))) t)
      go true = all_xors (sub_word (rot_word t)) (rcon (i / 4)) (all_from _ (λ r. sub_byte_lem _ (rot r)) 0 4) (rcon-bytes (i / 4))
        where
          rot : AllBytes (rot_word t)
          rot = all_from _ (λ r. h ((r + 1) % 4)) 0 4
      go false = h

module _ (key : List ℕ) where
  pub w-length : (i : ℕ) → length (w key i) ≡ 4
  unfolding w
  w-length zero = refl
  w-length (suc zero) = refl
  w-length (suc (suc zero)) = refl
  w-length (suc (suc (suc zero))) = refl
  w-length (suc (suc (suc (suc i)))) =
      let l : length (w key i) ≡ 4 = w-length i in
      let m = temp-length (i + 4) (w key (suc (suc (suc i)))) (w-length (suc (suc (suc i)))) in
      length-xors (w key i) (temp (i + 4) (w key (suc (suc (suc i))))) (omega arith) ∙ l

  pub w-bytes : AllBytes key → (i : ℕ) → AllBytes (w key i)
  unfolding w
  w-bytes h zero = all_part 4 key 0 h
  w-bytes h (suc zero) = all_part 4 key 4 h
  w-bytes h (suc (suc zero)) = all_part 4 key 8 h
  w-bytes h (suc (suc (suc zero))) = all_part 4 key 12 h
  w-bytes h (suc (suc (suc (suc i)))) =
      all_xors (w key i) (temp (i + 4) (w key (suc (suc (suc i))))) (w-bytes h i)
      (temp-bytes (i + 4) (w key (suc (suc (suc i)))) (w-bytes h (suc (suc (suc i)))))

four_bytes : (a b c d : List ℕ) → AllBytes a → AllBytes b → AllBytes c → AllBytes d → AllBytes (a ++ b ++ c ++ d)
four_bytes a b c d ha hb hc hd = all_append (a ++ b ++ c) d (all_append (a ++ b) c (all_append a b ha hb) hc) hd

module _ (key : List ℕ) (n : ℕ) where
  pub key-length : length (round_key key n) ≡ 16
  unfolding round_key
  key-length = simp (length-append, w-length)

  pub key-bytes : AllBytes key → AllBytes (round_key key n)
  unfolding round_key
  key-bytes h =
      four_bytes (w key (4 * n)) (w key (4 * n + 1)) (w key (4 * n + 2)) (w key (4 * n + 3))
      (w-bytes key h (4 * n)) (w-bytes key h (4 * n + 1)) (w-bytes key h (4 * n + 2)) (w-bytes key h (4 * n + 3))

-- ---- the cipher

module _ (key block : List ℕ) (lb : length block ≡ 16) where
  pub state-length : (n : ℕ) → length (state key block n) ≡ 16
  unfolding state mix_columns
  state-length zero = add-length block (round_key key 0) lb (key-length key 0)
  state-length (suc n) = add-length (mix_columns (shift_rows (sub_bytes (state key block n)))) (round_key key (suc n)) refl (key-length key (suc n))

  module _ (hk : AllBytes key) (hb : AllBytes block) where
    pub state-bytes : (n : ℕ) → AllBytes (state key block n)
    unfolding state
    state-bytes zero = add-bytes block hb (round_key key 0) (key-bytes key 0 hk)
    state-bytes (suc n) =
        add-bytes (mix_columns (shift_rows (sub_bytes (state key block n))))
        (mix-bytes (shift_rows (sub_bytes (state key block n))) (shift-bytes (sub_bytes (state key block n)) (sub-bytes (state key block n) (state-bytes n))))
        (round_key key (suc n)) (key-bytes key (suc n) hk)
