-- The round keys one after the other: each is made from the one before it alone, four words at a time.
use mathlib.Core.Path.{◌≡◌, sym, ap, ap₂, ◌∙◌}
use mathlib.Core.Bool.{Bool, cond}
use mathlib.Core.List.{List, ◌++◌}
use Prim.Native.Nat.{ℕ, suc, ◌+◌, ◌*◌, ◌/◌, ◌%◌, ◌<◌}
use native.Mathlib.Nat.{add-zero}
use native.Mathlib.Omega.{arith}
use lib.Dec.{eqb, eqb-suc-zero, lit<}
use lib.ListN.{length, length-append}
use Rattle.block.specs.Xors.{xors}
use Rattle.block.proofs.Lists.{part-whole, append_inj}
use Rattle.aes_spec.specs.Cipher.{sub_word, rot_word, rcon, temp, w, round_key}
use Rattle.aes_spec.proofs.Steps.{w-length}

-- the first is the key
pub first_key : (key : List ℕ) → length key ≡ 16 → round_key key 0 ≡ key
unfolding round_key w
first_key key l = part-whole 16 key l

-- ---- four words side by side are known each

four_parts : (a b c d e f g h : List ℕ) → length a ≡ length e → length b ≡ length f → length c ≡ length g → a ++ b ++ c ++ d ≡ e ++ f ++ g ++ h
    → (a ≡ e) × (b ≡ f) × (c ≡ g) × (d ≡ h)
four_parts a b c d e f g h la lb lc p =
    let r = append_inj (a ++ b ++ c) d (e ++ f ++ g) h (simp length-append (ap₂ ◌+◌ (ap₂ ◌+◌ la lb) lc)) p in
    let q = append_inj (a ++ b) c (e ++ f) g (simp length-append (ap₂ ◌+◌ la lb)) r.0 in
    let o = append_inj a b e f la q.0 in
    (o.0, o.1, q.1, r.1)

-- ---- a word from the fourth before it and the one before it

module _ (key : List ℕ) where
  word-step : (i : ℕ) → w key (i + 4) ≡ xors (w key i) (temp (i + 4) (w key (i + 3)))
  unfolding w
  word-step i =
      let e : i + 4 ≡ suc (suc (suc (suc i))) = omega arith in
      let f : suc (suc (suc i)) ≡ i + 3 = omega arith in
      ap (w key) e ∙ ap (λ (j : ℕ). xors (w key i) (temp (i + 4) (w key j))) f

  module _ (n : ℕ) where
    word_first : w key (4 * (n + 1)) ≡ xors (w key (4 * n)) (xors (sub_word (rot_word (w key (4 * n + 3)))) (rcon (n + 1)))
    word_first =
        let t = w key (4 * n + 3) in
        let e : 4 * (n + 1) ≡ 4 * n + 4 = omega arith in
        let f : (4 * n + 4) % 4 ≡ 0 = omega arith in
        let g : (4 * n + 4) / 4 ≡ n + 1 = omega arith in
        ap (w key) e
        ∙ word-step (4 * n)
        ∙ ap₂ (λ (u v : ℕ). xors (w key (4 * n)) (cond (eqb u 0) (xors (sub_word (rot_word t)) (rcon v)) t)) f g

    word_next : (c : ℕ) → c < 3 → w key (4 * (n + 1) + suc c) ≡ xors (w key (4 * n + suc c)) (w key (4 * (n + 1) + c))
    word_next c h =
        let i = 4 * n + suc c in
        let e : 4 * (n + 1) + suc c ≡ i + 4 = omega arith in
        let f : (i + 4) % 4 ≡ suc c = omega arith in
        let g : i + 3 ≡ 4 * (n + 1) + c = omega arith in
        ap (w key) e
        ∙ word-step i
        ∙ ap (λ (u : ℕ). xors (w key i) (cond (eqb u 0) (xors (sub_word (rot_word (w key (i + 3)))) (rcon ((i + 4) / 4))) (w key (i + 3)))) f
        ∙ ap (λ (b : Bool). xors (w key i) (cond b (xors (sub_word (rot_word (w key (i + 3)))) (rcon ((i + 4) / 4))) (w key (i + 3)))) (eqb-suc-zero c)
        ∙ ap (λ (j : ℕ). xors (w key i) (w key j)) g

-- ---- a round key from the one before it

pub next_key : (key : List ℕ) (n : ℕ) (a b c d a' b' c' d' : List ℕ) → length a ≡ 4 → length b ≡ 4 → length c ≡ 4
    → a ++ b ++ c ++ d ≡ round_key key n
    → a' ≡ xors a (xors (sub_word (rot_word d)) (rcon (n + 1))) → b' ≡ xors b a' → c' ≡ xors c b' → d' ≡ xors d c'
    → a' ++ b' ++ c' ++ d' ≡ round_key key (n + 1)
unfolding round_key
next_key key n a b c d a' b' c' d' la lb lc e ea eb ec ed =
    let i = 4 * n in
    let j = 4 * (n + 1) in
    let o =
    four_parts a b c d (w key i) (w key (i + 1)) (w key (i + 2)) (w key (i + 3)) (la ∙ sym (w-length key i)) (lb ∙ sym (w-length key (i + 1)))
    (lc ∙ sym (w-length key (i + 2))) e in
    let fa : a' ≡ w key j = ea ∙ ap₂ (λ (x y : List ℕ). xors x (xors (sub_word (rot_word y)) (rcon (n + 1)))) o.0 o.3 ∙ sym (word_first key n) in
    let fb : b' ≡ w key (j + 1) = eb ∙ ap₂ xors o.1 (fa ∙ ap (w key) (sym (add-zero j))) ∙ sym (word_next key n 0 (lit< tt)) in
    let fc : c' ≡ w key (j + 2) = ec ∙ ap₂ xors o.2 fb ∙ sym (word_next key n 1 (lit< tt)) in
    let fd : d' ≡ w key (j + 3) = ed ∙ ap₂ xors o.3 fc ∙ sym (word_next key n 2 (lit< tt)) in
    ap₂ ◌++◌ (ap₂ ◌++◌ (ap₂ ◌++◌ fa fb) fc) fd
