-- The table of round keys, one word of the key at a time: over the width w.
use mathlib.Core.Path.{◌≡◌, ap, ap₂, ◌∙◌}
use mathlib.Core.List.{List}
use Prim.Native.Nat.{ℕ, ◌+◌, ◌*◌, ◌^◌, ◌<◌}
use native.Mathlib.Nat.{pow-suc}
use native.Mathlib.Numerals.{add-one}
use native.Mathlib.Omega.{arith}
use lib.Pow.{pow_pos}
use lib.ListN.{set}
use Rattle.block.specs.Words.{xor}
use Rattle.block.proofs.XorLaws.{below}
use Rattle.cham_spec.specs.Cham.{key_word, mixed, second_place, placed}

-- the second place is within the table
pub place_lt : (e i : ℕ) → i < 2 ^ e → xor (i + 2 ^ e) 1 < 2 ^ (e + 1)
place_lt e i h =
    let p : 2 ^ (e + 1) ≡ 2 ^ e * 2 = ap (λ (n : ℕ). 2 ^ n) (add-one e) ∙ pow-suc 2 e in
    let a : i + 2 ^ e < 2 ^ (e + 1) = omega arith in
    let b : 1 < 2 ^ (e + 1) = omega (arith, pow_pos e) in
    below (e + 1) a b

-- word i of the key puts in its two round keys
pub one_more : (w : ℕ) (key : List ℕ) (i : ℕ) {keys : List ℕ} {j k a b : ℕ} → keys ≡ placed w key i → k ≡ key_word w key i → j ≡ second_place w i
    → a ≡ mixed w 8 k → b ≡ mixed w 11 k → set (set keys i a) j b ≡ placed w key (i + 1)
unfolding placed
one_more w key i {j = j} {b = b} p q t r s =
    rw add-one
    (ap₂ (λ (l : List ℕ) (x : ℕ). set (set l i x) j b) p (r ∙ ap (mixed w 8) q)
    ∙ ap₂ (set (set (placed w key i) i (mixed w 8 (key_word w key i)))) t (s ∙ ap (mixed w 11) q))

-- and once all n words have
pub all_put : (w : ℕ) (key keys : List ℕ) (i n : ℕ) → keys ≡ placed w key i → i ≡ n → keys ≡ placed w key n
all_put w key keys i n p q = p ∙ ap (placed w key) q
