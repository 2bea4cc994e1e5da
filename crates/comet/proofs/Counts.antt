-- How many cipher calls: the start's, one for each block, and the tag's; and a refused text takes none.
use mathlib.Core.Path.{◌≡◌, refl, sym, ap, ◌∙◌}
use mathlib.Core.Bool.{Bool, true, false}
use Prim.Native.Nat.{ℕ, zero, suc, ◌+◌, ◌^◌, ◌≤◌, ◌<◌}
use native.Mathlib.Nat.{le_refl, not-suc-le-zero, mod-eq_of_lt}
use native.Mathlib.Omega.{arith}
use native.Mathlib.Decide.{dec_le}
use mathlib.Core.List.{List}
use lib.ListN.{length, drop, length-drop}
use Rattle.block.specs.Words.{add}
use Rattle.block.proofs.Lists.{nil_of}
use Rattle.cipher.specs.Cipher.{cipher_of}
use Rattle.mode.specs.Blocks.{blocks}
use Rattle.mode.specs.Mode.{calls}
use Rattle.mode.proofs.Blocks.{blocks-nil, blocks_more}
use Rattle.block_state.specs.Two.{one_more_of}
use Rattle.status.specs.Verdicts.{refusal}
use Rattle.comet.specs.Counted.{Counting, counted_as, calls_of, sealing_counted, opening_counted}
use Rattle.status.proofs.Refuse.{passed}
use Rattle.comet.proofs.Left.{sealing-over, opening-over}

-- a and m blocks, the start's call, and the tag's after them
pub count_all : (a m x y k : ℕ) → a ≤ 65536 → m ≤ 65536 → x ≡ add 64 1 a → y ≡ add 64 x m → k ≡ one_more_of y → k ≡ a + m + 2
count_all a m x y k ha hm ex ey ek =
    let la : 1 + a < 2 ^ 64 = omega arith in
    let qx : x ≡ 1 + a = ex ∙ mod-eq_of_lt la in
    let lm : x + m < 2 ^ 64 = omega arith in
    let qy : y ≡ x + m = ey ∙ mod-eq_of_lt lm in
    let lk : y + 1 < 2 ^ 64 = omega arith in
    let qk : k ≡ y + 1 = ek ∙ mod-eq_of_lt lk in
    omega arith

module _ (n : ℕ) (pos : 0 < n) where
  none_left : (l : List ℕ) → length l ≡ 0 → length (blocks n l) ≡ 0
  none_left l z = ap (λ (x : List ℕ). length (blocks n x)) (nil_of l z) ∙ ap length (blocks-nil n pos)

  -- no more blocks than bytes
  within : (f : ℕ) (l : List ℕ) → length l ≤ f → length (blocks n l) ≤ length l
  within zero l h = omega (arith, none_left l (omega arith))
  within (suc f) l h =
      elim (dec_le 1 (length l)) [
        | yes p ↦ omega (arith, ap length (blocks_more n pos l p), length-drop n l, within f (drop n l) (omega (arith, length-drop n l)))
        | no p ↦ omega (arith, none_left l (omega arith))
      ]

  pub count_most : (l : List ℕ) → length (blocks n l) ≤ length l
  count_most l = within (length l) l (le_refl (length l))

-- ---- what is reported

pub counting : {A : Type 0} {x y : A} {j k : ℕ} → x ≡ y → j ≡ k → ◌≡◌ {A = Counting A} (record { leaves = x; calls = j }) (record { leaves = y; calls = k })
counting p q = λ i. record { leaves = p i; calls = q i }

none_made : (n k : ℕ) → 0 < n → 0 ≡ counted_as n k
none_made zero k h = absurd (not-suc-le-zero h)
none_made (suc j) k h = refl

-- by the first number that applies
module _ (d : Bool) (s : ℕ) (k v a t : List ℕ) (o g n : ℕ) (e : n ≡ refusal d s (length k) (length v) (length a) (length t) o g) where
  pub calls-none : 0 < n → 0 ≡ calls_of d s k v a t o g
  unfolding calls_of
  calls-none h = none_made n (length (calls (cipher_of s) d k v a t)) h ∙ ap (λ (j : ℕ). counted_as j (length (calls (cipher_of s) d k v a t))) e

  pub calls-all : n ≡ 0 → length (calls (cipher_of s) d k v a t) ≡ calls_of d s k v a t o g
  unfolding calls_of
  calls-all z = ap (λ (j : ℕ). counted_as j (length (calls (cipher_of s) d k v a t))) (sym z ∙ e)

-- with a text that is its own output
pub sealing-same : (s : ℕ) (k v a m o t : List ℕ) → refusal false s (length k) (length v) (length a) (length m) (length o) (length t) ≡ 0
    → sealing_counted s k v a m m t ≡ sealing_counted s k v a m o t
sealing-same s k v a m o t z =
    counting (sealing-over s k v a m o t z) (ap (λ (n : ℕ). calls_of false s k v a m n (length t)) (sym (passed false s _ _ _ _ _ _ z).room))

pub opening-same : (s : ℕ) (k v a c g o : List ℕ) → refusal true s (length k) (length v) (length a) (length c) (length o) (length g) ≡ 0
    → opening_counted s k v a c g c ≡ opening_counted s k v a c g o
opening-same s k v a c g o z =
    counting (opening-over s k v a c g o z) (ap (λ (n : ℕ). calls_of true s k v a c n (length g)) (sym (passed true s _ _ _ _ _ _ z).room))
