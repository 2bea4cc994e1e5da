-- The numbers by their tests: 0 says that the session is in progress and that the lengths are allowed; each other number
-- follows from its own test and the tests before it.
use mathlib.Core.Path.{◌≡◌, ap, ap₂, ◌∙◌}
use mathlib.Core.Bool.{Bool, true, false, not, cond, ◌&&◌}
use Prim.Native.Nat.{ℕ, ◌+◌, ◌-◌, ◌≤◌}
use lib.Dec.{leb, ltb, eqb, lit<}
use borrow.Author.Tests.{leb-true, ltb-false, eqb-true, not-false}
use Rattle.block.proofs.Ladder.{not_taken}
use Rattle.block.proofs.Tests.{both_true}
use Rattle.cipher.proofs.Suites.{seals-has}
use Rattle.cipher.specs.Cipher.{is_suite, seals, Seals, size_of, nonce_of, limit}
use Rattle.session_ladder.specs.Numbers.{sound, Sound, data_number, text_number, end_number, start_number}

pub sound_told : (s c t : ℕ) → sound s c t ≡ true → Sound s c t
sound_told s c t e =
    let p = both_true (seals s) (leb c limit && leb t limit) e in
    let r = both_true (leb c limit) (leb t limit) p.1 in
    record { known = seals-has s p.0; data-most = leb-true c limit r.0; text-most = leb-true t limit r.1 }

pub data_passed : (s c t l : ℕ) → data_number s c t l ≡ 0 → Sound s c t × (t ≡ 0) × (l ≤ limit - c)
unfolding data_number
data_passed s c t l e =
    let p = not_taken (not (sound s c t && eqb t 0)) 9 (cond (ltb (limit - c) l) 4 0) (lit< tt) e in
    let q = both_true (sound s c t) (eqb t 0) (not-false (sound s c t && eqb t 0) p.0) in
    (sound_told s c t q.0, eqb-true t 0 q.1, ltb-false (limit - c) l (not_taken (ltb (limit - c) l) 4 0 (lit< tt) p.1).0)

-- the ladder, rung by rung
module _ (s c t l : ℕ) where
  pub data-closed : sound s c t ≡ false → data_number s c t l ≡ 9
  unfolding data_number
  data-closed e = ap (λ (b : Bool). cond (not (b && eqb t 0)) 9 (cond (ltb (limit - c) l) 4 0)) e

  pub data-begun : sound s c t ≡ true → eqb t 0 ≡ false → data_number s c t l ≡ 9
  unfolding data_number
  data-begun e z = ap₂ (λ (b d : Bool). cond (not (b && d)) 9 (cond (ltb (limit - c) l) 4 0)) e z

  pub data-limit : (b : Bool) → sound s c t ≡ true → eqb t 0 ≡ true → ltb (limit - c) l ≡ b → data_number s c t l ≡ cond b 4 0
  unfolding data_number
  data-limit b e z q =
      ap₂ (λ (x y : Bool). cond (not (x && y)) 9 (cond (ltb (limit - c) l) 4 0)) e z ∙ ap (λ (x : Bool). cond x 4 0) q

module _ (s c t l o : ℕ) where
  pub text-passed : text_number s c t l o ≡ 0 → Sound s c t × (l ≤ limit - t) × (l + (size_of s - 1) ≤ o)
  unfolding text_number
  text-passed e =
      let p = not_taken (not (sound s c t)) 9 (cond (ltb (limit - t) l) 5 (cond (ltb o (l + (size_of s - 1))) 6 0)) (lit< tt) e in
      let q = not_taken (ltb (limit - t) l) 5 (cond (ltb o (l + (size_of s - 1))) 6 0) (lit< tt) p.1 in (
        sound_told s c t (not-false (sound s c t) p.0),
        ltb-false (limit - t) l q.0,
        ltb-false o (l + (size_of s - 1)) (not_taken (ltb o (l + (size_of s - 1))) 6 0 (lit< tt) q.1).0,
      )

  -- the ladder, its tests given
  pub text-is : (b d f : Bool) → sound s c t ≡ b → ltb (limit - t) l ≡ d → ltb o (l + (size_of s - 1)) ≡ f
      → text_number s c t l o ≡ cond (not b) 9 (cond d 5 (cond f 6 0))
  unfolding text_number
  text-is b d f eb ed ef =
      ap₂ (λ (x y : Bool). cond (not x) 9 (cond y 5 (cond (ltb o (l + (size_of s - 1))) 6 0))) eb ed
      ∙ ap (λ (z : Bool). cond (not b) 9 (cond d 5 (cond z 6 0))) ef

module _ (s c t o g : ℕ) where
  pub end-passed : end_number s c t o g ≡ 0 → Sound s c t × (size_of s ≤ o) × (g ≡ size_of s)
  unfolding end_number
  end-passed e =
      let p = not_taken (not (sound s c t)) 9 (cond (ltb o (size_of s)) 6 (cond (not (eqb g (size_of s))) 7 0)) (lit< tt) e in
      let q = not_taken (ltb o (size_of s)) 6 (cond (not (eqb g (size_of s))) 7 0) (lit< tt) p.1 in (
        sound_told s c t (not-false (sound s c t) p.0),
        ltb-false o (size_of s) q.0,
        eqb-true g (size_of s) (not-false (eqb g (size_of s)) (not_taken (not (eqb g (size_of s))) 7 0 (lit< tt) q.1).0),
      )

  pub end_is : (b d f : Bool) → sound s c t ≡ b → ltb o (size_of s) ≡ d → eqb g (size_of s) ≡ f
      → end_number s c t o g ≡ cond (not b) 9 (cond d 6 (cond (not f) 7 0))
  unfolding end_number
  end_is b d f eb ed ef =
      ap₂ (λ (x y : Bool). cond (not x) 9 (cond y 6 (cond (not (eqb g (size_of s))) 7 0))) eb ed
      ∙ ap (λ (z : Bool). cond (not b) 9 (cond d 6 (cond (not z) 7 0))) ef

module _ (s k v : ℕ) where
  pub start-passed : start_number s k v ≡ 0 → Seals s × (k ≡ 16) × (v ≡ nonce_of s)
  unfolding start_number
  start-passed e =
      let p = not_taken (not (is_suite s)) 1 _ (lit< tt) e in
      let w = not_taken (not (seals s)) 10 _ (lit< tt) p.1 in
      let q = not_taken (not (eqb k 16)) 2 _ (lit< tt) w.1 in
      let r = not_taken (not (eqb v (nonce_of s))) 3 _ (lit< tt) q.1 in
      (not-false (seals s) w.0, eqb-true k 16 (not-false (eqb k 16) q.0), eqb-true v (nonce_of s) (not-false (eqb v (nonce_of s)) r.0))

  pub start_is : (b w d f : Bool) → is_suite s ≡ b → seals s ≡ w → eqb k 16 ≡ d → eqb v (nonce_of s) ≡ f
      → start_number s k v ≡ cond (not b) 1 (cond (not w) 10 (cond (not d) 2 (cond (not f) 3 0)))
  unfolding start_number
  start_is b w d f eb ew ed ef =
      ap₂ (λ (x y : Bool). cond (not x) 1 (cond (not y) 10 (cond (not (eqb k 16)) 2 (cond (not (eqb v (nonce_of s))) 3 0)))) eb ew
      ∙ ap₂ (λ (y z : Bool). cond (not b) 1 (cond (not w) 10 (cond (not y) 2 (cond (not z) 3 0)))) ed ef
