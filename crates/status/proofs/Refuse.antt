-- What the first number that applies tells: 0 that the suite and every length are right, any other which answer it is.
use mathlib.Core.Path.{◌≡◌, refl}
use mathlib.Core.Bool.{Bool, true, false, not, cond}
use mathlib.Core.Logic.{◌⊎◌, inl, inr}
use Prim.Native.Nat.{ℕ, ◌≤◌, ◌<◌}
use native.Mathlib.Nat.{not-suc-le-zero, suc-ne-zero}
use native.Mathlib.Omega.{arith}
use lib.Dec.{ltb, eqb, lit<}
use borrow.Author.Tests.{ltb-false, eqb-true, le-ltb, eq-eqb, not-false}
use Rattle.block.proofs.Ladder.{not_taken, rung}
use Rattle.cipher.specs.Cipher.{is_suite, IsSuite, size_of, nonce_of, limit}
use Rattle.status.specs.Verdicts.{error_number, takes, under_key, refusal}
use Rattle.status.specs.declared.verdict.RecordError.{RecordError}
use Rattle.status.specs.declared.verdict.RecordError.TheVariants.{Suite, Key, Nonce, Data, Text, Room, Tag, Forged, Retired}

-- the suite and every length are right
pub record Passed (s k v a t o g : ℕ) : Type 0 where
  pub suite : IsSuite s
  pub key : k ≡ 16
  pub nonce : v ≡ nonce_of s
  pub extra : a ≤ limit
  pub text : t ≤ limit
  pub room : o ≡ t
  pub tag : g ≡ size_of s

pub passed : (d : Bool) (s k v a t o g : ℕ) → refusal d s k v a t o g ≡ 0 → Passed s k v a t o g
unfolding refusal
passed d s k v a t o g e =
    let p1 = not_taken (not (is_suite s)) 1 _ (lit< tt) e in
    let p10 = not_taken (not (takes d s)) 10 _ (lit< tt) p1.1 in
    let p2 = not_taken (not (eqb k 16)) 2 _ (lit< tt) p10.1 in
    let p3 = not_taken (not (eqb v (nonce_of s))) 3 _ (lit< tt) p2.1 in
    let p4 = not_taken (ltb limit a) 4 _ (lit< tt) p3.1 in
    let p5 = not_taken (ltb limit t) 5 _ (lit< tt) p4.1 in
    let p6 = not_taken (not (eqb o t)) 6 _ (lit< tt) p5.1 in
    let p7 = not_taken (not (eqb g (size_of s))) 7 _ (lit< tt) p6.1 in
    record {
      suite = not-false (is_suite s) p1.0;
      key = eqb-true k 16 (not-false (eqb k 16) p2.0);
      nonce = eqb-true v (nonce_of s) (not-false (eqb v (nonce_of s)) p3.0);
      extra = ltb-false limit a p4.0;
      text = ltb-false limit t p5.0;
      room = eqb-true o t (not-false (eqb o t) p6.0);
      tag = eqb-true g (size_of s) (not-false (eqb g (size_of s)) p7.0);
    }

pub none_bad : (d : Bool) (s k v a t o g : ℕ) → takes d s ≡ true → Passed s k v a t o g → refusal d s k v a t o g ≡ 0
unfolding refusal
none_bad d s k v a t o g h p =
    simp (
      p.suite,
      h,
      eq-eqb k 16 p.key,
      eq-eqb v (nonce_of s) p.nonce,
      le-ltb limit a p.extra,
      le-ltb limit t p.text,
      eq-eqb o t p.room,
      eq-eqb g (size_of s) p.tag,
    )

-- where the ladder's upper half refuses, what lies below does not count
pub upper_stops : (t : Bool) (s k v own : ℕ) → 0 < under_key t s k v 0 → under_key t s k v 0 ≡ under_key t s k v own
upper_stops t s k v own = rungs (not (is_suite s)) (not t) (not (eqb k 16)) (not (eqb v (nonce_of s)))
  where
    rungs : (a b c d : Bool) → 0 < cond a 1 (cond b 10 (cond c 2 (cond d 3 0)))
        → cond a 1 (cond b 10 (cond c 2 (cond d 3 0))) ≡ cond a 1 (cond b 10 (cond c 2 (cond d 3 own)))
    rungs true b c d h = refl
    rungs false true c d h = refl
    rungs false false true d h = refl
    rungs false false false true h = refl
    rungs false false false false h = absurd (not-suc-le-zero h)

-- and where it does not, that alone does
pub upper_passes : (t : Bool) (s k v own : ℕ) → under_key t s k v 0 ≡ 0 → own ≡ under_key t s k v own
upper_passes t s k v own = rungs (not (is_suite s)) (not t) (not (eqb k 16)) (not (eqb v (nonce_of s)))
  where
    rungs : (a b c d : Bool) → ◌≡◌ {A = ℕ} (cond a 1 (cond b 10 (cond c 2 (cond d 3 0)))) 0 → own ≡ cond a 1 (cond b 10 (cond c 2 (cond d 3 own)))
    rungs true b c d e = absurd (suc-ne-zero _ e)
    rungs false true c d e = absurd (suc-ne-zero _ e)
    rungs false false true d e = absurd (suc-ne-zero _ e)
    rungs false false false true e = absurd (suc-ne-zero _ e)
    rungs false false false false e = refl

-- no number above 7 but 10, and that for sealing alone, of a suite that does not seal
abbrev Most : Bool → ℕ → ℕ → Type 0
Most d s x = (x ≤ 7) ⊎ ((x ≡ 10) × IsSuite s × (takes d s ≡ false))

pub refusal-most : (d : Bool) (s k v a t o g : ℕ) → Most d s (refusal d s k v a t o g)
unfolding refusal
refusal-most d s k v a t o g =
    rungs (is_suite s) (takes d s) refl refl _
    (rung (λ j. j ≤ 7) (not (eqb k 16)) 2 _ (omega arith)
    (rung (λ j. j ≤ 7) (not (eqb v (nonce_of s))) 3 _ (omega arith)
    (rung (λ j. j ≤ 7) (ltb limit a) 4 _ (omega arith)
    (rung (λ j. j ≤ 7) (ltb limit t) 5 _ (omega arith)
    (rung (λ j. j ≤ 7) (not (eqb o t)) 6 _ (omega arith)
    (rung (λ j. j ≤ 7) (not (eqb g (size_of s))) 7 _ (omega arith) (omega arith)))))))
  where
    rungs : (b c : Bool) → is_suite s ≡ b → takes d s ≡ c → (r : ℕ) → r ≤ 7 → Most d s (cond (not b) 1 (cond (not c) 10 r))
    rungs false c eb ec r h = inl (omega arith)
    rungs true false eb ec r h = inr (refl, eb, ec)
    rungs true true eb ec r h = inl h

-- a refusal's number is none below 1 or above 10
pub error-some : (e : RecordError) → 0 < error_number e
error-some Suite = lit< tt
error-some Key = lit< tt
error-some Nonce = lit< tt
error-some Data = lit< tt
error-some Text = lit< tt
error-some Room = lit< tt
error-some Tag = lit< tt
error-some Forged = lit< tt
error-some Retired = lit< tt
