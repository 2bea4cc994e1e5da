-- The number tables of sealer, opener and session. Each definition is a ladder of tests; each test tells its line (`Tables`),
-- so the ladder gives the number of the first line that applies.
use mathlib.Core.Path.{◌≡◌, refl, sym, ap, ◌∙◌}
use mathlib.Core.Logic.{◌⊎◌, inl, inr, ◌↔◌}
use mathlib.Core.Bool.{Bool, true, false, cond, not, ◌&&◌, true≢false}
use Prim.Native.Nat.{ℕ, zero, suc, ◌+◌, ◌-◌, ◌≤◌, ◌<◌}
use native.Mathlib.Omega.{arith}
use mathlib.Core.List.{List, []}
use lib.ListN.{length}
use lib.Dec.{eqb, ltb, leb}
use borrow.Author.Tests.{not-true}
use Rattle.block.specs.Bytes.{same_bytes}
use Rattle.cipher.specs.Cipher.{is_suite, retired, seals, cipher_of, size_of, nonce_of, limit}
use Rattle.cipher.proofs.Suites.{tag_size_lem, only-four}
use Rattle.mode.specs.Mode.{text_out, tag_out}
use Rattle.status.specs.Verdicts.{takes, refusal}
use Rattle.comet.specs.Answers.{sealed_as, sealing, opened_as, opening}
use Rattle.session.specs.Value.{Value, Given, sound, answered, start_number, starting, data_number, data_part, text_number, text_part, end_number, ending}
use Rattle.session.proofs.Parts.{done-number}
use Rattle.promises.specs.Numbers.{tag_size, numbers, SealNumbers, OpenNumbers, StartNumbers, Going, DataNumbers, PartNumbers, EndNumbers}
use Rattle.promises.proofs.Tables.{Tells, tells_eq, tells_lt, tells_le, tells_same, tells_not, tells_and, tells_as, tells_true, stable, Rungs, table}

-- ---- suites

-- a number from a to b, and one outside
outside : (a b s : ℕ) → ((a ≤ s) × (s ≤ b) → ⊥) ↔ ((s < a) ⊎ (b < s))
outside a b s = (out (leb a s) (leb s b) (tells_le a s) (tells_le s b), inside)
  where
    out : (x y : Bool) → Tells x (a ≤ s) → Tells y (s ≤ b) → ((a ≤ s) × (s ≤ b) → ⊥) → (s < a) ⊎ (b < s)
    out true true p q n = absurd (n (p.0 refl, q.0 refl))
    out true false p q n = let m : s ≤ b → ⊥ = λ h. true≢false (sym (q.1 h)) in inr (omega (arith, m))
    out false y p q n = let m : a ≤ s → ⊥ = λ h. true≢false (sym (p.1 h)) in inl (omega (arith, m))

    inside : (s < a) ⊎ (b < s) → (a ≤ s) × (s ≤ b) → ⊥
    inside (inl h) k = omega (arith, h, k.0)
    inside (inr h) k = omega (arith, h, k.1)

pub tells_suite : (s : ℕ) → Tells (not (is_suite s)) ((s < 1) ⊎ (6 < s))
unfolding is_suite
tells_suite s = tells_as (tells_not (tells_and (tells_le 1 s) (tells_le s 6))) (outside 1 6 s)

-- of the suites that we have the fourth alone is retired
four_shut : not (seals 4) ≡ true
unfolding seals retired is_suite
four_shut = refl

tells_four : (s : ℕ) → ((s < 1) ⊎ (6 < s) → ⊥) → Tells (not (seals s)) (s ≡ 4)
tells_four s n = (
  λ e. only-four s (stable (tells_true (is_suite s)) (λ m. n ((tells_suite s).0 (not_is (is_suite s) m)))) (not-true (seals s) e),
  λ e. ap (λ (x : ℕ). not (seals x)) e ∙ four_shut,
)
  where
    not_is : (b : Bool) → (b ≡ true → ⊥) → not b ≡ true
    not_is true m = absurd (m refl)
    not_is false m = refl

-- the opener takes it
tells_takes : (d : Bool) (s : ℕ) → ((s < 1) ⊎ (6 < s) → ⊥) → Tells (not (takes d s)) ((d ≡ false) × (s ≡ 4))
tells_takes true s n = (λ e. absurd (true≢false (sym e)), λ h. absurd (true≢false h.0))
tells_takes false s n = tells_as (tells_four s n) (λ e. (refl, e), λ h. h.1)

-- ---- the tag's length

-- the column says what the block has
pub tells_tag_size : (x s : ℕ) → Tells (eqb x (size_of s)) (x ≡ tag_size s)
tells_tag_size x s = tells_as (tells_eq x (size_of s)) (λ e. e ∙ sym (tag_size_lem s), λ e. e ∙ tag_size_lem s)

-- ---- sealer and opener

abbrev rungs : (d : Bool) (suite : ℕ) (key nonce ad text out tag : List ℕ) → Rungs Unit (numbers d suite key nonce ad text out tag)
rungs d suite key nonce ad text out tag = (
  not (is_suite suite),
  λ _. tells_suite suite,
  (
    not (takes d suite),
    λ r. tells_takes d suite r.1,
    (
      not (eqb (length key) 16),
      λ _. tells_not (tells_eq _ _),
      (
        not (eqb (length nonce) (nonce_of suite)),
        λ _. tells_not (tells_eq _ _),
        (
          ltb limit (length ad),
          λ _. tells_lt _ _,
          (
            ltb limit (length text),
            λ _. tells_lt _ _,
            (
              not (eqb (length out) (length text)),
              λ _. tells_not (tells_eq _ _),
              (
                not (eqb (length tag) (size_of suite)),
                λ _. tells_not (tells_tag_size _ suite),
                (
                  d && not (same_bytes (tag_out (cipher_of suite) true key nonce ad text) tag),
                  λ _. tells_and (tells_true d) (tells_not (tells_same _ _)),
                  tt,
                ),
              ),
            ),
          ),
        ),
      ),
    ),
  ),
)

sealed-number : (n : ℕ) (x y o t : List ℕ) → (sealed_as n x y o t).number ≡ n
sealed-number zero x y o t = refl
sealed-number (suc n) x y o t = refl

pub seal-numbers : SealNumbers
unfolding sealing refusal
seal-numbers suite key nonce ad msg out tag = table _ _ (rungs false suite key nonce ad msg out tag) refl (sealed-number _ _ _ out tag)

-- what keeps every number but 0 goes through a ladder
module _ (f : ℕ → ℕ) (keep : (k : ℕ) → f (suc k) ≡ suc k) where
  through : (c : Bool) (k r m : ℕ) → f r ≡ m → f (cond c (suc k) r) ≡ cond c (suc k) m
  through true k r m e = keep k
  through false k r m e = e

pub open_numbers : OpenNumbers
unfolding opening refusal
open_numbers suite key nonce ad text tag out =
    table _ _ (rungs true suite key nonce ad text out tag) refl
    (by (not (is_suite suite)) 0 _ _
    (by (not (eqb (length key) 16)) 1 _ _
    (by (not (eqb (length nonce) (nonce_of suite))) 2 _ _
    (by (ltb limit (length ad)) 3 _ _
    (by (ltb limit (length text)) 4 _ _
    (by (not (eqb (length out) (length text))) 5 _ _
    (by (not (eqb (length tag) (size_of suite))) 6 _ _ (last right))))))))
  where
    right : Bool
    right = same_bytes (tag_out (cipher_of suite) true key nonce ad text) tag

    f : ℕ → ℕ
    f n = (opened_as n right (text_out (cipher_of suite) true key nonce ad text) out).number

    by : (c : Bool) (k r m : ℕ) → f r ≡ m → f (cond c (suc k) r) ≡ cond c (suc k) m
    by = through f (λ k. refl)

    last : (b : Bool) → (opened_as 0 b (text_out (cipher_of suite) true key nonce ad text) out).number ≡ cond (not b) 8 0
    last true = refl
    last false = refl

-- ---- the session

pub answered-number : (n : ℕ) (done : Given) (v : Value) (out tag : List ℕ) → done.number ≡ 0 → (answered n done v out tag).number ≡ n
answered-number zero done v out tag z = z
answered-number (suc n) done v out tag z = refl

pub start-numbers : StartNumbers
unfolding starting start_number
start-numbers suite key nonce =
    table _ _ (
      not (is_suite suite),
      λ _. tells_suite suite,
      (
        not (seals suite),
        λ r. tells_four suite r.1,
        (
          not (eqb (length key) 16),
          λ _. tells_not (tells_eq _ _),
          (
            not (eqb (length nonce) (nonce_of suite)),
            λ _. tells_not (tells_eq _ _),
            tt,
          ),
        ),
      ),
    ) refl (answered-number _ _ _ [] [] refl)

tells_going : (v : Value) → Tells (sound v.suite v.ad_total v.text_total) (Going v)
tells_going v = tells_and (tells_true (seals v.suite)) (tells_and (tells_le v.ad_total limit) (tells_le v.text_total limit))

-- a total that is within the limit, and goes over it by l bytes
pub tells_over : (t l : ℕ) → t ≤ limit → Tells (ltb (limit - t) l) (limit < t + l)
tells_over t l h = tells_as (tells_lt (limit - t) l) (λ k. omega (arith, h, k), λ k. omega (arith, h, k))

pub data_numbers : DataNumbers
unfolding data_part data_number
data_numbers v part =
    table _ _ (
      not (sound v.suite v.ad_total v.text_total && eqb v.text_total 0),
      λ _. tells_not goes,
      (
        ltb (limit - v.ad_total) (length part),
        λ r. tells_over v.ad_total (length part) (stable goes r.1).0.1.0,
        tt,
      ),
    ) refl (answered-number _ _ v [] [] refl)
  where
    goes : Tells (sound v.suite v.ad_total v.text_total && eqb v.text_total 0) (Going v × (v.text_total ≡ 0))
    goes = tells_and (tells_going v) (tells_eq v.text_total 0)

pub part-numbers : PartNumbers
unfolding text_part text_number
part-numbers v part out =
    table _ _ (
      not (sound v.suite v.ad_total v.text_total),
      λ _. tells_not (tells_going v),
      (
        ltb (limit - v.text_total) (length part),
        λ r. tells_over v.text_total (length part) (stable (tells_going v) r.1).1.1,
        (
          ltb (length out) (length part + (size_of v.suite - 1)),
          λ _. tells_lt _ _,
          tt,
        ),
      ),
    ) refl (answered-number _ _ v out [] (done-number v part out))

pub end-numbers : EndNumbers
unfolding ending end_number
end-numbers v out tag =
    table _ _ (
      not (sound v.suite v.ad_total v.text_total),
      λ _. tells_not (tells_going v),
      (
        ltb (length out) (size_of v.suite),
        λ _. tells_lt _ _,
        (
          not (eqb (length tag) (size_of v.suite)),
          λ _. tells_not (tells_tag_size _ v.suite),
          tt,
        ),
      ),
    ) refl (answered-number _ _ v out tag refl)
