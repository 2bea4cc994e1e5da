-- A search as a loop goes through it: one number more, or the outcome; and what an outcome says of every number passed.
use Prim.Native.Nat.{ℕ, zero, suc, ◌+◌, ◌-◌, ◌≤◌, ◌<◌}
use native.Mathlib.Nat.{not-suc-le-zero, le_of_suc-le-suc, eq-or-lt_of_le}
use native.Mathlib.Numerals.{add-one}
use native.Mathlib.Omega.{arith}
use mathlib.Core.Path.{◌≡◌, refl, sym, ap, ◌∙◌}
use mathlib.Core.Bool.{Bool, true, false, cond, or-true, or-false, true≢false}
use mathlib.Core.Logic.{◌⊎◌, inl, inr, ⊎_elim}
use lib.Dec.{eqb}
use borrow.Author.Tests.{eqb-true, eqb-false}
use Rattle.block.proofs.Tests.{either_true}
use Rattle.shift_check.specs.Search.{any_below, first_of}

-- numbers that cannot differ are equal
pub same_number : (i j : ℕ) → ((i ≡ j → ⊥) → ⊥) → i ≡ j
same_number i j d = number-case (eqb i j) refl
  where
    number-case : (b : Bool) → eqb i j ≡ b → i ≡ j
    number-case true e = eqb-true i j e
    number-case false e = absurd (d (eqb-false i j e))

-- ---- some number below n

-- none below j passes, and j does not: none below j + 1 does
pub any_more : (p : ℕ → Bool) (j : ℕ) → any_below p j ≡ false → p j ≡ false → any_below p (j + 1) ≡ false
unfolding any_below
any_more p j none here = rw add-one (simp (here, none))

-- none of the numbers below n passes
pub any_none : (p : ℕ → Bool) (n : ℕ) → ((j : ℕ) → j < n → p j ≡ false) → any_below p n ≡ false
unfolding any_below
any_none p zero h = refl
any_none p (suc n) h = simp (h n (omega arith), any_none p n (λ j l. h j (omega arith)))

-- j passes: some number below n does
pub any_hit : (p : ℕ → Bool) (j n : ℕ) → j < n → p j ≡ true → any_below p n ≡ true
unfolding any_below
any_hit p j zero h e = absurd (not-suc-le-zero h)
any_hit p j (suc n) h e =
    ⊎_elim
    (λ q. let here : p n ≡ true = rw q at e in simp here)
    (λ l. simp (any_hit p j n l e, or-true))
    (eq-or-lt_of_le (le_of_suc-le-suc h))

-- some number below n passes: which
pub any_some : (p : ℕ → Bool) (n : ℕ) → any_below p n ≡ true → (k : ℕ) × ((k < n) × (p k ≡ true))
unfolding any_below
any_some p zero q = absurd (true≢false (sym q))
any_some p (suc n) q =
    ⊎_elim (λ (h : p n ≡ true). (n, (omega arith, h))) (λ h. let r = any_some p n h in (r.0, (omega arith, r.1.1))) (either_true (p n) (any_below p n) q)

-- no other than j passes
pub any_only : (p : ℕ → Bool) (n j : ℕ) → j < n → ((k : ℕ) → k < n → (k ≡ j → ⊥) → p k ≡ false) → any_below p n ≡ p j
unfolding any_below
any_only p zero j l h = absurd (omega arith)
any_only p (suc n) j l h =
    ⊎_elim
    (λ (e : j ≡ n). simp (any_none p n (λ k m. h k (omega arith) (λ q. omega arith)), or-false) (ap p (sym e)))
    (λ (m : j < n). simp (h n (omega arith) (λ q. omega arith)) (any_only p n j m (λ k z. h k (omega arith))))
    (eq-or-lt_of_le (omega arith))

-- ---- a loop that looks for a number below n that passes

-- it has come to j, and none below j passes
pub record NoneYet (p : ℕ → Bool) (n j : ℕ) : Type 0 where
  pub within : j ≤ n
  pub none : any_below p j ≡ false

module _ {p : ℕ → Bool} {n : ℕ} where
  pub yet-start : NoneYet p n 0
  unfolding any_below
  yet-start = record { within = omega arith; none = refl }

  module _ {j : ℕ} (yet : NoneYet p n j) where
    -- j passes
    pub yet-hit : j < n → p j ≡ true → any_below p n ≡ true
    yet-hit l e = any_hit p j n l e

    -- j does not
    pub yet-more : j < n → p j ≡ false → NoneYet p n (j + 1)
    yet-more l e = record { within = omega arith; none = any_more p j yet.none e }

    -- none is left
    pub yet-end : n ≤ j → any_below p n ≡ false
    yet-end l = let q : j ≡ n = omega (arith, yet.within) in ap (any_below p) (sym q) ∙ yet.none

-- ---- the first number that passes

module _ {A : Type 0} (hit : ℕ → Bool) (what : ℕ → A) (rest : A) where
  -- of the numbers from i to n: i passes
  pub first-hit : (n i : ℕ) → i < n → hit i ≡ true → first_of hit what rest i (n - i) ≡ what i
  unfolding first_of
  first-hit n i h e = let q : n - i ≡ suc (n - (i + 1)) = omega arith in rw q (simp e)

  -- i does not
  pub first-skip : (n i : ℕ) → i < n → hit i ≡ false → first_of hit what rest i (n - i) ≡ first_of hit what rest (i + 1) (n - (i + 1))
  unfolding first_of
  first-skip n i h e = let q : n - i ≡ suc (n - (i + 1)) = omega arith in rw q (simp (e, add-one))

  -- nothing is left
  pub first-end : (n i : ℕ) → n ≤ i → first_of hit what rest i (n - i) ≡ rest
  unfolding first_of
  first-end n i h = let q : n - i ≡ 0 = omega arith in rw q

  pub record Hit (i k : ℕ) (r : A) : Type 0 where
    pub at : ℕ
    pub from : i ≤ at
    pub below : at < i + k
    pub hits : hit at ≡ true
    pub gives : what at ≡ r

  pub record None (i k : ℕ) (r : A) : Type 0 where
    pub none : (j : ℕ) → i ≤ j → j < i + k → hit j ≡ false
    pub gives : rest ≡ r

  -- what an outcome says
  pub first_says : (k i : ℕ) (r : A) → first_of hit what rest i k ≡ r → Hit i k r ⊎ None i k r
  unfolding first_of
  first_says zero i r q = inr (record { none = λ j l h. absurd (let z : ◌≡◌ {A = ℕ} 0 1 = omega arith in omega arith); gives = q })
  first_says (suc k) i r q = first_case (hit i) refl (λ h. first_says k (suc i) r h)
    where
      first_case : (b : Bool) → hit i ≡ b → (first_of hit what rest (suc i) k ≡ r → Hit (suc i) k r ⊎ None (suc i) k r) → Hit i (suc k) r ⊎ None i (suc k) r
      first_case true e later = inl (record { at = i; from = omega arith; below = omega arith; hits = e; gives = simp e at q })
      first_case false e later =
          ⊎_elim
          (λ h. inl (record { at = h.at; from = omega arith; below = omega arith; hits = h.hits; gives = h.gives }))
          (λ n. inr (record {
            none = λ j l b. ⊎_elim (λ s. rw s at e) (λ m. n.none j m (omega arith)) (eq-or-lt_of_le l);
            gives = n.gives;
          }))
          (later (simp e at q))

  -- i is the first of the numbers below n that passes
  first_past : (n i : ℕ) → i ≤ n → ((j : ℕ) → j < i → hit j ≡ false) → first_of hit what rest 0 (n - 0) ≡ first_of hit what rest i (n - i)
  first_past n zero l z = refl
  first_past n (suc i) l z = first_past n i (omega arith) (λ j b. z j (omega arith)) ∙ rw add-one at (first-skip n i l (z i (omega arith)))

  pub first-at : (n i : ℕ) → i < n → hit i ≡ true → ((j : ℕ) → j < i → hit j ≡ false) → first_of hit what rest 0 (n - 0) ≡ what i
  first-at n i l e z = first_past n i (omega arith) z ∙ first-hit n i l e

  -- none of the numbers below n passes
  pub first-none : (n : ℕ) → ((j : ℕ) → j < n → hit j ≡ false) → first_of hit what rest 0 (n - 0) ≡ rest
  first-none n z =
      ⊎_elim
      (λ h. absurd (true≢false (sym h.hits ∙ z h.at (omega (arith, h.below)))))
      (λ h. sym h.gives)
      (first_says (n - 0) 0 (first_of hit what rest 0 (n - 0)) refl)

  -- of the numbers below n no other than i passes
  pub first-only : (n i : ℕ) → i < n → ((j : ℕ) → j < n → (j ≡ i → ⊥) → hit j ≡ false) → first_of hit what rest 0 (n - 0) ≡ cond (hit i) (what i) rest
  first-only n i l z =
      ⊎_elim
      (λ h.
      let q : h.at ≡ i = same_number h.at i (λ d. true≢false (sym h.hits ∙ z h.at (omega (arith, h.below)) d)) in
      let here : hit i ≡ true = ap hit (sym q) ∙ h.hits in
      simp here (sym h.gives ∙ ap what q))
      (λ h.
      let here : hit i ≡ false = h.none i (omega arith) (omega arith) in
      simp here (sym h.gives))
      (first_says (n - 0) 0 (first_of hit what rest 0 (n - 0)) refl)

-- two searches whose tests say the same, and which give the same where they hit and where they do not
pub first_same : {A : Type 0} (hit hit' : ℕ → Bool) (what what' : ℕ → A) (rest rest' : A) (k i : ℕ) → ((j : ℕ) → j < i + k → hit j ≡ hit' j)
    → ((j : ℕ) → j < i + k → hit j ≡ true → what j ≡ what' j) → rest ≡ rest' → first_of hit what rest i k ≡ first_of hit' what' rest' i k
unfolding first_of
first_same hit hit' what what' rest rest' zero i h w r = r
first_same hit hit' what what' rest rest' (suc k) i h w r =
    first_case (hit i) refl (first_same hit hit' what what' rest rest' k (suc i) (λ j l. h j (omega arith)) (λ j l. w j (omega arith)) r)
  where
    first_case : (b : Bool) → hit i ≡ b → first_of hit what rest (suc i) k ≡ first_of hit' what' rest' (suc i) k
        → cond b (what i) (first_of hit what rest (suc i) k) ≡ cond (hit' i) (what' i) (first_of hit' what' rest' (suc i) k)
    first_case true e q = let same : hit' i ≡ true = sym (h i (omega arith)) ∙ e in simp same (w i (omega arith) e)
    first_case false e q = let same : hit' i ≡ false = sym (h i (omega arith)) ∙ e in simp same q
