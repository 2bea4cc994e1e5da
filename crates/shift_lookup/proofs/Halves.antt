-- The binary search rule, as the loop goes through it; how many rows it looks at, and what it says of rising job numbers.
use Prim.Native.Nat.{ℕ, zero, suc, ◌+◌, ◌-◌, ◌*◌, ◌/◌, ◌^◌, ◌≤◌, ◌<◌}
use native.Mathlib.Nat.{pow-suc, not-suc-le-zero}
use native.Mathlib.Decide.{dec_lt}
use native.Mathlib.Omega.{arith}
use mathlib.Core.Path.{◌≡◌, refl, sym, ap, ap₂, ◌∙◌, subst}
use mathlib.Core.Bool.{Bool, cond}
use mathlib.Core.List.{List, [], ◌∷◌}
use mathlib.Core.Logic.{◌⊎◌, inl, inr, ⊎_elim}
use lib.ListN.{length}
use lib.Dec.{eqb, ltb}
use borrow.Author.Tests.{eq-eqb, ne_eqb, lt-ltb, le-ltb}
use Rattle.status.specs.declared.checked.Answer.{Answer}
use Rattle.status.specs.Answers.{answer}
use Rattle.shift_lookup.specs.Halving.{Walk, ends, visit, halving_in, halving}

-- what follows a look at a row whose tests say a and b
abbrev step : Bool → Bool → ℕ → Walk → Walk → Walk
step a b m up down = visit m (cond a (ends (answer 0 m)) (cond b up down))

module _ (jobs : ℕ → ℕ) (job : ℕ) where
  -- no row: nothing is looked at
  pub halving-none : (s : ℕ) → halving jobs job s 0 ≡ ends (answer 32 0)
  unfolding halving_in
  halving-none s = refl

  in-none : (k s : ℕ) → halving_in jobs job k s 0 ≡ ends (answer 32 0)
  unfolding halving_in
  in-none zero s = refl
  in-none (suc k) s = refl

  in_some : (k s c : ℕ) → 0 < c → halving_in jobs job (suc k) s c
      ≡ step (eqb (jobs (s + c / 2)) job) (ltb (jobs (s + c / 2)) job) (s + c / 2) (halving_in jobs job k (s + c / 2 + 1) (c - c / 2 - 1))
      (halving_in jobs job k s (c / 2))
  unfolding halving_in
  in_some k s c some = let n : c ≡ 0 → ⊥ = λ q. omega arith in simp (ne_eqb _ _ n)

  -- more looks than rows change nothing
  enough : (k l s c : ℕ) → c ≤ k → c ≤ l → halving_in jobs job k s c ≡ halving_in jobs job l s c
  enough zero l s c hk hl =
      let z : c ≡ 0 = omega arith in
      rw z (in-none 0 s ∙ sym (in-none l s))
  enough (suc k) zero s c hk hl =
      let z : c ≡ 0 = omega arith in
      rw z (in-none (suc k) s ∙ sym (in-none 0 s))
  enough (suc k) (suc l) s c hk hl =
      elim (dec_lt 0 c) [
        | yes some ↦
            in_some k s c some
            ∙ ap₂ (step (eqb (jobs (s + c / 2)) job) (ltb (jobs (s + c / 2)) job) (s + c / 2))
            (enough k l (s + c / 2 + 1) (c - c / 2 - 1) (omega arith) (omega arith)) (enough k l s (c / 2) (omega arith) (omega arith))
            ∙ sym (in_some l s c some)
        | no none ↦
            let z : c ≡ 0 = omega arith in
            rw z (in-none (suc k) s ∙ sym (in-none (suc l) s))
      ]

  -- some rows: one look, and then the rule again
  pub halving-some : (s c : ℕ) → 0 < c → halving jobs job s c
      ≡ step (eqb (jobs (s + c / 2)) job) (ltb (jobs (s + c / 2)) job) (s + c / 2) (halving jobs job (s + c / 2 + 1) (c - c / 2 - 1))
      (halving jobs job s (c / 2))
  halving-some s zero some = absurd (not-suc-le-zero some)
  halving-some s (suc c) some =
      in_some c s (suc c) some
      ∙ ap₂ (step (eqb (jobs (s + suc c / 2)) job) (ltb (jobs (s + suc c / 2)) job) (s + suc c / 2))
      (enough c (suc c - suc c / 2 - 1) (s + suc c / 2 + 1) (suc c - suc c / 2 - 1) (omega arith) (omega arith))
      (enough c (suc c / 2) s (suc c / 2) (omega arith) (omega arith))

  module _ (s c : ℕ) (some : 0 < c) where
    pub halving-hit : jobs (s + c / 2) ≡ job → halving jobs job s c ≡ visit (s + c / 2) (ends (answer 0 (s + c / 2)))
    halving-hit q = halving-some s c some ∙ simp (eq-eqb _ _ q)

    pub halving-up : jobs (s + c / 2) < job → halving jobs job s c ≡ visit (s + c / 2) (halving jobs job (s + c / 2 + 1) (c - c / 2 - 1))
    halving-up l = let n : jobs (s + c / 2) ≡ job → ⊥ = λ q. omega arith in halving-some s c some ∙ simp (ne_eqb _ _ n, lt-ltb _ _ l)

    pub halving-down : job < jobs (s + c / 2) → halving jobs job s c ≡ visit (s + c / 2) (halving jobs job s (c / 2))
    halving-down l =
        let n : jobs (s + c / 2) ≡ job → ⊥ = λ q. omega arith in
        let m : job ≤ jobs (s + c / 2) = omega arith in
        halving-some s c some ∙ simp (ne_eqb _ _ n, le-ltb _ _ m)

-- the job of a row is that which is sought, lower, or higher
pub three : {A : Type 0} (a b : ℕ) → (a ≡ b → A) → (a < b → A) → (b < a → A) → A
three a b same low high =
    elim (dec_lt a b) [
      | yes l ↦ low l
      | no l ↦ elim (dec_lt b a) [
        | yes h ↦ high h
        | no h ↦ same (omega arith)
      ]
    ]

-- ---- the loop: after `looked` looks, c rows at row s are left of n

pub record Halfway (jobs : ℕ → ℕ) (job n s c looked : ℕ) : Type 0 where
  pub within : s + c ≤ n
  pub few : looked + c ≤ n
  pub same : (halving jobs job 0 n).says ≡ (halving jobs job s c).says
  pub count : length (halving jobs job 0 n).rows ≡ looked + length (halving jobs job s c).rows

abbrev says_of : Walk → Answer
says_of x = x.says

abbrev looked_of : Walk → ℕ
looked_of x = length x.rows

module _ (jobs : ℕ → ℕ) (job n : ℕ) where
  pub halfway-start : Halfway jobs job n 0 n 0
  halfway-start = record { within = omega arith; few = omega arith; same = refl; count = omega arith }

  module _ (s c looked : ℕ) (some : 0 < c) (h : Halfway jobs job n s c looked) where
    pub halfway-hit : jobs (s + c / 2) ≡ job → (answer 0 (s + c / 2) ≡ (halving jobs job 0 n).says) × (looked + 1 ≡ length (halving jobs job 0 n).rows)
    halfway-hit q =
        let g = halving-hit jobs job s c some q in
        (sym (h.same ∙ ap says_of g), omega (arith, h.count, ap looked_of g))

    pub halfway-up : jobs (s + c / 2) < job → Halfway jobs job n (s + c / 2 + 1) (c - c / 2 - 1) (looked + 1)
    halfway-up l =
        let g = halving-up jobs job s c some l in
        record { within = omega (arith, h.within); few = omega (arith, h.few); same = h.same ∙ ap says_of g; count = omega (arith, h.count, ap looked_of g) }

    pub halfway-down : job < jobs (s + c / 2) → Halfway jobs job n s (c / 2) (looked + 1)
    halfway-down l =
        let g = halving-down jobs job s c some l in
        record { within = omega (arith, h.within); few = omega (arith, h.few); same = h.same ∙ ap says_of g; count = omega (arith, h.count, ap looked_of g) }

  pub halfway-end : (s c looked : ℕ) → c ≤ 0 → Halfway jobs job n s c looked → (answer 32 0 ≡ (halving jobs job 0 n).says)
      × (looked ≡ length (halving jobs job 0 n).rows)
  halfway-end s c looked z h =
      let q : c ≡ 0 = omega arith in
      let g : halving jobs job s c ≡ ends (answer 32 0) = rw q (halving-none jobs job s) in
      (sym (h.same ∙ ap says_of g), omega (arith, h.count, ap looked_of g))

-- ---- how many looks: k of them for fewer than 2 ^ k rows

half : (k c : ℕ) → c < 2 ^ suc k → c / 2 < 2 ^ k
half k c h = let q : 2 ^ suc k ≡ 2 ^ k * 2 = pow-suc 2 k in omega arith

pub looks : (jobs : ℕ → ℕ) (job k s c : ℕ) → c < 2 ^ k → length (halving jobs job s c).rows ≤ k
looks jobs job zero s c h =
    let o : 2 ^ 0 ≡ 1 = refl in
    let z : c ≡ 0 = omega arith in
    rw z (omega (arith, ap looked_of (halving-none jobs job s)))
looks jobs job (suc k) s c h =
    elim (dec_lt 0 c) [
      | yes some ↦
          three (jobs (s + c / 2)) job
          (λ q. omega (arith, ap looked_of (halving-hit jobs job s c some q)))
          (λ l. omega (arith, ap looked_of (halving-up jobs job s c some l), looks jobs job k (s + c / 2 + 1) (c - c / 2 - 1) (omega (arith, half k c h))))
          (λ l. omega (arith, ap looked_of (halving-down jobs job s c some l), looks jobs job k s (c / 2) (half k c h)))
      | no none ↦
          let z : c ≡ 0 = omega arith in
          rw z (omega (arith, ap looked_of (halving-none jobs job s)))
    ]

-- ---- the row that is given is one of the c, or 0

abbrev row_of : Walk → ℕ
row_of x = x.says.row

pub row-most : (jobs : ℕ → ℕ) (job k s c : ℕ) → c ≤ k → (halving jobs job s c).says.row ≤ s + c
row-most jobs job zero s c l =
    let z : c ≡ 0 = omega arith in
    rw z (omega (arith, ap row_of (halving-none jobs job s)))
row-most jobs job (suc k) s c l =
    elim (dec_lt 0 c) [
      | yes some ↦
          three (jobs (s + c / 2)) job
          (λ q. omega (arith, ap row_of (halving-hit jobs job s c some q)))
          (λ b. omega (arith, ap row_of (halving-up jobs job s c some b), row-most jobs job k (s + c / 2 + 1) (c - c / 2 - 1) (omega arith)))
          (λ b. omega (arith, ap row_of (halving-down jobs job s c some b), row-most jobs job k s (c / 2) (omega arith)))
      | no none ↦
          let z : c ≡ 0 = omega arith in
          rw z (omega (arith, ap row_of (halving-none jobs job s)))
    ]

-- ---- the number that is given is 0 or 32

abbrev number_of : Walk → ℕ
number_of x = x.says.number

pub halved_number : (jobs : ℕ → ℕ) (job k s c : ℕ) → c ≤ k → ((halving jobs job s c).says.number ≡ 0) ⊎ ((halving jobs job s c).says.number ≡ 32)
halved_number jobs job zero s c l =
    let z : c ≡ 0 = omega arith in
    inr (rw z (ap number_of (halving-none jobs job s)))
halved_number jobs job (suc k) s c l =
    elim (dec_lt 0 c) [
      | yes some ↦
          three (jobs (s + c / 2)) job
          (λ q. inl (ap number_of (halving-hit jobs job s c some q)))
          (λ b. rw (ap number_of (halving-up jobs job s c some b)) (halved_number jobs job k (s + c / 2 + 1) (c - c / 2 - 1) (omega arith)))
          (λ b. rw (ap number_of (halving-down jobs job s c some b)) (halved_number jobs job k s (c / 2) (omega arith)))
      | no none ↦
          let z : c ≡ 0 = omega arith in
          inr (rw z (ap number_of (halving-none jobs job s)))
    ]

-- ---- only the rows of the stretch are read

pub jobs_same : (jobs other : ℕ → ℕ) (job k s c : ℕ) → c ≤ k → ((i : ℕ) → s ≤ i → i < s + c → jobs i ≡ other i)
    → halving_in jobs job k s c ≡ halving_in other job k s c
jobs_same jobs other job zero s c l h =
    let z : c ≡ 0 = omega arith in
    rw z (in-none jobs job 0 s ∙ sym (in-none other job 0 s))
jobs_same jobs other job (suc k) s c l h =
    elim (dec_lt 0 c) [
      | yes some ↦
          let m = s + c / 2 in
          let up = jobs_same jobs other job k (m + 1) (c - c / 2 - 1) (omega arith) (λ i a b. h i (omega arith) (omega arith)) in
          let down = jobs_same jobs other job k s (c / 2) (omega arith) (λ i a b. h i (omega arith) (omega arith)) in
          in_some jobs job k s c some
          ∙ ap₂ (step (eqb (jobs m) job) (ltb (jobs m) job) m) up down
          ∙ ap (λ (j : ℕ). step (eqb j job) (ltb j job) m (halving_in other job k (m + 1) (c - c / 2 - 1)) (halving_in other job k s (c / 2)))
          (h m (omega arith) (omega arith))
          ∙ sym (in_some other job k s c some)
      | no none ↦
          let z : c ≡ 0 = omega arith in
          rw z (in-none jobs job (suc k) s ∙ sym (in-none other job (suc k) s))
    ]

-- ---- only the rows that are visited are read

-- the same job in each row of a list
abbrev pub Same : (ℕ → ℕ) → (ℕ → ℕ) → List ℕ → Type 0
Same jobs other [] = Unit
Same jobs other (i ∷ is) = (jobs i ≡ other i) × Same jobs other is

pub visited_same : (jobs other : ℕ → ℕ) (job k s c : ℕ) → c ≤ k → Same jobs other (halving jobs job s c).rows → halving jobs job s c ≡ halving other job s c
visited_same jobs other job zero s c l h =
    let z : c ≡ 0 = omega arith in
    rw z (halving-none jobs job s ∙ sym (halving-none other job s))
visited_same jobs other job (suc k) s c l h =
    elim (dec_lt 0 c) [
      | yes some ↦
          let m = s + c / 2 in
          let of : (w : Walk) → halving jobs job s c ≡ w → Same jobs other w.rows = λ w e. subst (λ (w : Walk). Same jobs other w.rows) e h in
          three (jobs m) job
          (λ q.
          let e = halving-hit jobs job s c some q in
          e ∙ sym (halving-hit other job s c some (sym (of _ e).0 ∙ q)))
          (λ low.
          let e = halving-up jobs job s c some low in
          e ∙ ap (visit m) (visited_same jobs other job k (m + 1) (c - c / 2 - 1) (omega arith) (of _ e).1)
          ∙ sym (halving-up other job s c some (rw (sym (of _ e).0) low)))
          (λ high.
          let e = halving-down jobs job s c some high in
          e ∙ ap (visit m) (visited_same jobs other job k s (c / 2) (omega arith) (of _ e).1)
          ∙ sym (halving-down other job s c some (rw (sym (of _ e).0) high)))
      | no none ↦
          let z : c ≡ 0 = omega arith in
          rw z (halving-none jobs job s ∙ sym (halving-none other job s))
    ]

-- ---- where job numbers rise, the row that has the job is found

module _ (jobs : ℕ → ℕ) (job : ℕ) where
  -- of c rows at row s the answer is right
  pub record Row (s c : ℕ) (x : Answer) : Type 0 where
    pub at : ℕ
    pub from : s ≤ at
    pub below : at < s + c
    pub has : jobs at ≡ job
    pub gives : x ≡ answer 0 at

  pub record Gap (s c : ℕ) (x : Answer) : Type 0 where
    pub none : (i : ℕ) → s ≤ i → i < s + c → jobs i ≡ job → ⊥
    pub gives : x ≡ answer 32 0

  pub says : (k s c n : ℕ) → c ≤ k → s + c ≤ n → ((i j : ℕ) → i < j → j < n → jobs i < jobs j)
      → Row s c (halving jobs job s c).says ⊎ Gap s c (halving jobs job s c).says
  says zero s c n l w rise =
      let z : c ≡ 0 = omega arith in
      inr (record { none = λ i a b q. omega arith; gives = rw z (ap says_of (halving-none jobs job s)) })
  says (suc k) s c n l w rise =
      elim (dec_lt 0 c) [
        | yes some ↦
            let m = s + c / 2 in
            three (jobs m) job
            (λ q. inl (record { at = m; from = omega arith; below = omega arith; has = q; gives = ap says_of (halving-hit jobs job s c some q) }))
            (λ low.
            let e = ap says_of (halving-up jobs job s c some low) in
            ⊎_elim
            (λ r. inl (record { at = r.at; from = omega (arith, r.from); below = omega (arith, r.below); has = r.has; gives = e ∙ r.gives }))
            (λ g. inr (record {
              none = λ i a b q. three {A = ⊥} i m
                  (λ r. let t : jobs i ≡ jobs m = ap jobs r in omega arith)
                  (λ r. omega (arith, rise i m r (omega arith)))
                  (λ r. g.none i (omega arith) (omega arith) q);
              gives = e ∙ g.gives;
            }))
            (says k (m + 1) (c - c / 2 - 1) n (omega arith) (omega arith) rise))
            (λ high.
            let e = ap says_of (halving-down jobs job s c some high) in
            ⊎_elim
            (λ r. inl (record { at = r.at; from = omega (arith, r.from); below = omega (arith, r.below); has = r.has; gives = e ∙ r.gives }))
            (λ g. inr (record {
              none = λ i a b q. three {A = ⊥} i m
                  (λ r. let t : jobs i ≡ jobs m = ap jobs r in omega arith)
                  (λ r. g.none i a r q)
                  (λ r. omega (arith, rise m i r (omega arith)));
              gives = e ∙ g.gives;
            }))
            (says k s (c / 2) n (omega arith) (omega arith) rise))
        | no none ↦
            let z : c ≡ 0 = omega arith in
            inr (record { none = λ i a b q. omega arith; gives = rw z (ap says_of (halving-none jobs job s)) })
      ]
