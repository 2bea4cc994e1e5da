-- Answers one after the other give the numbers of an order, where each test tells whether its stage applies.
use mathlib.Core.Path.{◌≡◌, refl, sym, ap, ◌∙◌, subst}
use mathlib.Core.Logic.{◌↔◌, ⊎_elim}
use mathlib.Core.Bool.{Bool, true, false, cond, not, true≢false}
use Prim.Native.Nat.{ℕ, ◌-◌, ◌<◌}
use mathlib.Core.List.{List, [], ◌∷◌}
use lib.Dec.{eqb}
use borrow.Author.Tests.{ne_eqb}
use Rattle.block.proofs.Tests.{both_true}
use Rattle.status.specs.declared.checked.Answer.{Answer}
use Rattle.shift_check.specs.Search.{first_of}
use Rattle.status.specs.Answers.{answer}
use Rattle.shift_check.specs.Check.{and_then}
use Rattle.shift_check.proofs.Searches.{first-at, first-none}
use Rattle.promises.specs.Orders.{Stage, whole, rows, Quiet, Stages, Order}
use Rattle.promises.proofs.Tables.{Tells, not_told, first_of_lem, fresh, distinct, ne_true, fresh-some}

-- ---- the first row

abbrev pub first_row : ℕ → ℕ → (ℕ → Bool) → Answer
first_row k n p = first_of p (answer k) (answer 0 0) 0 (n - 0)

module _ (k n : ℕ) (p : ℕ → Bool) (some : k ≡ 0 → ⊥) where
  -- it stands, whatever comes next
  hits : (i : ℕ) (r : Answer) → i < n → ((j : ℕ) → j < i → p j ≡ false) → p i ≡ true → and_then (first_row k n p) r ≡ answer k i
  hits i r l q e = simp (first-at p (answer k) (answer 0 0) n i l e q, ne_eqb k 0 some)

  -- what comes next stands
  misses : (r : Answer) → ((j : ℕ) → j < n → p j ≡ false) → and_then (first_row k n p) r ≡ r
  misses r q = simp (first-none p (answer k) (answer 0 0) n q)

  -- nothing comes next
  pub then-none : first_row k n p ≡ and_then (first_row k n p) (answer 0 0)
  then-none =
      ⊎_elim
      (λ q. first-none p (answer k) (answer 0 0) n q ∙ sym (misses (answer 0 0) q))
      (λ w. first-at p (answer k) (answer 0 0) n w.0 w.1 w.3 w.2 ∙ sym (hits w.0 (answer 0 0) w.1 w.2 w.3))
      (first_of_lem p n)

  abbrev First : ℕ → Type 0
  First i = (i < n) × (((j : ℕ) → j < i → p j ≡ false) × (p i ≡ true))

  at_rows : (r : Answer) → (r.number ≡ k → ⊥) → (i : ℕ) → (and_then (first_row k n p) r ≡ answer k i) ↔ First i
  at_rows r other i = (
    λ e. ⊎_elim
        (λ q. absurd (other (ap (λ (a : Answer). a.number) (sym (misses r q) ∙ e))))
        (λ w. subst First (ap (λ (a : Answer). a.row) (sym (hits w.0 r w.1 w.2 w.3) ∙ e)) (w.1, (w.2, w.3)))
        (first_of_lem p n),
    λ h. hits i r h.0 h.1.0 h.1.1,
  )

  past_rows : (r : Answer) (m i : ℕ) → (k ≡ m → ⊥) → (and_then (first_row k n p) r ≡ answer m i) ↔ (((j : ℕ) → j < n → p j ≡ false) × (r ≡ answer m i))
  past_rows r m i other = (
    λ e. ⊎_elim
        (λ q. (q, sym (misses r q) ∙ e))
        (λ w. absurd (other (ap (λ (a : Answer). a.number) (sym (hits w.0 r w.1 w.2 w.3) ∙ e))))
        (first_of_lem p n),
    λ h. misses r h.0 ∙ h.1,
  )

-- ---- a number for the whole call

at_whole : (b : Bool) (k : ℕ) (r : Answer) → (r.number ≡ k → ⊥) → (cond b (answer k 0) r ≡ answer k 0) ↔ (b ≡ true)
at_whole true k r other = (λ e. refl, λ e. refl)
at_whole false k r other = (λ e. absurd (other (ap (λ (a : Answer). a.number) e)), λ e. absurd (true≢false (sym e)))

past_whole : (b : Bool) (k : ℕ) (r : Answer) (m i : ℕ) → (k ≡ m → ⊥) → (cond b (answer k 0) r ≡ answer m i) ↔ ((b ≡ true → ⊥) × (r ≡ answer m i))
past_whole true k r m i other = (λ e. absurd (other (ap (λ (a : Answer). a.number) e)), λ h. absurd (h.0 refl))
past_whole false k r m i other = (λ e. (λ t. true≢false (sym t), e), λ h. h.1)

-- ---- the climb

-- for each stage a test that tells whether it applies
abbrev pub Steps : List Stage → Type 0
Steps [] = Unit
Steps (whole k c ∷ ss) = (b : Bool) × Tells b c × Steps ss
Steps (rows k n c ∷ ss) = (p : ℕ → Bool) × ((i : ℕ) → Tells (p i) (c i)) × Steps ss

abbrev pub climb : (ss : List Stage) → Steps ss → Answer
climb [] t = answer 0 0
climb (whole k c ∷ ss) t = cond t.0 (answer k 0) (climb ss t.2)
climb (rows k n c ∷ ss) t = and_then (first_row k n t.0) (climb ss t.2)

-- the numbers of an order
abbrev pub numbers_in : List Stage → List ℕ
numbers_in [] = []
numbers_in (whole k c ∷ ss) = k ∷ numbers_in ss
numbers_in (rows k n c ∷ ss) = k ∷ numbers_in ss

-- a climb never gives a number that is fresh
not-given : (k : ℕ) (ss : List Stage) (t : Steps ss) → distinct (numbers_in ss) ≡ true → fresh k (numbers_in ss) ≡ true → (climb ss t).number ≡ k → ⊥
not-given k [] t d f e = ne_true k 0 f (sym e)
not-given k (whole m c ∷ ss) t d f e =
    let g = both_true (not (eqb k m)) (fresh k (numbers_in ss)) f in
    let h = both_true (fresh m (numbers_in ss)) (distinct (numbers_in ss)) d in
    by t.0 e (ne_true k m g.0) (not-given k ss t.2 h.1 g.1)
  where
    by : (b : Bool) → (cond b (answer m 0) (climb ss t.2)).number ≡ k → (k ≡ m → ⊥) → ((climb ss t.2).number ≡ k → ⊥) → ⊥
    by true e n r = n (sym e)
    by false e n r = r e
not-given k (rows m n c ∷ ss) t d f e =
    let g = both_true (not (eqb k m)) (fresh k (numbers_in ss)) f in
    let h = both_true (fresh m (numbers_in ss)) (distinct (numbers_in ss)) d in
    let some = fresh-some m (numbers_in ss) h.0 in
    let r = climb ss t.2 in
    ⊎_elim
    (λ q. not-given k ss t.2 h.1 g.1 (ap (λ (a : Answer). a.number) (sym (misses m n t.0 some r q)) ∙ e))
    (λ w. ne_true k m g.0 (sym e ∙ ap (λ (a : Answer). a.number) (hits m n t.0 some w.0 r w.1 w.2 w.3)))
    (first_of_lem t.0 n)

-- ---- from the climb to the order

module _ (Gives : ℕ → ℕ → Type 0) where
  -- `Gives k i` says that the order is reached and its climb gives k with row i
  abbrev By : Type 0 → Answer → ℕ → ℕ → Type 0
  By reached x k i = Gives k i ↔ (reached × (x ≡ answer k i))

  abbrev EachBy : Type 0 → Answer → List Stage → Type 0
  EachBy reached x [] = Unit
  EachBy reached x (whole k c ∷ ss) = By reached x k 0 × EachBy reached x ss
  EachBy reached x (rows k n c ∷ ss) = ((i : ℕ) → By reached x k i) × EachBy reached x ss

  -- a stage is passed
  past : (reached after : Type 0) (x r : Answer) (k : ℕ) (ss : List Stage) → fresh k (numbers_in ss) ≡ true
      → ((m i : ℕ) → (k ≡ m → ⊥) → (reached × (x ≡ answer m i)) ↔ (after × (r ≡ answer m i)))
      → EachBy reached x ss → EachBy after r ss
  past reached after x r k [] f h e = tt
  past reached after x r k (whole m c ∷ ss) f h e =
      let g = both_true (not (eqb k m)) (fresh k (numbers_in ss)) f in
      let s = h m 0 (ne_true k m g.0) in
      ((λ y. s.0 (e.0.0 y), λ y. e.0.1 (s.1 y)), past reached after x r k ss g.1 h e.1)
  past reached after x r k (rows m n c ∷ ss) f h e =
      let g = both_true (not (eqb k m)) (fresh k (numbers_in ss)) f in
      let o = ne_true k m g.0 in
      (λ i. (λ y. (h m i o).0 ((e.0 i).0 y), λ y. (e.0 i).1 ((h m i o).1 y)), past reached after x r k ss g.1 h e.1)

  stages : (reached : Type 0) (ss : List Stage) (t : Steps ss) → distinct (numbers_in ss) ≡ true → EachBy reached (climb ss t) ss → Stages Gives reached ss
  stages reached [] t d e = tt
  stages reached (whole k c ∷ ss) t d e =
      let g = both_true (fresh k (numbers_in ss)) (distinct (numbers_in ss)) d in
      let r = climb ss t.2 in
      let a = at_whole t.0 k r (not-given k ss t.2 g.1 g.0) in (
        (λ y. let z = e.0.0 y in (z.0, t.1.0 (a.0 z.1)), λ y. e.0.1 (y.0, a.1 (t.1.1 y.1))),
        stages (reached × (c → ⊥)) ss t.2 g.1
            (past reached (reached × (c → ⊥)) (cond t.0 (answer k 0) r) r k ss g.0
            (λ m i n.
            let q = past_whole t.0 k r m i n in
            (λ y. let z = q.0 y.1 in ((y.0, λ w. z.0 (t.1.1 w)), z.1), λ y. (y.0.0, q.1 (λ b. y.0.1 (t.1.0 b), y.1))))
            e.1),
      )
  stages reached (rows k n c ∷ ss) t d e =
      let g = both_true (fresh k (numbers_in ss)) (distinct (numbers_in ss)) d in
      let r = climb ss t.2 in
      let p = t.0 in
      let some = fresh-some k (numbers_in ss) g.0 in
      let a = at_rows k n p some r (not-given k ss t.2 g.1 g.0) in
      let no : (j : ℕ) → p j ≡ false → c j → ⊥ = λ j q w. true≢false (sym ((t.1 j).1 w) ∙ q) in
      let un : (j : ℕ) → (c j → ⊥) → p j ≡ false = λ j w. not_told (t.1 j) w in (
        λ i. (
          λ y.
              let z = (e.0 i).0 y in
              let h = (a i).0 z.1 in
              (z.0, (h.0, (λ j l. no j (h.1.0 j l), (t.1 i).0 h.1.1))),
          λ y. (e.0 i).1 (y.0, (a i).1 (y.1.0, (λ j l. un j (y.1.1.0 j l), (t.1 i).1 y.1.1.1))),
        ),
        stages (reached × ((j : ℕ) → j < n → c j → ⊥)) ss t.2 g.1
            (past reached (reached × ((j : ℕ) → j < n → c j → ⊥)) (and_then (first_row k n p) r) r k ss g.0
            (λ m i o.
            let q = past_rows k n p some r m i o in
            (λ y. let z = q.0 y.1 in ((y.0, λ j l. no j (z.0 j l)), z.1), λ y. (y.0.0, q.1 (λ j l. un j (y.0.1 j l), y.1))))
            e.1),
      )

-- 0 exactly if nothing applies
quiet : (ss : List Stage) (t : Steps ss) → distinct (numbers_in ss) ≡ true → (climb ss t ≡ answer 0 0) ↔ Quiet ss
quiet [] t d = (λ e. tt, λ e. refl)
quiet (whole k c ∷ ss) t d =
    let g = both_true (fresh k (numbers_in ss)) (distinct (numbers_in ss)) d in
    let q = past_whole t.0 k (climb ss t.2) 0 0 (fresh-some k (numbers_in ss) g.0) in
    let s = quiet ss t.2 g.1 in
    (λ e. let z = q.0 e in (λ w. z.0 (t.1.1 w), s.0 z.1), λ h. q.1 (λ b. h.0 (t.1.0 b), s.1 h.1))
quiet (rows k n c ∷ ss) t d =
    let g = both_true (fresh k (numbers_in ss)) (distinct (numbers_in ss)) d in
    let some = fresh-some k (numbers_in ss) g.0 in
    let q = past_rows k n t.0 some (climb ss t.2) 0 0 some in
    let s = quiet ss t.2 g.1 in
    (λ e. let z = q.0 e in (λ j l w. true≢false (sym ((t.1 j).1 w) ∙ z.0 j l), s.0 z.1), λ h. q.1 (λ j l. not_told (t.1 j) (h.0 j l), s.1 h.1))

each-by : (x : Answer) (ss : List Stage) → EachBy (λ k i. x ≡ answer k i) Unit x ss
each-by x [] = tt
each-by x (whole k c ∷ ss) = ((λ e. (tt, e), λ y. y.1), each-by x ss)
each-by x (rows k n c ∷ ss) = (λ i. (λ e. (tt, e), λ y. y.1), each-by x ss)

-- of an answer that is the climb's
pub order : (x : Answer) (ss : List Stage) (t : Steps ss) → distinct (numbers_in ss) ≡ true → x ≡ climb ss t → Order (λ k i. x ≡ answer k i) ss
order x ss t d q =
    subst (λ (y : Answer). Order (λ k i. y ≡ answer k i) ss) (sym q)
    (record {
      stages = stages (λ k i. climb ss t ≡ answer k i) Unit ss t d (each-by (climb ss t) ss);
      success = quiet ss t d;
    })
