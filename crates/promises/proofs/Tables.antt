-- A ladder of tests gives the numbers of a table, where each test tells whether its line applies, once no line before it does.
use mathlib.Core.Path.{◌≡◌, refl, sym, ap, ◌∙◌}
use mathlib.Core.Logic.{◌⊎◌, inl, inr, ◌↔◌, ⊎_elim}
use mathlib.Core.Bool.{Bool, true, false, cond, not, ◌&&◌, ◌||◌, true≢false}
use Prim.Native.Nat.{ℕ, zero, suc, ◌<◌, ◌≤◌}
use native.Mathlib.Nat.{not-suc-le-zero, le_of_suc-le-suc, eq-or-lt_of_le}
use native.Mathlib.Omega.{arith}
use mathlib.Core.List.{List, [], ◌∷◌}
use lib.Dec.{eqb, ltb, leb}
use borrow.Author.Tests.{ltb-true, leb-true, eqb-true, eqb-false, lt-ltb, le-leb, eq-eqb, not-true}
use Rattle.block.specs.Bytes.{same_bytes}
use Rattle.block.proofs.Tests.{both_true}
use Rattle.block.proofs.SameBytes.{same_refl, same_true}
use Rattle.status.specs.declared.checked.Answer.{Answer}
use Rattle.status.specs.Answers.{answer}
use Rattle.promises.specs.Tables.{Line, None, Lines, Table}

-- ---- a test tells whether something holds

abbrev pub Tells : Bool → Type 0 → Type 0
Tells b P = (b ≡ true) ↔ P

pub tells_eq : (x y : ℕ) → Tells (eqb x y) (x ≡ y)
tells_eq x y = (eqb-true x y, eq-eqb x y)

pub tells_lt : (x y : ℕ) → Tells (ltb x y) (x < y)
tells_lt x y = (ltb-true x y, lt-ltb x y)

pub tells_le : (x y : ℕ) → Tells (leb x y) (x ≤ y)
tells_le x y = (leb-true x y, le-leb x y)

pub tells_same : (x y : List ℕ) → Tells (same_bytes x y) (x ≡ y)
tells_same x y = (same_true x y, λ e. rw e (same_refl y))

pub tells_not : {b : Bool} {P : Type 0} → Tells b P → Tells (not b) (P → ⊥)
tells_not {b} {P} t = both b t
  where
    both : (b : Bool) → Tells b P → Tells (not b) (P → ⊥)
    both true t = (λ e. absurd (true≢false (sym e)), λ n. absurd (n (t.0 refl)))
    both false t = (λ e p. true≢false (sym (t.1 p)), λ n. refl)

pub tells_or : {a b : Bool} {P Q : Type 0} → Tells a P → Tells b Q → Tells (a || b) (P ⊎ Q)
tells_or {a} {b} {P} {Q} s t = both a s
  where
    right : P ⊎ Q → (P → b ≡ true) → b ≡ true
    right (inl p) f = f p
    right (inr q) f = t.1 q

    both : (a : Bool) → Tells a P → Tells (a || b) (P ⊎ Q)
    both true s = (λ e. inl (s.0 refl), λ o. refl)
    both false s = (λ e. inr (t.0 e), λ o. right o (λ p. absurd (true≢false (sym (s.1 p)))))

pub tells_and : {a b : Bool} {P Q : Type 0} → Tells a P → Tells b Q → Tells (a && b) (P × Q)
tells_and {a} {b} {P} {Q} s t = both a s
  where
    both : (a : Bool) → Tells a P → Tells (a && b) (P × Q)
    both true s = (λ e. (s.0 refl, t.0 e), λ o. t.1 o.1)
    both false s = (λ e. absurd (true≢false (sym e)), λ o. absurd (true≢false (sym (s.1 o.0))))

pub tells_as : {b : Bool} {P Q : Type 0} → Tells b P → P ↔ Q → Tells b Q
tells_as t e = (λ h. e.0 (t.0 h), λ q. t.1 (e.1 q))

-- what a test tells of itself
pub tells_true : (b : Bool) → Tells b (b ≡ true)
tells_true b = (λ e. e, λ e. e)

-- what a test tells does hold where it cannot but hold
pub stable : {b : Bool} {P : Type 0} → Tells b P → ((P → ⊥) → ⊥) → P
stable {b} {P} t n = by b t
  where
    by : (b : Bool) → Tells b P → P
    by true t = t.0 refl
    by false t = absurd (n (λ p. true≢false (sym (t.1 p))))

-- a test whose word does not hold
pub not_told : {b : Bool} {P : Type 0} → Tells b P → (P → ⊥) → b ≡ false
not_told {b} {P} t n = by b t
  where
    by : (b : Bool) → Tells b P → b ≡ false
    by true t = absurd (n (t.0 refl))
    by false t = refl

-- no number below k passes, or there is a first that does
pub first_of_lem : (p : ℕ → Bool) (k : ℕ) → ((j : ℕ) → j < k → p j ≡ false) ⊎ ((i : ℕ) × (i < k) × ((j : ℕ) → j < i → p j ≡ false) × (p i ≡ true))
first_of_lem p zero = inl (λ j l. absurd (not-suc-le-zero l))
first_of_lem p (suc k) = ⊎_elim (λ q. here q (p k) refl) (λ w. inr (w.0, omega (arith, w.1), w.2, w.3)) (first_of_lem p k)
  where
    here : ((j : ℕ) → j < k → p j ≡ false) → (b : Bool) → p k ≡ b → ((j : ℕ) → j < suc k → p j ≡ false)
        ⊎ ((i : ℕ) × (i < suc k) × ((j : ℕ) → j < i → p j ≡ false) × (p i ≡ true))
    here q false e = inl (λ j l. ⊎_elim (λ s. ap p s ∙ e) (q j) (eq-or-lt_of_le (le_of_suc-le-suc l)))
    here q true e = inr (k, omega arith, q, e)

-- ---- the ladder

-- for each line a test, which tells whether the line applies where it is reached
abbrev pub Rungs : Type 0 → List Line → Type 0
Rungs reached [] = Unit
Rungs reached (l ∷ ls) = (b : Bool) × (reached → Tells b l.applies) × Rungs (reached × (l.applies → ⊥)) ls

-- the first number whose test holds; 0 where none does
abbrev pub ladder : (reached : Type 0) (ls : List Line) → Rungs reached ls → ℕ
ladder reached [] t = 0
ladder reached (l ∷ ls) t = cond t.0 l.number (ladder (reached × (l.applies → ⊥)) ls t.2)

-- the numbers of a table
abbrev pub numbers_of : List Line → List ℕ
numbers_of [] = []
numbers_of (l ∷ ls) = l.number ∷ numbers_of ls

-- a number is none of these, and not 0; no two are the same
abbrev pub fresh : ℕ → List ℕ → Bool
fresh k [] = not (eqb k 0)
fresh k (m ∷ ms) = not (eqb k m) && fresh k ms

abbrev pub distinct : List ℕ → Bool
distinct [] = true
distinct (m ∷ ms) = fresh m ms && distinct ms

-- what holds of every number of the table
abbrev pub Each : (ℕ → Type 0) → List Line → Type 0
Each P [] = Unit
Each P (l ∷ ls) = P l.number × Each P ls

pub each : (P : ℕ → Type 0) → ((k : ℕ) → P k) → (ls : List Line) → Each P ls
each P h [] = tt
each P h (l ∷ ls) = (h l.number, each P h ls)

-- ---- from the ladder to the table

pub ne_true : (x y : ℕ) → not (eqb x y) ≡ true → x ≡ y → ⊥
ne_true x y h = eqb-false x y (not-true (eqb x y) h)

-- a fresh number is not 0
pub fresh-some : (k : ℕ) (ms : List ℕ) → fresh k ms ≡ true → k ≡ 0 → ⊥
fresh-some k [] f e = ne_true k 0 f e
fresh-some k (m ∷ ms) f e = fresh-some k ms (both_true (not (eqb k m)) (fresh k ms) f).1 e

-- a ladder never gives a number that is fresh
pub not-given : (k : ℕ) (reached : Type 0) (ls : List Line) (t : Rungs reached ls) → fresh k (numbers_of ls) ≡ true → ladder reached ls t ≡ k → ⊥
not-given k reached [] t f e = ne_true k 0 f (sym e)
not-given k reached (l ∷ ls) t f e =
    let g = both_true (not (eqb k l.number)) (fresh k (numbers_of ls)) f in
    by t.0 e (ne_true k l.number g.0) (not-given k (reached × (l.applies → ⊥)) ls t.2 g.1)
  where
    by : (b : Bool) → cond b l.number (ladder (reached × (l.applies → ⊥)) ls t.2) ≡ k → (k ≡ l.number → ⊥)
        → (ladder (reached × (l.applies → ⊥)) ls t.2 ≡ k → ⊥) → ⊥
    by true e n r = n (sym e)
    by false e n r = r e

-- one line: its number is given exactly if its test holds
at_line : (b : Bool) (k r : ℕ) → (r ≡ k → ⊥) → (cond b k r ≡ k) ↔ (b ≡ true)
at_line true k r n = (λ e. refl, λ e. refl)
at_line false k r n = (λ e. absurd (n e), λ e. absurd (true≢false (sym e)))

-- another number is given exactly if its test does not hold, and the lines after it give that
past_line : (b : Bool) (k j r : ℕ) → (k ≡ j → ⊥) → (cond b k r ≡ j) ↔ ((b ≡ true → ⊥) × (r ≡ j))
past_line true k j r n = (λ e. absurd (n e), λ h. absurd (h.0 refl))
past_line false k j r n = (λ e. (λ t. true≢false (sym t), e), λ h. h.1)

module _ (Gives : ℕ → Type 0) where
  -- `Gives k` says, for every number k of the table, that the table is reached and its ladder gives k
  abbrev pub By : Type 0 → ℕ → ℕ → Type 0
  By reached n k = Gives k ↔ (reached × (n ≡ k))

  past : (reached P : Type 0) (b : Bool) (k r : ℕ) (ls : List Line) → (reached → Tells b P) → fresh k (numbers_of ls) ≡ true
      → Each (By reached (cond b k r)) ls → Each (By (reached × (P → ⊥)) r) ls
  past reached P b k r [] t f h = tt
  past reached P b k r (l ∷ ls) t f h =
      let g = both_true (not (eqb k l.number)) (fresh k (numbers_of ls)) f in
      let n = ne_true k l.number g.0 in (
        (
          λ x.
              let y = h.0.0 x in
              let z = (past_line b k l.number r n).0 y.1 in
              ((y.0, λ p. z.0 ((t y.0).1 p)), z.1),
          λ x. h.0.1 (x.0.0, (past_line b k l.number r n).1 (λ e. x.0.1 ((t x.0.0).0 e), x.1)),
        ),
        past reached P b k r ls t g.1 h.1,
      )

  pub lines : (reached : Type 0) (ls : List Line) (t : Rungs reached ls) → distinct (numbers_of ls) ≡ true → Each (By reached (ladder reached ls t)) ls
      → Lines Gives reached ls
  lines reached [] t d h = tt
  lines reached (l ∷ ls) t d h =
      let g = both_true (fresh l.number (numbers_of ls)) (distinct (numbers_of ls)) d in
      let r = ladder (reached × (l.applies → ⊥)) ls t.2 in
      let a = at_line t.0 l.number r (not-given l.number (reached × (l.applies → ⊥)) ls t.2 g.0) in (
        (
          λ x. let y = h.0.0 x in (y.0, (t.1 y.0).0 (a.0 y.1)),
          λ x. h.0.1 (x.0, a.1 ((t.1 x.0).1 x.1)),
        ),
        lines (reached × (l.applies → ⊥)) ls t.2 g.1 (past reached l.applies t.0 l.number r ls t.1 g.0 h.1),
      )

-- 0 exactly if none applies
pub nothing : (reached : Type 0) (ls : List Line) (t : Rungs reached ls) → distinct (numbers_of ls) ≡ true → reached → (ladder reached ls t ≡ 0) ↔ None ls
nothing reached [] t d x = (λ e. tt, λ n. refl)
nothing reached (l ∷ ls) t d x =
    let g = both_true (fresh l.number (numbers_of ls)) (distinct (numbers_of ls)) d in
    let after = reached × (l.applies → ⊥) in
    let p = past_line t.0 l.number 0 (ladder after ls t.2) (fresh-some l.number (numbers_of ls) g.0) in (
      λ e.
          let q = p.0 e in
          let n : l.applies → ⊥ = λ a. q.0 ((t.1 x).1 a) in
          (n, (nothing after ls t.2 g.1 (x, n)).0 q.1),
      λ n. p.1 (λ e. n.0 ((t.1 x).0 e), (nothing after ls t.2 g.1 (x, n.0)).1 n.1),
    )

-- a whole table, where `Gives k` says that the ladder gives k
table_as : (Gives : ℕ → Type 0) (ls : List Line) (t : Rungs Unit ls) → distinct (numbers_of ls) ≡ true → ((k : ℕ) → Gives k ↔ (ladder Unit ls t ≡ k))
    → Table Gives ls
table_as Gives ls t d g = record {
  lines = lines Gives Unit ls t d (each _ (λ k. (λ e. (tt, (g k).0 e), λ x. (g k).1 x.1)) ls);
  success = (λ e. (nothing Unit ls t d tt).0 ((g 0).0 e), λ h. (g 0).1 ((nothing Unit ls t d tt).1 h));
}

-- of a number that is the ladder's
pub table : (n : ℕ) (ls : List Line) (t : Rungs Unit ls) → distinct (numbers_of ls) ≡ true → n ≡ ladder Unit ls t → Table (λ k. n ≡ k) ls
table n ls t d q = table_as (λ k. n ≡ k) ls t d (λ k. (λ e. sym q ∙ e, λ e. q ∙ e))

-- of an answer whose number is, with a row
pub answers : (x : Answer) (i : ℕ) (ls : List Line) (t : Rungs Unit ls) → distinct (numbers_of ls) ≡ true → x ≡ answer (ladder Unit ls t) i
    → Table (λ k. x ≡ answer k i) ls
answers x i ls t d q = table_as (λ k. x ≡ answer k i) ls t d (λ k. (λ e. ap (λ (a : Answer). a.number) (sym q ∙ e), λ e. q ∙ ap (λ (m : ℕ). answer m i) e))
