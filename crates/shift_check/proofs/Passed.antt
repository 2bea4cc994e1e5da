-- The walk over the rows, as the loop goes through it; and what a file that passes the full check says of its rows and its end.
use Prim.Native.Nat.{ℕ, ◌+◌, ◌-◌, ◌≤◌, ◌<◌}
use native.Mathlib.Omega.{arith}
use mathlib.Core.Path.{◌≡◌, refl, sym, ap, ◌∙◌}
use mathlib.Core.Bool.{Bool, true, false, not, cond}
use mathlib.Core.List.{List}
use mathlib.Core.Logic.{⊎_elim}
use lib.ListN.{length}
use lib.Dec.{eqb}
use borrow.Author.Tests.{eqb-true, eqb-false, not-true, not-false, ne_eqb}
use Rattle.std.specs.Prelude.{Result, Ok, Err}
use Rattle.status.specs.declared.checked.Answer.{Answer}
use Rattle.status.specs.declared.checked.Fault.{Fault}
use Rattle.status.specs.declared.checked.Refusal.{Refusal}
use Rattle.shift_format.specs.Format.{edition_of, count_of, row_size_of}
use Rattle.status.specs.Answers.{answer, fault_number, refusal_answer, checked_answer}
use Rattle.shift_format.specs.Inside.{EntryIn}
use Rattle.shift_check.specs.Check.{body_start, row_number, end_answer, rows_from, head_number, and_then, check_between}
use Rattle.shift_check.proofs.Searches.{first-hit, first-skip, first-end, first_says}
use Rattle.status.proofs.Numbers.{fault_some, refusal-some}
use Rattle.shift_format.proofs.Rows.{row_in}
use Rattle.shift_check.proofs.Sound.{Headed, headed, Sound, sound}

abbrev number_of : Answer → ℕ
number_of x = x.number

-- ---- the walk

module _ (w : ℕ) (f : List ℕ) (n i : ℕ) where
  pub rows-bad : (x : Fault) → i < n → fault_number x ≡ row_number w f n i → answer (fault_number x) i ≡ rows_from w f n i
  unfolding rows_from
  rows-bad x h q =
      let hit : not (eqb (row_number w f n i) 0) ≡ true = simp (← q, ne_eqb _ _ (fault_some x)) in
      rw q (sym (first-hit _ _ _ n i h hit))

  pub rows-sound : i < n → 0 ≡ row_number w f n i → rows_from w f n i ≡ rows_from w f n (i + 1)
  unfolding rows_from
  rows-sound h q =
      let skip : not (eqb (row_number w f n i) 0) ≡ false = simp (← q) in
      first-skip _ _ _ n i h skip

  pub rows_end : n ≤ i → rows_from w f n i ≡ end_answer w f n
  unfolding rows_from
  rows_end h = first-end _ _ _ n i h

-- ---- a file that passes

-- the check before passed: its number is 0
pub passed_zero : (x : Result Unit Refusal) (a : Answer) {u : Unit} → x ≡ Ok u → checked_answer x ≡ a → a.number ≡ 0
passed_zero x a told q = ap number_of (sym q ∙ ap checked_answer told)

-- it refused: that stands
pub refused_stands : (x : Result Unit Refusal) (y : Refusal) (a next : Answer) → x ≡ Err y → checked_answer x ≡ a → and_then a next ≡ refusal_answer y
refused_stands x y a next told q =
    let p : a ≡ refusal_answer y = sym q ∙ ap checked_answer told in
    simp (p, ne_eqb _ _ (refusal-some y))

-- two answers one after the other give 0: so does each
pub both_zero : (x next : Answer) → (and_then x next).number ≡ 0 → (x.number ≡ 0) × (and_then x next ≡ next)
both_zero x next z = both_case (eqb x.number 0) refl z
  where
    both_case : (b : Bool) → eqb x.number 0 ≡ b → (cond b next x).number ≡ 0 → (x.number ≡ 0) × (cond b next x ≡ next)
    both_case true e h = (eqb-true _ _ e, refl)
    both_case false e h = absurd (eqb-false _ _ e h)

end-says : (w : ℕ) (f : List ℕ) (n : ℕ) → (end_answer w f n).number ≡ 0 → body_start w f n n ≡ length f
unfolding end_answer
end-says w f n z = end-case (eqb (body_start w f n n) (length f)) refl z
  where
    end-case : (b : Bool) → eqb (body_start w f n n) (length f) ≡ b → (cond b (answer 0 0) (answer 31 0)).number ≡ 0 → body_start w f n n ≡ length f
    end-case true q h = eqb-true _ _ q
    end-case false q h = absurd (omega arith)

pub record Walked (w : ℕ) (f : List ℕ) (n : ℕ) : Type 0 where
  pub zeros : (i : ℕ) → i < n → row_number w f n i ≡ 0
  pub rows : (i : ℕ) → i < n → Sound w f n i
  pub ends : body_start w f n n ≡ length f

walked : (w : ℕ) (f : List ℕ) (n : ℕ) → (rows_from w f n 0).number ≡ 0 → Walked w f n
unfolding rows_from
walked w f n z =
    ⊎_elim
    (λ h. absurd (eqb-false _ _ (not-true _ h.hits) (ap number_of h.gives ∙ z)))
    (λ h.
    let s : (i : ℕ) → i < n → row_number w f n i ≡ 0 = λ i l. eqb-true _ _ (not-false _ (h.none i (omega arith) (omega arith))) in
    record {
      zeros = s;
      rows = λ i l. sound w f n i (s i l);
      ends = end-says w f n (ap number_of h.gives ∙ z);
    })
    (first_says _ _ _ (n - 0) 0 (rows_from w f n 0) refl)

-- as one of the editions from low to high
pub record Passes (low high : ℕ) (f : List ℕ) : Type 0 where
  pub zero : head_number low high f ≡ 0
  pub head : Headed low high f
  pub walk : Walked (row_size_of f) f (count_of f)

pub passes : (low high : ℕ) (f : List ℕ) → (check_between low high f).number ≡ 0 → Passes low high f
unfolding check_between
passes low high f z =
    let b = both_zero (answer (head_number low high f) 0) (rows_from (row_size_of f) f (count_of f) 0) z in
    record { zero = b.0; head = headed low high f b.0; walk = walked (row_size_of f) f (count_of f) (rw b.1 at z) }

-- of one edition alone, it has that
pub own_edition : (e : ℕ) (f : List ℕ) → Passes e e f → edition_of f ≡ e
own_edition e f p = omega (arith, p.head.from, p.head.to)

-- each row of such a file can be read and opened
pub entry_in : (low high : ℕ) (f : List ℕ) → Passes low high f → (i : ℕ) → i < count_of f → EntryIn (row_size_of f) f i
entry_in low high f h i l =
    let s = h.walk.rows i l in
    record {
      row_in = row_in (row_size_of f) f (count_of f) i h.head.table l;
      suite-is = s.suit.suite-is;
      key-high = s.suit.key-high;
      data-high = s.size.ad-high;
      text-high = s.size.len-high;
      body-in = s.place.ends;
    }
