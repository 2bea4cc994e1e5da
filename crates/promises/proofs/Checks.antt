-- The shift file's check: one of three things happened, and each number is of one of them alone.
use mathlib.Core.Path.{◌≡◌, refl, sym, ap, ◌∙◌, subst}
use mathlib.Core.Logic.{◌↔◌, ⊎_elim}
use mathlib.Core.Bool.{Bool, true, false, cond, not, ◌||◌}
use Prim.Native.Nat.{ℕ, ◌+◌, ◌-◌, ◌≤◌, ◌<◌}
use native.Mathlib.Omega.{arith}
use mathlib.Core.List.{List}
use lib.ListN.{length}
use lib.Dec.{eqb, ltb}
use borrow.Author.Tests.{eqb-true, eqb-false, ne_eqb, not-true, not-false}
use Rattle.block.specs.Blocks.{filled}
use Rattle.cipher.proofs.Suites.{tag_size_lem}
use Rattle.cipher.specs.Cipher.{limit}
use Rattle.shift_format.specs.declared.row.Row.{Row}
use Rattle.status.specs.declared.checked.Answer.{Answer}
use Rattle.shift_check.specs.Search.{any_below}
use Rattle.shift_format.specs.Format.{edition_of, count_of, total_of, row_size_of, row_start, row_of, nonce_at, nonce_read_at, body_end, data_job, unit_of}
use Rattle.status.specs.Answers.{answer}
use Rattle.shift_check.specs.Check.{not_above, bad_suite, bad_length, body_start, misplaced, unread_set, clash, nonce_seen, bad_data, body_number, row_number, end_answer}
use Rattle.shift_check.specs.Check.{rows_from, head_number, check_between}
use Rattle.shift_check.proofs.Searches.{any_some, any_hit, first-at, first-none}
use Rattle.shift_jobs.specs.Nonces.{SameNonce}
use Rattle.promises.specs.Tables.{None}
use Rattle.promises.specs.Numbers.{tag_size, head_table, row_table, end_table, SoundTo, CheckNumbers, Numbers}
use Rattle.promises.proofs.Tables.{Tells, tells_eq, tells_lt, tells_le, tells_same, tells_not, tells_or, tells_and, tells_as, first_of_lem, Rungs, ladder}
use Rattle.promises.proofs.Tables.{numbers_of, fresh, fresh-some, not-given, By, lines, nothing}
use Rattle.promises.proofs.Numbers.{tells_suite, seal-numbers, open_numbers, start-numbers, data_numbers, part-numbers, end-numbers}

-- ---- the tests

-- some number below n
tells_any : {p : ℕ → Bool} {P : ℕ → Type 0} → ((j : ℕ) → Tells (p j) (P j)) → (n : ℕ) → Tells (any_below p n) ((j : ℕ) × (j < n) × P j)
tells_any {p} {P} t n = (λ e. let r = any_some p n e in (r.0, r.1.0, (t r.0).0 r.1.1), λ h. any_hit p h.0 n h.1 ((t h.0).1 h.2))

tells_clash : (f : List ℕ) (i j : ℕ) → Tells (clash (row_size_of f) f i j) (SameNonce f i j)
unfolding clash
tells_clash f i j =
    tells_as (tells_and (tells_eq (row_of f i).suite (row_of f j).suite)
    (tells_and (tells_eq (row_of f i).key (row_of f j).key) (tells_same (nonce_read_at (row_size_of f) f i) (nonce_read_at (row_size_of f) f j))))
    (λ h. record { suite = h.0; key = h.1.0; nonce = h.1.1 }, λ h. (h.suite, (h.key, h.nonce)))

tells_above : (f : List ℕ) (i : ℕ) → Tells (not_above (row_size_of f) f i) ((0 < i) × ((row_of f i).job ≤ (row_of f (i - 1)).job))
unfolding not_above
tells_above f i =
    tells_and (tells_as (tells_not (tells_eq i 0)) (λ n. omega (arith, n), λ l e. omega (arith, l, e))) (tells_le (row_of f i).job (row_of f (i - 1)).job)

-- a body ends after its tag
tells_end : (f : List ℕ) (r : Row) → Tells (ltb (length f) (body_end r)) (length f < r.ad_at + r.ad_len + r.text_len + tag_size r.suite)
unfolding body_end
tells_end f r =
    let q = tag_size_lem r.suite in
    tells_as (tells_lt (length f) (body_end r)) (λ h. omega (arith, h, q), λ h. omega (arith, h, q))

pub head_rungs : (low high : ℕ) (f : List ℕ) → Rungs Unit (head_table low high f)
unfolding row_start
head_rungs low high f = (
  ltb (length f) 8 || ltb 1048576 (length f),
  λ _. tells_or (tells_lt _ _) (tells_lt _ _),
  (
    ltb (edition_of f) low || ltb high (edition_of f),
    λ _. tells_or (tells_lt _ _) (tells_lt _ _),
    (
      ltb 512 (count_of f),
      λ _. tells_lt _ _,
      (
        not (eqb (total_of f) (length f)),
        λ _. tells_not (tells_eq _ _),
        (
          ltb (length f) (row_start (row_size_of f) (count_of f)),
          λ _. tells_lt _ _,
          tt,
        ),
      ),
    ),
  ),
)

row_rungs : (reached : Type 0) (f : List ℕ) (i : ℕ) → Rungs reached (row_table f i)
unfolding not_above bad_suite bad_length misplaced unread_set nonce_seen bad_data
row_rungs reached f i =
    let r = row_of f i in (
      not_above (row_size_of f) f i,
      λ _. tells_above f i,
      (
        bad_suite r,
        λ _. tells_or (tells_suite r.suite) (tells_lt 15 r.key),
        (
          bad_length r,
          λ _. tells_or (tells_or (tells_lt r.ad_len 5) (tells_lt 1024 r.ad_len)) (tells_lt limit r.text_len),
          (
            misplaced (row_size_of f) f (count_of f) i,
            λ _. tells_or (tells_not (tells_eq r.ad_at (body_start (row_size_of f) f (count_of f) i))) (tells_end f r),
            (
              unread_set (row_size_of f) f i,
              λ _. tells_not (tells_same (nonce_at (row_size_of f) f i) (filled (nonce_read_at (row_size_of f) f i))),
              (
                nonce_seen (row_size_of f) f i,
                λ _. tells_any (tells_clash f i) i,
                (
                  bad_data f r,
                  λ _. tells_or (tells_not (tells_eq (data_job f r) r.job)) (tells_not (tells_or (tells_eq (unit_of f r) 1) (tells_eq (unit_of f r) 2))),
                  tt,
                ),
              ),
            ),
          ),
        ),
      ),
    )

end_rungs : (reached : Type 0) (f : List ℕ) → Rungs reached (end_table f)
end_rungs reached f = (not (eqb (body_start (row_size_of f) f (count_of f) (count_of f)) (length f)), λ _. tells_not (tells_eq _ _), tt)

-- ---- their ladders

pub head_is : (low high : ℕ) (f : List ℕ) → head_number low high f ≡ ladder Unit (head_table low high f) (head_rungs low high f)
unfolding head_rungs head_number
head_is low high f = refl

row_is : (reached : Type 0) (f : List ℕ) (i : ℕ) → row_number (row_size_of f) f (count_of f) i ≡ ladder reached (row_table f i) (row_rungs reached f i)
unfolding row_rungs row_number body_number
row_is reached f i = refl

end_is : (reached : Type 0) (f : List ℕ) → end_answer (row_size_of f) f (count_of f) ≡ answer (ladder reached (end_table f) (end_rungs reached f)) 0
unfolding end_rungs end_answer
end_is reached f = by (eqb (body_start (row_size_of f) f (count_of f) (count_of f)) (length f))
  where
    by : (b : Bool) → cond b (answer 0 0) (answer 31 0) ≡ answer (cond (not b) 31 0) 0
    by true = refl
    by false = refl

-- ---- what happened

module _ (low high : ℕ) (f : List ℕ) where
  abbrev said : Answer
  said = check_between low high f

  abbrev H : ℕ
  H = head_number low high f

  abbrev R : ℕ → ℕ
  R = row_number (row_size_of f) f (count_of f)

  abbrev E : ℕ
  E = ladder Unit (end_table f) (end_rungs Unit f)

  abbrev Quiet : ℕ → Type 0
  Quiet k = (j : ℕ) → j < k → R j ≡ 0

  head-stands : (H ≡ 0 → ⊥) → said ≡ answer H 0
  unfolding check_between
  head-stands n = simp (ne_eqb H 0 n)

  row_stands : H ≡ 0 → (i : ℕ) → i < count_of f → Quiet i → (R i ≡ 0 → ⊥) → said ≡ answer (R i) i
  unfolding check_between rows_from
  row_stands z i l q n =
      simp z (first-at (λ j. not (eqb (R j) 0)) (λ j. answer (R j) j) (end_answer (row_size_of f) f (count_of f)) (count_of f) i l (simp (ne_eqb (R i) 0 n))
      (λ j m. simp (q j m)))

  end-stands : H ≡ 0 → Quiet (count_of f) → said ≡ answer E 0
  unfolding check_between rows_from
  end-stands z q =
      simp z (first-none (λ j. not (eqb (R j) 0)) (λ j. answer (R j) j) (end_answer (row_size_of f) f (count_of f)) (count_of f) (λ j m. simp (q j m))
      ∙ end_is Unit f)

  by-case : (P : Type 0)
      → ((H ≡ 0 → ⊥) → said ≡ answer H 0 → P)
      → (H ≡ 0 → (i : ℕ) → i < count_of f → Quiet i → (R i ≡ 0 → ⊥) → said ≡ answer (R i) i → P)
      → (H ≡ 0 → Quiet (count_of f) → said ≡ answer E 0 → P)
      → P
  by-case P a b c = on (eqb H 0) refl
    where
      zero_of : (j : ℕ) → not (eqb (R j) 0) ≡ false → R j ≡ 0
      zero_of j q = eqb-true (R j) 0 (not-false _ q)

      on : (t : Bool) → eqb H 0 ≡ t → P
      on true e =
          let z = eqb-true H 0 e in
          ⊎_elim
          (λ q. let s : Quiet (count_of f) = λ j l. zero_of j (q j l) in c z s (end-stands z s))
          (λ w.
          let s : Quiet w.0 = λ j l. zero_of j (w.2 j l) in
          let n = eqb-false (R w.0) 0 (not-true _ w.3) in
          b z w.0 w.1 s n (row_stands z w.0 w.1 s n))
          (first_of_lem (λ j. not (eqb (R j) 0)) (count_of f))
      on false e = let n = eqb-false H 0 e in a n (head-stands n)

  -- ---- no fault, as the tables say it

  pub none-head : (H ≡ 0) ↔ None (head_table low high f)
  none-head =
      let n = nothing Unit (head_table low high f) (head_rungs low high f) refl tt in
      (λ z. n.0 (sym (head_is low high f) ∙ z), λ h. head_is low high f ∙ n.1 h)

  sound-to : (k : ℕ) → Quiet k ↔ SoundTo f k
  sound-to k = (λ q j l. (row j).0 (sym (row_is Unit f j) ∙ q j l), λ s j l. row_is Unit f j ∙ (row j).1 (s j l))
    where
      row : (j : ℕ) → (ladder Unit (row_table f j) (row_rungs Unit f j) ≡ 0) ↔ None (row_table f j)
      row j = nothing Unit (row_table f j) (row_rungs Unit f j) refl tt

  -- ---- a number is of one of the three alone

  abbrev num : Answer → ℕ
  num a = a.number

  module _ (k : ℕ) where
    not-head : fresh k (numbers_of (head_table low high f)) ≡ true → H ≡ k → ⊥
    not-head h e = not-given k Unit (head_table low high f) (head_rungs low high f) h (sym (head_is low high f) ∙ e)

    not-row : fresh k (numbers_of (row_table f 0)) ≡ true → (i : ℕ) → R i ≡ k → ⊥
    not-row h i e = not-given k Unit (row_table f i) (row_rungs Unit f i) h (sym (row_is Unit f i) ∙ e)

    not_end : fresh k (numbers_of (end_table f)) ≡ true → E ≡ k → ⊥
    not_end h e = not-given k Unit (end_table f) (end_rungs Unit f) h e

    of-head : fresh k (numbers_of (row_table f 0)) ≡ true → fresh k (numbers_of (end_table f)) ≡ true
        → By (λ j. said ≡ answer j 0) Unit (ladder Unit (head_table low high f) (head_rungs low high f)) k
    of-head r t = (
      λ e. (
        tt,
        by-case _
            (λ n s. sym (head_is low high f) ∙ ap num (sym s ∙ e))
            (λ z i l q n s. absurd (not-row r i (ap num (sym s ∙ e))))
            (λ z q s. absurd (not_end t (ap num (sym s ∙ e)))),
      ),
      λ y.
          let h : H ≡ k = head_is low high f ∙ y.1 in
          head-stands (λ z. fresh-some k (numbers_of (end_table f)) t (sym h ∙ z)) ∙ ap (λ (m : ℕ). answer m 0) h,
    )

    of_row : fresh k (numbers_of (head_table low high f)) ≡ true → fresh k (numbers_of (end_table f)) ≡ true → (i : ℕ) →
        let reached : Type 0 = None (head_table low high f) × ((i < count_of f) × SoundTo f i) in
        By (λ j. said ≡ answer j i) reached (ladder reached (row_table f i) (row_rungs reached f i)) k
    of_row h t i = (
      λ e.
          let w = by-case _
          (λ n s. absurd (not-head h (ap num (sym s ∙ e))))
          (λ z j l q n s.
          let p = sym s ∙ e in
          subst (λ (m : ℕ). (None (head_table low high f) × ((m < count_of f) × SoundTo f m)) × (R m ≡ k)) (ap (λ (a : Answer). a.row) p)
          ((none-head.0 z, (l, (sound-to j).0 q)), ap num p))
          (λ z q s. absurd (not_end t (ap num (sym s ∙ e)))) in
          (w.0, sym (row_is _ f i) ∙ w.1),
      λ y.
          let q : R i ≡ k = row_is _ f i ∙ y.1 in
          row_stands (none-head.1 y.0.0) i y.0.1.0 ((sound-to i).1 y.0.1.1) (λ z. fresh-some k (numbers_of (end_table f)) t (sym q ∙ z))
          ∙ ap (λ (m : ℕ). answer m i) q,
    )

    of_end : fresh k (numbers_of (head_table low high f)) ≡ true → fresh k (numbers_of (row_table f 0)) ≡ true →
        let reached : Type 0 = None (head_table low high f) × SoundTo f (count_of f) in
        By (λ j. said ≡ answer j 0) reached (ladder reached (end_table f) (end_rungs reached f)) k
    unfolding end_rungs
    of_end h r = (
      λ e. by-case _
          (λ n s. absurd (not-head h (ap num (sym s ∙ e))))
          (λ z i l q n s. absurd (not-row r i (ap num (sym s ∙ e))))
          (λ z q s. ((none-head.0 z, (sound-to (count_of f)).0 q), ap num (sym s ∙ e))),
      λ y. end-stands (none-head.1 y.0.0) ((sound-to (count_of f)).1 y.0.1) ∙ ap (λ (m : ℕ). answer m 0) y.1,
    )

pub check-numbers : CheckNumbers
check-numbers low high f =
    record {
      head = lines (λ k. check_between low high f ≡ answer k 0) Unit (head_table low high f) (head_rungs low high f) refl
          (given 20 refl refl, (given 21 refl refl, (given 22 refl refl, (given 23 refl refl, (given 24 refl refl, tt)))));
      rows = λ i. lines (λ k. check_between low high f ≡ answer k i) _ (row_table f i) (row_rungs _ f i) refl (
        in_row i 25 refl refl,
        (
          in_row i 26 refl refl,
          (in_row i 27 refl refl, (in_row i 28 refl refl, (in_row i 34 refl refl, (in_row i 29 refl refl, (in_row i 30 refl refl, tt))))),
        ),
      );
      end = lines (λ k. check_between low high f ≡ answer k 0) _ (end_table f) (end_rungs _ f) refl (of_end low high f 31 refl refl, tt);
      success = (
        λ e. by-case low high f _
            (λ n s. absurd (n (ap (λ (a : Answer). a.number) (sym s ∙ e))))
            (λ z i l q n s. absurd (n (ap (λ (a : Answer). a.number) (sym s ∙ e))))
            (λ z q s. (((none-head low high f).0 z, (sound-to low high f (count_of f)).0 q), none_end.0 (ap (λ (a : Answer). a.number) (sym s ∙ e)))),
        λ h. end-stands low high f ((none-head low high f).1 h.0.0) ((sound-to low high f (count_of f)).1 h.0.1)
            ∙ ap (λ (m : ℕ). answer m 0) (none_end.1 h.1),
      );
    }
  where
    given : (k : ℕ) → fresh k (numbers_of (row_table f 0)) ≡ true → fresh k (numbers_of (end_table f)) ≡ true
        → By (λ j. check_between low high f ≡ answer j 0) Unit (ladder Unit (head_table low high f) (head_rungs low high f)) k
    given = of-head low high f

    in_row : (i k : ℕ) → fresh k (numbers_of (head_table low high f)) ≡ true → fresh k (numbers_of (end_table f)) ≡ true →
        let reached : Type 0 = None (head_table low high f) × ((i < count_of f) × SoundTo f i) in
        By (λ j. check_between low high f ≡ answer j i) reached (ladder reached (row_table f i) (row_rungs reached f i)) k
    in_row i k h t = of_row low high f k h t i

    none_end : (ladder Unit (end_table f) (end_rungs Unit f) ≡ 0) ↔ None (end_table f)
    none_end = nothing Unit (end_table f) (end_rungs Unit f) refl tt

-- ---- all tables

pub numbers-given : Numbers
numbers-given = record {
  seal = seal-numbers;
  unseal = open_numbers;
  start = start-numbers;
  associated = data_numbers;
  message = part-numbers;
  finish = end-numbers;
  check = check-numbers;
}
