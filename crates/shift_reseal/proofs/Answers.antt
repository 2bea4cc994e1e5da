-- The status of the reseal pass: which numbers there are, and when each is given. The first row that breaks a rule is found
-- by the law `first-not` of `shift_draft`, for 29 (nonce seen before) and 8 (wrong tag of a suite 4 row). Then one status after
-- another, by the ladder of the definition.
use Prim.Native.Nat.{ℕ, ◌<◌}
use native.Mathlib.Omega.{arith}
use mathlib.Core.Path.{◌≡◌, refl, sym, ap, ◌∙◌}
use mathlib.Core.Bool.{Bool, true, false, not, ◌&&◌, true≢false}
use mathlib.Core.List.{List}
use mathlib.Core.Logic.{◌⊎◌, inl, inr, ⊎_elim}
use lib.ListN.{length}
use lib.Dec.{eqb, lit<}
use borrow.Author.Tests.{eq-eqb, ne_eqb, eqb-true, eqb-false, not-false}
use Rattle.block.proofs.Tests.{is_false}
use Rattle.cipher.specs.Cipher.{retired_suite}
use Rattle.status.specs.declared.checked.Answer.{Answer}
use Rattle.shift_format.specs.Format.{count_of, first_edition, row_size_of, row_of}
use Rattle.status.specs.Answers.{answer}
use Rattle.shift_check.specs.Check.{nonce_seen, and_then, check_as}
use Rattle.shift_check.proofs.Passed.{both_zero}
use Rattle.shift_draft.specs.Answers.{tag_right, lent_answer, writes, leaves}
use Rattle.shift_draft.specs.Promised.{RightTag}
use Rattle.shift_draft.proofs.Answers.{right-test, right-told, FirstNot, first-not, eight-leaves, Room, room-told, room_right, ring-wrong, out-wrong}
use Rattle.shift_draft.proofs.Answers.{lent-number, not_eight, kept}
use Rattle.shift_reseal.specs.Files.{retabled, resealed_file}
use Rattle.shift_reseal.specs.Answers.{seen_from, wrong_again, wrong_again_from, take_answer, reseal_answer, file_resealing}
use Rattle.shift_reseal.specs.Promised.{HasFour, Calm, ResealCases, Resealing, ResealNumbers}

abbrev number : Answer → ℕ
number x = x.number

-- ---- 29, on any table

module _ (f : List ℕ) (n : ℕ) where
  pub seen-rows : FirstNot (λ i. nonce_seen (row_size_of f) f i ≡ true → ⊥) 29 n (seen_from f n 0)
  unfolding seen_from
  seen-rows =
      first-not (λ i. nonce_seen (row_size_of f) f i ≡ true → ⊥) (nonce_seen (row_size_of f) f) 29 n (lit< tt)
      (λ i q e. true≢false (sym e ∙ q)) (λ i. is_false _)

-- ---- 8, of the suite 4 rows

module _ (f ring : List ℕ) where
  again-right : (i : ℕ) → (HasFour f i → RightTag f ring i) → wrong_again f ring i ≡ false
  unfolding wrong_again
  again-right i h = suite-case (eqb (row_of f i).suite retired_suite) refl
    where
      suite-case : (b : Bool) → eqb (row_of f i).suite retired_suite ≡ b → (b && not (tag_right f ring i)) ≡ false
      suite-case true e = ap not (right-test f i ring (h (eqb-true _ _ e)))
      suite-case false e = refl

  again-told : (i : ℕ) → wrong_again f ring i ≡ false → HasFour f i → RightTag f ring i
  unfolding wrong_again
  again-told i e q =
      let h : not (tag_right f ring i) ≡ false = simp (eq-eqb _ _ q) at e in
      right-told f i ring (not-false _ h)

  pub again-rows : FirstNot (λ i. HasFour f i → RightTag f ring i) 8 (count_of f) (wrong_again_from f ring (count_of f) 0)
  unfolding wrong_again_from
  again-rows = first-not (λ i. HasFour f i → RightTag f ring i) (wrong_again f ring) 8 (count_of f) (lit< tt) again-told again-right

  pub again-leaves : (done a b : List ℕ) → length a ≡ length b → leaves (wrong_again_from f ring (count_of f) 0) done a
      ≡ leaves (wrong_again_from f ring (count_of f) 0) done b
  again-leaves = eight-leaves (wrong_again_from f ring (count_of f) 0) again-rows.number

-- ---- one answer after another

module _ (file : List ℕ) (ring out : ℕ) where
  abbrev seen : Answer
  seen = seen_from (retabled file) (count_of file) 0

  take-checked : ((check_as first_edition file).number ≡ 0 → ⊥) → take_answer file ring out ≡ check_as first_edition file
  unfolding take_answer
  take-checked n = simp (ne_eqb _ _ n)

  module _ (z : (check_as first_edition file).number ≡ 0) where
    pub take-seen : (x : Answer) → x ≡ seen → (x.number ≡ 0 → ⊥) → x ≡ take_answer file ring out
    unfolding take_answer
    take-seen x q n = simp (eq-eqb _ _ z, ← q, ne_eqb _ _ n)

    pub take-lent : seen ≡ answer 0 0 → lent_answer (length file) ring out ≡ take_answer file ring out
    unfolding take_answer
    take-lent q = simp (eq-eqb _ _ z, q)

  abbrev TakeNumbers : Type 0
  TakeNumbers =
      let x : Answer = take_answer file ring out in
      (x ≡ answer 0 0) ⊎ (x.number ≡ 2) ⊎ (x.number ≡ 6) ⊎ (x.number ≡ 29) ⊎ (x ≡ check_as first_edition file)

  take-numbers : TakeNumbers
  take-numbers = check-case (eqb (check_as first_edition file).number 0) refl
    where
      lent-case : (check_as first_edition file).number ≡ 0 → seen ≡ answer 0 0 → TakeNumbers
      lent-case z q =
          let e = sym (take-lent z q) in
          ⊎_elim
          (λ h. inl (e ∙ h))
          (⊎_elim (λ h. inr (inl (ap number (e ∙ h)))) (λ h. inr (inr (inl (ap number (e ∙ h))))))
          (lent-number (length file) ring out)

      check-case : (b : Bool) → eqb (check_as first_edition file).number 0 ≡ b → TakeNumbers
      check-case false e = inr (inr (inr (inr (take-checked (eqb-false _ _ e)))))
      check-case true e =
          let z = eqb-true _ _ e in
          ⊎_elim
          (lent-case z)
          (λ q. inr (inr (inr (inl (ap number (sym (take-seen z _ refl (λ h. omega arith))) ∙ q)))))
          (seen-rows (retabled file) (count_of file)).number

  pub take-not-eight : (take_answer file ring out).number ≡ 8 → ⊥
  take-not-eight q =
      ⊎_elim (λ h. let z : 0 ≡ 8 = sym (ap number h) ∙ q in omega arith)
      (⊎_elim (λ h. omega arith)
      (⊎_elim (λ h. omega arith)
      (⊎_elim (λ h. omega arith)
      (λ h. not_eight first_edition file (sym (ap number h) ∙ q))))) take-numbers

  -- what 0 says
  pub record Takeable : Type 0 where
    pub calm : Calm file
    pub room : Room (length file) ring out

  pub takeable : (take_answer file ring out).number ≡ 0 → Takeable
  unfolding take_answer
  takeable z =
      let a = both_zero (check_as first_edition file) (and_then seen (lent_answer (length file) ring out)) z in
      let b = both_zero seen (lent_answer (length file) ring out) (rw a.1 at z) in
      record {
        calm = record { checked = a.0; calm = (seen-rows (retabled file) (count_of file)).all b.0 };
        room = room-told (length file) ring out (rw b.1 at (rw a.1 at z));
      }

  take-calm : Calm file → lent_answer (length file) ring out ≡ take_answer file ring out
  take-calm c = take-lent c.checked ((seen-rows (retabled file) (count_of file)).none c.calm)

  pub take-right : Calm file → ring ≡ 256 → out ≡ length file → take_answer file ring out ≡ answer 0 0
  take-right c r o = sym (take-calm c) ∙ room_right (length file) ring out r o

-- ---- the calls

module _ (file ring out₀ : List ℕ) where
  abbrev taken : Answer
  taken = take_answer file (length ring) (length out₀)

  abbrev wrong : Answer
  wrong = wrong_again_from file ring (count_of file) 0

  abbrev result : Answer
  result = reseal_answer file ring (length out₀)

  result-taken : (taken.number ≡ 0 → ⊥) → result ≡ taken
  unfolding reseal_answer
  result-taken n = simp (ne_eqb _ _ n)

  result-wrong : taken.number ≡ 0 → result ≡ wrong
  unfolding reseal_answer
  result-wrong z = simp (eq-eqb _ _ z)

  resealing-is : (x : Answer) → result ≡ x → file_resealing file ring out₀ ≡ leaves x (resealed_file file ring) out₀
  unfolding file_resealing
  resealing-is x q = ap (λ (y : Answer). leaves y (resealed_file file ring) out₀) q

  -- a refusal before 8
  pub resealing-kept : (x : Answer) → x ≡ taken → (x.number ≡ 0 → ⊥) → file_resealing file ring out₀ ≡ writes x out₀
  resealing-kept x q n =
      resealing-is x (result-taken (λ z. n (ap number q ∙ z)) ∙ sym q)
      ∙ kept x (resealed_file file ring) out₀ n (λ e. take-not-eight file (length ring) (length out₀) (ap number (sym q) ∙ e))

  -- then 8 or 0
  pub resealing-tags : taken.number ≡ 0 → file_resealing file ring out₀ ≡ leaves wrong (resealed_file file ring) out₀
  resealing-tags z = resealing-is _ (result-wrong z)

  cases : ResealCases file ring out₀
  cases = record {
    checked = λ n. resealing-kept _ (sym (take-checked file (length ring) (length out₀) n)) n;
    clash = λ z i l h b.
        let q = (seen-rows (retabled file) (count_of file)).first i l (λ k. k h) b in
        resealing-kept (answer 29 i) (take-seen file (length ring) (length out₀) z (answer 29 i) (sym q) (λ e. omega arith)) (λ e. omega arith);
    ring-wrong =
        λ c n. resealing-kept (answer 2 0) (sym (ring-wrong (length file) (length ring) (length out₀) n) ∙ take-calm file (length ring) (length out₀) c)
        (λ e. omega arith);
    room-wrong =
        λ c r n. resealing-kept (answer 6 0) (sym (out-wrong (length file) (length ring) (length out₀) r n) ∙ take-calm file (length ring) (length out₀) c)
        (λ e. omega arith);
    tags = λ c r o i l h n b. tags-are c r o (answer 8 i) ((again-rows file ring).first i l (λ k. n (k h)) b);
    done = λ c r o h. tags-are c r o (answer 0 0) ((again-rows file ring).none h);
  }
    where
      tags-are : Calm file → length ring ≡ 256 → length out₀ ≡ length file → (x : Answer) → wrong ≡ x
          → file_resealing file ring out₀ ≡ leaves x (resealed_file file ring) out₀
      tags-are c r o x q =
          resealing-tags (ap number (take-right file (length ring) (length out₀) c r o))
          ∙ ap (λ (y : Answer). leaves y (resealed_file file ring) out₀) q

  -- what 0 says, and what it leaves
  pub record Went : Type 0 where
    pub calm : Calm file
    pub room : Room (length file) (length ring) (length out₀)
    pub right : (i : ℕ) → i < count_of file → HasFour file i → RightTag file ring i
    pub leaves-it : file_resealing file ring out₀ ≡ writes (answer 0 0) (resealed_file file ring)

  pub went : (file_resealing file ring out₀).answer.number ≡ 0 → Went
  unfolding file_resealing reseal_answer
  went z =
      let b = both_zero taken wrong z in
      let t = takeable file (length ring) (length out₀) b.0 in
      let r = (again-rows file ring).all (rw b.1 at z) in
      record { calm = t.calm; room = t.room; right = r; leaves-it = cases.done t.calm t.room.ring_long t.room.out-long r }

pub resealing : Resealing
resealing = cases

pub reseal-numbers : ResealNumbers
unfolding file_resealing
reseal-numbers file ring out₀ = number-case (eqb (taken file ring out₀).number 0) refl
  where
    number-case : (b : Bool) → eqb (taken file ring out₀).number 0 ≡ b
        → let x : Answer = reseal_answer file ring (length out₀) in (x.number ≡ 0) ⊎ (x.number ≡ 2) ⊎ (x.number ≡ 6) ⊎ (x.number ≡ 8) ⊎ (x.number ≡ 29)
        ⊎ (x ≡ check_as first_edition file)
    number-case true e =
        let q = result-wrong file ring out₀ (eqb-true _ _ e) in
        ⊎_elim
        (λ h. inl (ap number (q ∙ h)))
        (λ h. inr (inr (inr (inl (ap number q ∙ h)))))
        (again-rows file ring).number
    number-case false e =
        let n = eqb-false _ _ e in
        let q = result-taken file ring out₀ n in
        let m = ap number q in
        ⊎_elim (λ h. absurd (n (ap number h)))
        (⊎_elim (λ h. inr (inl (m ∙ h)))
        (⊎_elim (λ h. inr (inr (inl (m ∙ h))))
        (⊎_elim (λ h. inr (inr (inr (inr (inl (m ∙ h))))))
        (λ h. inr (inr (inr (inr (inr (q ∙ h))))))))) (take-numbers file (length ring) (length out₀))
