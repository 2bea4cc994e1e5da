-- The status of sealing and of unsealing: which numbers there are, and when each is given. A search for the first row that
-- breaks a rule is one law, `first-not`; it serves 33 (tag not zero), 10 (suite retired) and 8 (tag wrong). Then one status
-- after another, by the ladder of the definition.
use Prim.Native.Nat.{ℕ, ◌-◌, ◌<◌}
use native.Mathlib.Omega.{arith}
use mathlib.Core.Path.{◌≡◌, refl, sym, ap, ◌∙◌}
use mathlib.Core.Bool.{Bool, true, false, not, cond}
use mathlib.Core.List.{List}
use mathlib.Core.Logic.{◌⊎◌, inl, inr, ⊎_elim}
use lib.ListN.{length, replicate}
use lib.Dec.{eqb, lit<}
use borrow.Author.Tests.{eq-eqb, ne_eqb, eqb-true, eqb-false, not-true, not-false}
use Rattle.block.specs.Bytes.{same_bytes}
use Rattle.block.proofs.Tests.{is_false}
use Rattle.block.proofs.SameBytes.{same_true, same_refl}
use Rattle.cipher.specs.Cipher.{Seals, size_of}
use Rattle.status.specs.declared.checked.Answer.{Answer}
use Rattle.shift_check.specs.Search.{first_of}
use Rattle.shift_format.specs.Format.{count_of, first_edition, row_of, tag_of}
use Rattle.status.specs.Answers.{answer}
use Rattle.shift_check.specs.Check.{and_then, check_as}
use Rattle.shift_check.proofs.Searches.{first_says, first-none, first-at}
use Rattle.shift_check.proofs.Passed.{both_zero}
use Rattle.shift_check.proofs.Numbered.{check_numbered}
use Rattle.shift_draft.specs.Files.{draft_edition, sealed_file, draft_file}
use Rattle.shift_draft.specs.Answers.{tag_set, row_retired, tag_right, set_from, retired_from, wrong_from, lent_answer, seal_answer, open_answer, unseal_answer}
use Rattle.shift_draft.specs.Answers.{writes, leaves, file_sealing, file_unsealing}
use Rattle.shift_draft.specs.Promised.{ZeroTag, RightTag, Valid, AllSeal, SealCases, UnsealCases, Sealing, Unsealing, SealNumbers, UnsealNumbers}

-- ---- a tag's two tests

module _ (f : List ℕ) (i : ℕ) where
  pub zero-told : tag_set f i ≡ false → ZeroTag f i
  unfolding tag_set
  zero-told e = same_true _ _ (not-false _ e)

  pub zero_test : ZeroTag f i → tag_set f i ≡ false
  unfolding tag_set
  zero_test q =
      let z : List ℕ = replicate (size_of (row_of f i).suite) 0 in
      ap (λ (t : List ℕ). not (same_bytes t z)) q ∙ ap not (same_refl z)

  module _ (ring : List ℕ) where
    pub right-told : tag_right f ring i ≡ true → RightTag f ring i
    unfolding tag_right
    right-told e = same_true _ _ e

    pub right-test : RightTag f ring i → tag_right f ring i ≡ true
    unfolding tag_right
    right-test q = ap (λ (t : List ℕ). same_bytes t (tag_of f (row_of f i))) q ∙ same_refl (tag_of f (row_of f i))

-- ---- the first of n rows that breaks a rule gives number m; 0 where every row keeps it

pub record FirstNot (Keeps : ℕ → Type 0) (m n : ℕ) (x : Answer) : Type 0 where
  pub none : ((i : ℕ) → i < n → Keeps i) → x ≡ answer 0 0
  pub first : (i : ℕ) → i < n → (Keeps i → ⊥) → ((k : ℕ) → k < i → Keeps k) → x ≡ answer m i
  pub all : x.number ≡ 0 → (i : ℕ) → i < n → Keeps i
  pub number : (x ≡ answer 0 0) ⊎ (x.number ≡ m)

-- by a test that is false exactly for the rows that keep the rule
module _ (Keeps : ℕ → Type 0) (hit : ℕ → Bool) (m n : ℕ) (some : 0 < m) (told : (i : ℕ) → hit i ≡ false → Keeps i)
    (test : (i : ℕ) → Keeps i → hit i ≡ false) where
  abbrev found : Answer
  found = first_of hit (answer m) (answer 0 0) 0 (n - 0)

  breaks : (i : ℕ) → (Keeps i → ⊥) → hit i ≡ true
  breaks i f = not-false (hit i) (is_false (not (hit i)) (λ e. f (told i (not-true (hit i) e))))

  pub first-not : FirstNot Keeps m n found
  first-not =
      let says = first_says hit (answer m) (answer 0 0) (n - 0) 0 found refl in
      record {
        none = λ h. first-none hit (answer m) (answer 0 0) n (λ i l. test i (h i l));
        first = λ i l f h. first-at hit (answer m) (answer 0 0) n i l (breaks i f) (λ k b. test k (h k b));
        all = λ z i l.
            ⊎_elim
            (λ q. absurd (let w : m ≡ 0 = ap (λ (x : Answer). x.number) q.gives ∙ z in omega arith))
            (λ q. told i (q.none i (omega arith) (omega arith)))
            says;
        number =
            ⊎_elim
            (λ q. inr (sym (ap (λ (x : Answer). x.number) q.gives)))
            (λ q. inl (sym q.gives))
            says;
      }

-- what 0 and 8 leave depends on the output's length alone
pub eight-leaves : (x : Answer) → (x ≡ answer 0 0) ⊎ (x.number ≡ 8) → (done a b : List ℕ) → length a ≡ length b → leaves x done a ≡ leaves x done b
eight-leaves x n done a b q =
    ⊎_elim
    (λ h. ap (λ (y : Answer). leaves y done a) h ∙ sym (ap (λ (y : Answer). leaves y done b) h))
    (λ (h : x.number ≡ 8). simp (eq-eqb x.number 8 h) (ap (λ (k : ℕ). writes x (cond (eqb x.number 0) done (replicate k 0))) q))
    n

module _ (f : List ℕ) where
  set-rows : FirstNot (ZeroTag f) 33 (count_of f) (set_from f (count_of f) 0)
  unfolding set_from
  set-rows = first-not (ZeroTag f) (tag_set f) 33 (count_of f) (lit< tt) (zero-told f) (zero_test f)

  retired-rows : FirstNot (λ i. Seals (row_of f i).suite) 10 (count_of f) (retired_from f (count_of f) 0)
  unfolding retired_from row_retired
  retired-rows = first-not (λ i. Seals (row_of f i).suite) (row_retired f) 10 (count_of f) (lit< tt) (λ i. not-false _) (λ i a. ap not a)

  module _ (ring : List ℕ) where
    wrong-rows : FirstNot (RightTag f ring) 8 (count_of f) (wrong_from f ring (count_of f) 0)
    unfolding wrong_from
    wrong-rows =
        first-not (RightTag f ring) (λ j. not (tag_right f ring j)) 8 (count_of f) (lit< tt)
        (λ i e. right-told f i ring (not-false _ e)) (λ i q. ap not (right-test f i ring q))

    pub wrong-leaves : (done a b : List ℕ) → length a ≡ length b → leaves (wrong_from f ring (count_of f) 0) done a
        ≡ leaves (wrong_from f ring (count_of f) 0) done b
    wrong-leaves = eight-leaves (wrong_from f ring (count_of f) 0) wrong-rows.number

-- ---- the lengths of ring and output

pub record Room (file ring out : ℕ) : Type 0 where
  pub ring_long : ring ≡ 256
  pub out-long : out ≡ file

module _ (file ring out : ℕ) where
  pub room-told : (lent_answer file ring out).number ≡ 0 → Room file ring out
  unfolding lent_answer
  room-told z = ring-case (eqb ring 256) refl z
    where
      out-case : (b : Bool) → eqb out file ≡ b → (cond (not b) (answer 6 0) (answer 0 0)).number ≡ 0 → out ≡ file
      out-case true e h = eqb-true _ _ e
      out-case false e h = absurd (omega arith)

      ring-case : (b : Bool) → eqb ring 256 ≡ b → (cond (not b) (answer 2 0) (cond (not (eqb out file)) (answer 6 0) (answer 0 0))).number ≡ 0
          → Room file ring out
      ring-case true e h = record { ring_long = eqb-true _ _ e; out-long = out-case (eqb out file) refl h }
      ring-case false e h = absurd (omega arith)

  pub room_right : ring ≡ 256 → out ≡ file → lent_answer file ring out ≡ answer 0 0
  unfolding lent_answer
  room_right a b = simp (eq-eqb _ _ a, eq-eqb _ _ b)

  pub ring-wrong : (ring ≡ 256 → ⊥) → lent_answer file ring out ≡ answer 2 0
  unfolding lent_answer
  ring-wrong a = simp (ne_eqb _ _ a)

  pub out-wrong : ring ≡ 256 → (out ≡ file → ⊥) → lent_answer file ring out ≡ answer 6 0
  unfolding lent_answer
  out-wrong a b = simp (eq-eqb _ _ a, ne_eqb _ _ b)

  pub lent-number : (lent_answer file ring out ≡ answer 0 0) ⊎ (lent_answer file ring out ≡ answer 2 0) ⊎ (lent_answer file ring out ≡ answer 6 0)
  unfolding lent_answer
  lent-number = lent-case (eqb ring 256) (eqb out file)
    where
      lent-case : (a b : Bool) → let x : Answer = cond (not a) (answer 2 0)
          (cond (not b) (answer 6 0) (answer 0 0)) in (x ≡ answer 0 0) ⊎ (x ≡ answer 2 0) ⊎ (x ≡ answer 6 0)
      lent-case false b = inr (inl refl)
      lent-case true false = inr (inr refl)
      lent-case true true = inl refl

-- ---- one answer after another

-- a refusal of the check is neither 0 nor 8
pub not_eight : (e : ℕ) (f : List ℕ) → (check_as e f).number ≡ 8 → ⊥
not_eight e f q = ⊎_elim (λ z. omega arith) (λ r. ⊎_elim (λ s. omega arith) (λ s. omega arith) r) (check_numbered e e f).number

-- what a number leaves
pub kept : (x : Answer) (done out₀ : List ℕ) → (x.number ≡ 0 → ⊥) → (x.number ≡ 8 → ⊥) → leaves x done out₀ ≡ writes x out₀
kept x done out₀ a b = simp (ne_eqb _ _ a, ne_eqb _ _ b)

module _ (draft : List ℕ) (ring out : ℕ) where
  seal-checked : ((check_as draft_edition draft).number ≡ 0 → ⊥) → seal_answer draft ring out ≡ check_as draft_edition draft
  unfolding seal_answer
  seal-checked n = simp (ne_eqb _ _ n)

  module _ (z : (check_as draft_edition draft).number ≡ 0) where
    pub seal-set : (x : Answer) → x ≡ set_from draft (count_of draft) 0 → (x.number ≡ 0 → ⊥) → x ≡ seal_answer draft ring out
    unfolding seal_answer
    seal-set x q n = simp (eq-eqb _ _ z, ← q, ne_eqb _ _ n)

    module _ (q : set_from draft (count_of draft) 0 ≡ answer 0 0) where
      pub seal-retired : (x : Answer) → x ≡ retired_from draft (count_of draft) 0 → (x.number ≡ 0 → ⊥) → x ≡ seal_answer draft ring out
      unfolding seal_answer
      seal-retired x r n = simp (eq-eqb _ _ z, q, ← r, ne_eqb _ _ n)

      pub seal-lent : retired_from draft (count_of draft) 0 ≡ answer 0 0 → lent_answer (length draft) ring out ≡ seal_answer draft ring out
      unfolding seal_answer
      seal-lent r = simp (eq-eqb _ _ z, q, r)

  -- no other number
  abbrev SealOne : Type 0
  SealOne =
      let n : ℕ = (seal_answer draft ring out).number in
      (n ≡ 0) ⊎ (n ≡ 2) ⊎ (n ≡ 6) ⊎ (n ≡ 10) ⊎ (n ≡ 33) ⊎ (seal_answer draft ring out ≡ check_as draft_edition draft)

  seal-numbers : SealOne
  seal-numbers = check-case (eqb (check_as draft_edition draft).number 0) refl
    where
      lent-case : (check_as draft_edition draft).number ≡ 0 → set_from draft (count_of draft) 0 ≡ answer 0 0 → retired_from draft (count_of draft) 0 ≡ answer 0 0
          → SealOne
      lent-case z q r =
          let e : (seal_answer draft ring out).number ≡ (lent_answer (length draft) ring out).number = ap (λ (x : Answer). x.number) (sym (seal-lent z q r)) in
          ⊎_elim
          (λ h. inl (e ∙ ap (λ (x : Answer). x.number) h))
          (⊎_elim (λ h. inr (inl (e ∙ ap (λ (x : Answer). x.number) h))) (λ h. inr (inr (inl (e ∙ ap (λ (x : Answer). x.number) h)))))
          (lent-number (length draft) ring out)

      retired-case : (check_as draft_edition draft).number ≡ 0 → set_from draft (count_of draft) 0 ≡ answer 0 0 → SealOne
      retired-case z q =
          ⊎_elim
          (lent-case z q)
          (λ r. inr (inr (inr (inl (ap (λ (x : Answer). x.number) (sym (seal-retired z q _ refl (λ w. omega arith))) ∙ r)))))
          (retired-rows draft).number

      check-case : (b : Bool) → eqb (check_as draft_edition draft).number 0 ≡ b → SealOne
      check-case false e = inr (inr (inr (inr (inr (seal-checked (eqb-false _ _ e))))))
      check-case true e =
          let z = eqb-true _ _ e in
          ⊎_elim
          (retired-case z)
          (λ q. inr (inr (inr (inr (inl (ap (λ (x : Answer). x.number) (sym (seal-set z _ refl (λ w. omega arith))) ∙ q))))))
          (set-rows draft).number

  pub seal-not-eight : (seal_answer draft ring out).number ≡ 8 → ⊥
  seal-not-eight q =
      ⊎_elim (λ h. omega arith)
      (⊎_elim (λ h. omega arith)
      (⊎_elim (λ h. omega arith)
      (⊎_elim (λ h. omega arith)
      (⊎_elim (λ h. omega arith)
      (λ h. not_eight draft_edition draft (sym (ap (λ (x : Answer). x.number) h) ∙ q)))))) seal-numbers

  -- what 0 says
  pub record Sealable : Type 0 where
    pub passed : (check_as draft_edition draft).number ≡ 0
    pub zeros : (i : ℕ) → i < count_of draft → ZeroTag draft i
    pub all-seal : AllSeal draft
    pub room : Room (length draft) ring out

  pub sealable : (seal_answer draft ring out).number ≡ 0 → Sealable
  unfolding seal_answer
  sealable z =
      let l = lent_answer (length draft) ring out in
      let r = and_then (retired_from draft (count_of draft) 0) l in
      let a = both_zero (check_as draft_edition draft) (and_then (set_from draft (count_of draft) 0) r) z in
      let y = rw a.1 at z in
      let b = both_zero (set_from draft (count_of draft) 0) r y in
      let x = rw b.1 at y in
      let d = both_zero (retired_from draft (count_of draft) 0) l x in
      record {
        passed = a.0;
        zeros = (set-rows draft).all b.0;
        all-seal = (retired-rows draft).all d.0;
        room = room-told (length draft) ring out (rw d.1 at x);
      }

module _ (file : List ℕ) (ring out : ℕ) where
  open-checked : ((check_as first_edition file).number ≡ 0 → ⊥) → open_answer file ring out ≡ check_as first_edition file
  unfolding open_answer
  open-checked n = simp (ne_eqb _ _ n)

  pub open_lent : (check_as first_edition file).number ≡ 0 → lent_answer (length file) ring out ≡ open_answer file ring out
  unfolding open_answer
  open_lent z = simp (eq-eqb _ _ z)

  open_numbers : let n : ℕ = (open_answer file ring out).number in (open_answer file ring out ≡ answer 0 0) ⊎ (n ≡ 2) ⊎ (n ≡ 6)
      ⊎ (open_answer file ring out ≡ check_as first_edition file)
  open_numbers = check-case (eqb (check_as first_edition file).number 0) refl
    where
      check-case : (b : Bool) → eqb (check_as first_edition file).number 0 ≡ b
          → let n : ℕ = (open_answer file ring out).number in (open_answer file ring out ≡ answer 0 0) ⊎ (n ≡ 2) ⊎ (n ≡ 6)
          ⊎ (open_answer file ring out ≡ check_as first_edition file)
      check-case false e = inr (inr (inr (open-checked (eqb-false _ _ e))))
      check-case true e =
          let q = sym (open_lent (eqb-true _ _ e)) in
          ⊎_elim
          (λ h. inl (q ∙ h))
          (⊎_elim (λ h. inr (inl (ap (λ (x : Answer). x.number) (q ∙ h)))) (λ h. inr (inr (inl (ap (λ (x : Answer). x.number) (q ∙ h))))))
          (lent-number (length file) ring out)

  pub open-not-eight : (open_answer file ring out).number ≡ 8 → ⊥
  open-not-eight q =
      ⊎_elim (λ h. let z : 0 ≡ 8 = sym (ap (λ (x : Answer). x.number) h) ∙ q in omega arith)
      (⊎_elim (λ h. omega arith)
      (⊎_elim (λ h. omega arith)
      (λ h. not_eight first_edition file (sym (ap (λ (x : Answer). x.number) h) ∙ q)))) open_numbers

  -- what 0 says
  pub record Openable : Type 0 where
    pub passed : (check_as first_edition file).number ≡ 0
    pub room : Room (length file) ring out

  pub openable : (open_answer file ring out).number ≡ 0 → Openable
  unfolding open_answer
  openable z =
      let a = both_zero (check_as first_edition file) (lent_answer (length file) ring out) z in
      record { passed = a.0; room = room-told (length file) ring out (rw a.1 at z) }

  pub open-right : (check_as first_edition file).number ≡ 0 → ring ≡ 256 → out ≡ length file → open_answer file ring out ≡ answer 0 0
  open-right z r o = sym (open_lent z) ∙ room_right (length file) ring out r o

module _ (file ring : List ℕ) (out : ℕ) where
  -- 2 and 6 stand
  unseal-lent : ((open_answer file (length ring) out).number ≡ 0 → ⊥) → unseal_answer file ring out ≡ open_answer file (length ring) out
  unfolding unseal_answer
  unseal-lent n = simp (ne_eqb _ _ n)

  unseal-tags : (open_answer file (length ring) out).number ≡ 0 → unseal_answer file ring out ≡ wrong_from file ring (count_of file) 0
  unfolding unseal_answer
  unseal-tags z = simp (eq-eqb _ _ z)

-- ---- the calls

module _ (draft ring out₀ : List ℕ) where
  abbrev S : Answer
  S = seal_answer draft (length ring) (length out₀)

  pub sealing_is : (x : Answer) → x ≡ S → file_sealing draft ring out₀ ≡ leaves x (sealed_file draft ring) out₀
  unfolding file_sealing
  sealing_is x q = ap (λ (y : Answer). leaves y (sealed_file draft ring) out₀) (sym q)

  -- a refusal
  pub sealing-kept : (x : Answer) → x ≡ S → (x.number ≡ 0 → ⊥) → file_sealing draft ring out₀ ≡ writes x out₀
  sealing-kept x q n =
      sealing_is x q ∙ kept x (sealed_file draft ring) out₀ n (λ e. seal-not-eight draft (length ring) (length out₀)
      (ap (λ (y : Answer). y.number) (sym q) ∙ e))

  cases : SealCases draft ring out₀
  cases = record {
    checked = λ n. sealing-kept _ (sym (seal-checked draft (length ring) (length out₀) n)) n;
    tags = λ z i l n b.
        let q = (set-rows draft).first i l n b in
        sealing_is (answer 33 i) (seal-set draft (length ring) (length out₀) z (answer 33 i) (sym q) (λ w. omega arith));
    retired = λ v i l n b.
        let q = (retired-rows draft).first i l n b in
        sealing_is (answer 10 i) (seal-retired draft (length ring) (length out₀) (ap (λ (x : Answer). x.number) v.checked) ((set-rows draft).none v.zeros)
        (answer 10 i) (sym q) (λ w. omega arith));
    ring-wrong = λ v a n. sealing_is (answer 2 0) (sym (ring-wrong (length draft) (length ring) (length out₀) n) ∙ lent v a);
    room-wrong = λ v a r n. sealing_is (answer 6 0) (sym (out-wrong (length draft) (length ring) (length out₀) r n) ∙ lent v a);
    done = λ v a r o. sealing_is (answer 0 0) (sym (room_right (length draft) (length ring) (length out₀) r o) ∙ lent v a);
  }
    where
      lent : Valid draft → AllSeal draft → lent_answer (length draft) (length ring) (length out₀) ≡ S
      lent v a =
          seal-lent draft (length ring) (length out₀) (ap (λ (x : Answer). x.number) v.checked) ((set-rows draft).none v.zeros)
          ((retired-rows draft).none a)

module _ (file ring out₀ : List ℕ) where
  abbrev O : Answer
  O = open_answer file (length ring) (length out₀)

  unsealing-is : (x : Answer) → unseal_answer file ring (length out₀) ≡ x → file_unsealing file ring out₀ ≡ leaves x (draft_file file ring) out₀
  unfolding file_unsealing
  unsealing-is x q = ap (λ (y : Answer). leaves y (draft_file file ring) out₀) q

  -- a refusal before 8
  pub unsealing-kept : (x : Answer) → x ≡ O → (x.number ≡ 0 → ⊥) → file_unsealing file ring out₀ ≡ writes x out₀
  unsealing-kept x q n =
      unsealing-is x (unseal-lent file ring (length out₀) (λ z. n (ap (λ (y : Answer). y.number) q ∙ z)) ∙ sym q)
      ∙ kept x (draft_file file ring) out₀ n (λ e. open-not-eight file (length ring) (length out₀) (ap (λ (y : Answer). y.number) (sym q) ∙ e))

  -- then 8 or 0
  pub unsealing-tags : O.number ≡ 0 → file_unsealing file ring out₀ ≡ leaves (wrong_from file ring (count_of file) 0) (draft_file file ring) out₀
  unsealing-tags z = unsealing-is _ (unseal-tags file ring (length out₀) z)

  unseal-cases : UnsealCases file ring out₀
  unseal-cases = record {
    checked = λ n. unsealing-kept _ (sym (open-checked file (length ring) (length out₀) n)) n;
    ring-wrong =
        λ z n. unsealing-kept (answer 2 0) (sym (ring-wrong (length file) (length ring) (length out₀) n) ∙ open_lent file (length ring) (length out₀) z)
        (λ w. omega arith);
    room-wrong =
        λ z r n. unsealing-kept (answer 6 0) (sym (out-wrong (length file) (length ring) (length out₀) r n) ∙ open_lent file (length ring) (length out₀) z)
        (λ w. omega arith);
    tags = λ z r o i l n b. tags-are z r o (answer 8 i) ((wrong-rows file ring).first i l n b);
    done = λ g r o. tags-are (ap (λ (x : Answer). x.number) g.checked) r o (answer 0 0) ((wrong-rows file ring).none g.right);
  }
    where
      tags-are : (check_as first_edition file).number ≡ 0 → length ring ≡ 256 → length out₀ ≡ length file → (x : Answer) → wrong_from file ring (count_of file) 0 ≡ x
          → file_unsealing file ring out₀ ≡ leaves x (draft_file file ring) out₀
      tags-are z r o x q =
          unsealing-tags (ap (λ (y : Answer). y.number) (open-right file (length ring) (length out₀) z r o))
          ∙ ap (λ (y : Answer). leaves y (draft_file file ring) out₀) q

pub sealing : Sealing
sealing = cases

pub unsealing : Unsealing
unsealing = unseal-cases

pub seal-number : SealNumbers
unfolding file_sealing
seal-number draft ring out₀ = seal-numbers draft (length ring) (length out₀)

pub unseal-number : UnsealNumbers
unfolding file_unsealing
unseal-number file ring out₀ =
    let x = unseal_answer file ring (length out₀) in
    number-case (eqb (open_answer file (length ring) (length out₀)).number 0) refl
  where
    number-case : (b : Bool) → eqb (open_answer file (length ring) (length out₀)).number 0 ≡ b
        → let x : Answer = unseal_answer file ring (length out₀) in (x.number ≡ 0) ⊎ (x.number ≡ 2) ⊎ (x.number ≡ 6) ⊎ (x.number ≡ 8)
        ⊎ (x ≡ check_as first_edition file)
    number-case true e =
        let q = unseal-tags file ring (length out₀) (eqb-true _ _ e) in
        ⊎_elim
        (λ h. inl (ap (λ (x : Answer). x.number) (q ∙ h)))
        (λ h. inr (inr (inr (inl (ap (λ (x : Answer). x.number) q ∙ h)))))
        (wrong-rows file ring).number
    number-case false e =
        let n = eqb-false _ _ e in
        let q = unseal-lent file ring (length out₀) n in
        let m = ap (λ (x : Answer). x.number) q in
        ⊎_elim (λ h. absurd (n (ap (λ (x : Answer). x.number) h)))
        (⊎_elim (λ h. inr (inl (m ∙ h)))
        (⊎_elim (λ h. inr (inr (inl (m ∙ h))))
        (λ h. inr (inr (inr (inr (q ∙ h))))))) (open_numbers file (length ring) (length out₀))
