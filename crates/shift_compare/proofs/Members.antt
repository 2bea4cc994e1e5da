-- The three lists hold exactly the jobs that they should: what a filter keeps is what some row that passes stands for.
use Prim.Native.Nat.{ℕ, zero, suc, ◌+◌, ◌≤◌, ◌<◌}
use native.Mathlib.Omega.{arith}
use native.Mathlib.Nat.{eq-or-lt_of_le}
use mathlib.Core.Path.{◌≡◌, refl, sym, ap, ◌∙◌}
use mathlib.Core.Bool.{Bool, true, false, not, ◌&&◌, cond, true≢false}
use mathlib.Core.List.Memᴰ
use mathlib.Core.List.{List, ◌∷◌, Memᴰ}
use mathlib.Core.Logic.{◌⊎◌, inl, inr, ⊎_elim}
use borrow.Author.Tests.{eq-eqb, ne_eqb, eqb-true, not-true}
use Rattle.block.proofs.Tests.{both_true, is_false}
use Rattle.block.proofs.SameBytes.{same_refl, same_true}
use Rattle.shift_format.specs.Format.{count_of}
use Rattle.shift_check.proofs.Searches.{any_none, any_some, any_hit}
use Rattle.shift_compare.specs.Kept.{kept}
use Rattle.shift_same.specs.Same.{same_fields, nonce_bytes, body_of, same_entry}
use Rattle.shift_compare.specs.Comparing.{job_at, has, has_job, differs, only_in, differing}
use Rattle.shift_compare.specs.Promised.{InFile, Same, Different}

-- ---- what a filter keeps

mem_cond : (x y : ℕ) (l : List ℕ) (b : Bool) → Memᴰ x (cond b (y ∷ l) l) → ((b ≡ true) × (x ≡ y)) ⊎ Memᴰ x l
mem_cond x y l true m = ⊎_elim (λ (e : x ≡ y). inl (refl, e)) inr (Memᴰ.cases_cons m)
mem_cond x y l false m = inr m

cond_head : (x y : ℕ) (l : List ℕ) (b : Bool) → b ≡ true → x ≡ y → Memᴰ x (cond b (y ∷ l) l)
cond_head x y l true q e = Memᴰ.head e
cond_head x y l false q e = absurd (true≢false (sym q))

cond_tail : (x y : ℕ) (l : List ℕ) (b : Bool) → Memᴰ x l → Memᴰ x (cond b (y ∷ l) l)
cond_tail x y l true m = Memᴰ.tail m
cond_tail x y l false m = m

-- of the k numbers from i on, one that passes stands for x
pub record Kept (p : ℕ → Bool) (what : ℕ → ℕ) (i k x : ℕ) : Type 0 where
  pub at : ℕ
  pub low : i ≤ at
  pub high : at < i + k
  pub hit : p at ≡ true
  pub is : what at ≡ x

module _ (p : ℕ → Bool) (what : ℕ → ℕ) where
  pub kept-has : (i k x : ℕ) → Memᴰ x (kept p what i k) → Kept p what i k x
  unfolding kept
  kept-has i zero x m = absurd (Memᴰ.not-nil m)
  kept-has i (suc k) x m =
      ⊎_elim
      (λ h. record { at = i; low = omega arith; high = omega arith; hit = h.0; is = sym h.1 })
      (λ n. let r = kept-has (suc i) k x n in record { at = r.at; low = omega (arith, r.low); high = omega (arith, r.high); hit = r.hit; is = r.is })
      (mem_cond x (what i) (kept p what (suc i) k) (p i) m)

  pub kept-gets : (i k x : ℕ) → Kept p what i k x → Memᴰ x (kept p what i k)
  unfolding kept
  kept-gets i zero x h = absurd (omega (arith, h.low, h.high))
  kept-gets i (suc k) x h =
      ⊎_elim
      (λ (e : i ≡ h.at). cond_head x (what i) (kept p what (suc i) k) (p i) (ap p e ∙ h.hit) (sym (ap what e ∙ h.is)))
      (λ (g : i < h.at).
      cond_tail x (what i) (kept p what (suc i) k) (p i)
      (kept-gets (suc i) k x (record { at = h.at; low = omega arith; high = omega (arith, h.high); hit = h.hit; is = h.is })))
      (eq-or-lt_of_le h.low)

-- ---- some row has a job

in_file : (f : List ℕ) (job : ℕ) → has_job f job ≡ true → InFile f job
unfolding job_at
in_file f job q = let r = any_some (has f job) (count_of f) q in record { row = r.0; within = r.1.0; has = eqb-true _ _ r.1.1 }

is_there : (f : List ℕ) (job : ℕ) → InFile f job → has_job f job ≡ true
unfolding job_at
is_there f job h = any_hit (has f job) h.row (count_of f) h.within (eq-eqb _ _ h.has)

not_there : (f : List ℕ) (job : ℕ) → (InFile f job → ⊥) → has_job f job ≡ false
unfolding job_at
not_there f job h = any_none (has f job) (count_of f) (λ k m. ne_eqb (job_at f k) job (λ e. h (record { row = k; within = m; has = e })))

-- ---- a job is only in f

pub only-has : (f g : List ℕ) (job : ℕ) → Memᴰ job (only_in f g) → InFile f job × (InFile g job → ⊥)
unfolding only_in job_at
only-has f g job m =
    let r = kept-has (λ i. not (has_job g (job_at f i))) (job_at f) 0 (count_of f) job m in
    let none : has_job g job ≡ false = ap (has_job g) (sym r.is) ∙ not-true _ r.hit in
    (record { row = r.at; within = omega (arith, r.high); has = r.is }, λ h. true≢false (sym (is_there g job h) ∙ none))

pub only_gets : (f g : List ℕ) (job : ℕ) → InFile f job × (InFile g job → ⊥) → Memᴰ job (only_in f g)
unfolding only_in job_at
only_gets f g job h =
    kept-gets (λ i. not (has_job g (job_at f i))) (job_at f) 0 (count_of f) job
    (record { at = h.0.row; low = omega arith; high = omega (arith, h.0.within); hit = simp (h.0.has, not_there g job h.1); is = h.0.has })

-- ---- it is in both, but different

pub same-says : (f g : List ℕ) (i j : ℕ) → same_entry f g i j ≡ true → Same f g i j
unfolding same_entry same_fields
same-says f g i j q =
    let a = both_true _ _ q in
    let s = both_true _ _ a.0 in
    let k = both_true _ _ s.1 in
    let t = both_true _ _ a.1 in
    let b = both_true _ _ t.1 in
    record {
      suite = eqb-true _ _ s.0;
      key = eqb-true _ _ k.0;
      ad-len = eqb-true _ _ k.1;
      nonce = same_true _ _ b.0;
      body = same_true _ _ b.1;
      station = eqb-true _ _ t.0;
    }

pub same_tells : (f g : List ℕ) (i j : ℕ) → Same f g i j → same_entry f g i j ≡ true
unfolding same_entry same_fields
same_tells f g i j h =
    simp (
      eq-eqb _ _ h.suite,
      eq-eqb _ _ h.key,
      eq-eqb _ _ h.ad-len,
      eq-eqb _ _ h.station,
      h.nonce,
      h.body,
      same_refl (nonce_bytes g j),
      same_refl (body_of g j),
    )

pub differ-has : (f g : List ℕ) (job : ℕ) → Memᴰ job (differing f g) → Different f g job
unfolding differing job_at
differ-has f g job m =
    let r = kept-has (differs f g) (job_at f) 0 (count_of f) job m in
    let s = any_some (λ j. has g (job_at f r.at) j && not (same_entry f g r.at j)) (count_of g) r.hit in
    let t = both_true (has g (job_at f r.at) s.0) (not (same_entry f g r.at s.0)) s.1.1 in
    record {
      first = record { row = r.at; within = omega (arith, r.high); has = r.is };
      second = record { row = s.0; within = s.1.0; has = eqb-true _ _ t.0 ∙ r.is };
      other = λ h. true≢false (sym (same_tells f g r.at s.0 h) ∙ not-true _ t.1);
    }

pub differ_gets : (f g : List ℕ) (job : ℕ) → Different f g job → Memᴰ job (differing f g)
unfolding differing job_at
differ_gets f g job h =
    let i = h.first.row in
    let j = h.second.row in
    let other : same_entry f g i j ≡ false = is_false _ (λ q. h.other (same-says f g i j q)) in
    kept-gets (differs f g) (job_at f) 0 (count_of f) job
    (record {
      at = i;
      low = omega arith;
      high = omega (arith, h.first.within);
      hit = any_hit (λ k. has g (job_at f i) k && not (same_entry f g i k)) j (count_of g) h.second.within
          (simp (eq-eqb (job_at g j) (job_at f i) (h.second.has ∙ sym h.first.has), other));
      is = h.first.has;
    })
