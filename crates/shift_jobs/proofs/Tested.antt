-- A job's tag is tested as opening the job tests it, into any output of the message's length; so the associated data is returned exactly where the job opens.
use Prim.Native.Nat.{ℕ, ◌<◌}
use native.Mathlib.Omega.{arith}
use mathlib.Core.Path.{◌≡◌, refl, sym, ap, ◌∙◌}
use mathlib.Core.Bool.{Bool, true, false, not, cond, false≢true}
use mathlib.Core.List.{List, []}
use lib.ListN.{length}
use lib.Dec.{eqb}
use borrow.Author.Tests.{eqb-true, eq-eqb}
use Rattle.comet.specs.Answers.{Opened, opened_as}
use Rattle.status.specs.declared.checked.Answer.{Answer}
use Rattle.status.specs.Answers.{answer}
use Rattle.shift_format.specs.declared.row.Row.{Row}
use Rattle.shift_format.specs.Format.{row_size_of, row_of, text_of}
use Rattle.shift_format.specs.Inside.{EntryIn}
use Rattle.shift_lookup.specs.Lookup.{lookup_job}
use Rattle.shift_lookup.specs.Entry.{data_start, data_length, text_length}
use Rattle.shift_jobs.specs.Opening.{left, entry_opening, entry_verifying, row_opening, job_opening}
use Rattle.shift_jobs.specs.Genuine.{Genuine, withheld, row_verifying, job_verifying, VerifiesAsOpening, VerifiedPlaces}
use Rattle.shift_lookup.proofs.Lookups.{found_in}
use Rattle.shift_jobs.proofs.Entries.{entry_right, entry_text, test_number, text-long, entry-opened, row-eight}

-- ---- the code's two answers

module _ (f ring : List ℕ) (i : ℕ) (h : EntryIn (row_size_of f) f i) (g : length ring ≡ 256) where
  -- a number above 0 is 8
  eight : 0 < entry_verifying f ring i → entry_verifying f ring i ≡ 8
  eight l =
      let t = text_of f (row_of f i) in
      let x = entry_opening f ring i t in
      let e = test_number f ring i in
      e ∙ row-eight f ring i h g x.number x.out t (text-long f ring i h g) refl (omega (arith, e, l))

  pub tested-wrong : (k : ℕ) → k ≡ entry_verifying f ring i → 0 < k → withheld 8 0 ≡ row_verifying f ring i
  unfolding row_verifying
  tested-wrong k e l = simp (eq-eqb _ _ g, eight (omega (arith, e, l)))

  pub tested-right : (r : Row) → entry_verifying f ring i ≡ 0 → r ≡ row_of f i
      → ◌≡◌ {A = Genuine} (record { number = 0; row = 0; ad_at = r.ad_at; ad_len = r.ad_len }) (row_verifying f ring i)
  unfolding row_verifying
  tested-right r e q = simp (eq-eqb _ _ g, e, q)

-- ---- the opener's number, whatever stands in the output

out_free : (b : Bool) (t out : List ℕ) → (opened_as 0 b t out).number ≡ (opened_as 0 b t []).number
out_free true t out = refl
out_free false t out = refl

module _ (f ring : List ℕ) (i : ℕ) (h : EntryIn (row_size_of f) f i) (g : length ring ≡ 256) where
  number_is : (out : List ℕ) → length out ≡ (row_of f i).text_len → (entry_opening f ring i out).number
      ≡ (opened_as 0 (entry_right f ring i) (entry_text f ring i) []).number
  number_is out o =
      ap (λ (y : Opened). y.number) (rw (eq-eqb _ _ o) at (entry-opened f ring i h g out)) ∙ out_free (entry_right f ring i) (entry_text f ring i) out

  same_test : (out : List ℕ) → length out ≡ (row_of f i).text_len → entry_verifying f ring i ≡ (entry_opening f ring i out).number
  same_test out o = test_number f ring i ∙ number_is (text_of f (row_of f i)) (text-long f ring i h g) ∙ sym (number_is out o)

-- ---- number and row

told : (k at len : ℕ) (b : Bool) → eqb k 0 ≡ b →
    let g : Genuine = cond (not b) (withheld k 0) (record { number = 0; row = 0; ad_at = at; ad_len = len }) in answer g.number g.row ≡ answer k 0
told k at len true e = ap (λ (n : ℕ). answer n 0) (sym (eqb-true _ _ e))
told k at len false e = refl

row_same : (f ring : List ℕ) (i : ℕ) → EntryIn (row_size_of f) f i → (out : List ℕ) → length out ≡ (row_of f i).text_len
    → answer (row_verifying f ring i).number (row_verifying f ring i).row ≡ (row_opening f ring i out).answer
unfolding row_verifying row_opening
row_same f ring i h out o = on (eqb (length ring) 256) refl
  where
    k : ℕ
    k = entry_verifying f ring i

    v : Bool → Genuine
    v b =
        cond (not b) (withheld 2 0) (cond (not (eqb k 0)) (withheld k 0)
        (record { number = 0; row = 0; ad_at = (row_of f i).ad_at; ad_len = (row_of f i).ad_len }))

    on : (b : Bool) → eqb (length ring) 256 ≡ b → answer (v b).number (v b).row
        ≡ (cond (not b) (left (answer 2 0) out) (cond (not (eqb (length out) (row_of f i).text_len)) (left (answer 6 0) out)
        (left (answer (entry_opening f ring i out).number 0) (entry_opening f ring i out).out))).answer
    on false e = refl
    on true e =
        told k (row_of f i).ad_at (row_of f i).ad_len (eqb k 0) refl
        ∙ ap (λ (n : ℕ). answer n 0) (same_test f ring i h (eqb-true _ _ e) out o)
        ∙ sym (simp (eq-eqb _ _ o))

pub verifies_as_opening : VerifiesAsOpening
unfolding job_verifying job_opening text_length
verifies_as_opening f ring job out₀ o = on (eqb (lookup_job f job).number 0) refl o
  where
    x : Answer
    x = lookup_job f job

    on : (b : Bool) → eqb x.number 0 ≡ b → length out₀ ≡ cond b (row_of f x.row).text_len 0 →
        let g : Genuine = cond b (row_verifying f ring x.row) (withheld x.number x.row) in
        answer g.number g.row ≡ (cond b (row_opening f ring x.row out₀) (left x out₀)).answer
    on true e l = row_same f ring x.row (found_in f job x.row (ap (λ (n : ℕ). answer n x.row) (eqb-true _ _ e))) out₀ l
    on false e l = refl

-- ---- the places

unlike_zero : (k : ℕ) → eqb k 0 ≡ false → k ≡ 0 → ⊥
unlike_zero k e z = false≢true (sym e ∙ eq-eqb k 0 z)

placed : (a b c : Bool) (x : Answer) (k at len : ℕ) → eqb x.number 0 ≡ a → eqb k 0 ≡ c →
    let g : Genuine = cond a (cond (not b) (withheld 2 0) (cond (not c) (withheld k 0) (record { number = 0; row = 0; ad_at = at; ad_len = len })))
    (withheld x.number x.row) in
    (g.number ≡ 0 → (g.ad_at ≡ cond a at 0) × (g.ad_len ≡ cond a len 0)) × ((g.number ≡ 0 → ⊥) → (g.ad_at ≡ 0) × (g.ad_len ≡ 0))
placed false b c x k at len p q = (λ z. (refl, refl), λ n. (refl, refl))
placed true false c x k at len p q = (λ z. absurd (omega (arith, z)), λ n. (refl, refl))
placed true true false x k at len p q = (λ z. absurd (unlike_zero k q z), λ n. (refl, refl))
placed true true true x k at len p q = (λ z. (refl, refl), λ n. absurd (n refl))

pub verified_places : VerifiedPlaces
unfolding job_verifying row_verifying data_start data_length
verified_places f ring job =
    let x = lookup_job f job in
    placed (eqb x.number 0) (eqb (length ring) 256) (eqb (entry_verifying f ring x.row) 0) x (entry_verifying f ring x.row) (row_of f x.row).ad_at
    (row_of f x.row).ad_len refl refl
