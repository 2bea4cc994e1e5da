-- What number and row a lookup that refuses can give: 20 to 32 or 34, and a row only with 25 to 30 and 34.
use Prim.Native.Nat.{ℕ, ◌-◌}
use native.Mathlib.Omega.{arith}
use mathlib.Core.Path.{◌≡◌, refl, sym, ap, subst}
use mathlib.Core.Bool.{Bool, true, false, cond}
use mathlib.Core.List.{List}
use mathlib.Core.Logic.{inl, inr, ⊎_elim}
use lib.Dec.{eqb, lit≤}
use Rattle.status.specs.declared.checked.Answer.{Answer}
use Rattle.shift_format.specs.Format.{count_of, first_edition, newest, row_size_of}
use Rattle.shift_check.specs.Check.{check_file}
use Rattle.shift_check.proofs.Searches.{first_says}
use Rattle.shift_check.proofs.Numbered.{Numbered, check_numbered}
use Rattle.shift_lookup.specs.Lookup.{find_from, lookup_job}

found_numbered : (w : ℕ) (f : List ℕ) (n job i : ℕ) → ((find_from w f n job i).number ≡ 0 → ⊥) → Numbered 32 (find_from w f n job i)
unfolding find_from
found_numbered w f n job i none =
    ⊎_elim
    (λ h. absurd (none (sym (ap (λ (x : Answer). x.number) h.gives))))
    (λ h. subst (Numbered 32) h.gives (record { number = inr (inl (lit≤ tt, lit≤ tt)); row = inl refl }))
    (first_says _ _ _ (n - i) i (find_from w f n job i) refl)

-- a lookup that refuses
pub lookup_numbered : (f : List ℕ) (job : ℕ) → ((lookup_job f job).number ≡ 0 → ⊥) → Numbered 32 (lookup_job f job)
unfolding lookup_job
lookup_numbered f job none = lookup-case (eqb (check_file f).number 0) none
  where
    found : Answer
    found = find_from (row_size_of f) f (count_of f) job 0

    lookup-case : (b : Bool) → ((cond b found (check_file f)).number ≡ 0 → ⊥) → Numbered 32 (cond b found (check_file f))
    lookup-case true n = found_numbered (row_size_of f) f (count_of f) job 0 n
    lookup-case false n =
        let t = check_numbered first_edition newest f in
        record { number = ⊎_elim inl (λ r. inr (⊎_elim (λ s. inl (omega arith)) inr r)) t.number; row = t.row }
