-- What number and row the check can give: 0, 20 to 31 or 34, and a row only with 25 to 30 and 34.
use Prim.Native.Nat.{ℕ, ◌-◌}
use native.Mathlib.Omega.{arith}
use mathlib.Core.Path.{◌≡◌, refl, subst}
use mathlib.Core.Bool.{Bool, true, false, ◌||◌, not, cond}
use mathlib.Core.List.{List}
use mathlib.Core.Logic.{◌⊎◌, inl, inr, ⊎_elim}
use lib.ListN.{length}
use lib.Dec.{eqb, ltb, lit≤}
use borrow.Author.Tests.{eqb-false, not-true, ne_eqb}
use Rattle.block.proofs.Ladder.{rung}
use Rattle.status.specs.declared.checked.Answer.{Answer}
use Rattle.shift_format.specs.Format.{edition_of, count_of, total_of, row_size_of, row_start, row_at}
use Rattle.status.specs.Answers.{answer, Ranged}
use Rattle.shift_check.specs.Check.{outside, not_above, bad_suite, bad_length, misplaced, unread_set, nonce_seen, bad_data, body_start, row_number, body_number}
use Rattle.shift_check.specs.Check.{head_number, end_answer, rows_from, check_between}
use Rattle.shift_check.proofs.Searches.{first_says}

-- 0, or from low to high, or 34
abbrev pub Among : ℕ → ℕ → ℕ → Type 0
Among low high m = (m ≡ 0) ⊎ Ranged low high m

row_among : (w : ℕ) (f : List ℕ) (n i : ℕ) → Among 25 30 (row_number w f n i)
unfolding row_number body_number
row_among w f n i =
    rung (Among 25 30) (not_above w f i) 25 _ (inr (inl (lit≤ tt, lit≤ tt)))
    (rung (Among 25 30) (bad_suite (row_at w f i)) 26 _ (inr (inl (lit≤ tt, lit≤ tt)))
    (rung (Among 25 30) (bad_length (row_at w f i)) 27 _ (inr (inl (lit≤ tt, lit≤ tt)))
    (rung (Among 25 30) (misplaced w f n i) 28 _ (inr (inl (lit≤ tt, lit≤ tt)))
    (rung (Among 25 30) (unread_set w f i) 34 _ (inr (inr refl))
    (rung (Among 25 30) (nonce_seen w f i) 29 _ (inr (inl (lit≤ tt, lit≤ tt)))
    (rung (Among 25 30) (bad_data f (row_at w f i)) 30 0 (inr (inl (lit≤ tt, lit≤ tt))) (inl refl)))))))

head_among : (low high : ℕ) (f : List ℕ) → Among 20 24 (head_number low high f)
unfolding head_number
head_among low high f =
    rung (Among 20 24) (ltb (length f) 8 || ltb 1048576 (length f)) 20 _ (inr (inl (lit≤ tt, lit≤ tt)))
    (rung (Among 20 24) (outside low high (edition_of f)) 21 _ (inr (inl (lit≤ tt, lit≤ tt)))
    (rung (Among 20 24) (ltb 512 (count_of f)) 22 _ (inr (inl (lit≤ tt, lit≤ tt)))
    (rung (Among 20 24) (not (eqb (total_of f) (length f))) 23 _ (inr (inl (lit≤ tt, lit≤ tt)))
    (rung (Among 20 24) (ltb (length f) (row_start (row_size_of f) (count_of f))) 24 0 (inr (inl (lit≤ tt, lit≤ tt))) (inl refl)))))

-- an answer of 0, 20 to `most` or 34, with a row only where that is 25 to 30 or 34
pub record Numbered (most : ℕ) (x : Answer) : Type 0 where
  pub number : Among 20 most x.number
  pub row : (x.row ≡ 0) ⊎ Ranged 25 30 x.number

end_numbered : (w : ℕ) (f : List ℕ) (n : ℕ) → Numbered 31 (end_answer w f n)
unfolding end_answer
end_numbered w f n = end-case (eqb (body_start w f n n) (length f))
  where
    end-case : (b : Bool) → Numbered 31 (cond b (answer 0 0) (answer 31 0))
    end-case true = record { number = inl refl; row = inl refl }
    end-case false = record { number = inr (inl (lit≤ tt, lit≤ tt)); row = inl refl }

rows_numbered : (w : ℕ) (f : List ℕ) (n i : ℕ) → Numbered 31 (rows_from w f n i)
unfolding rows_from
rows_numbered w f n i =
    ⊎_elim
    (λ h. subst (Numbered 31) h.gives
    (⊎_elim
    (λ z. absurd (eqb-false _ _ (not-true _ h.hits) z))
    (λ r. record { number = inr (⊎_elim (λ s. inl (omega arith)) inr r); row = inr r })
    (row_among w f n h.at)))
    (λ h. subst (Numbered 31) h.gives (end_numbered w f n))
    (first_says _ _ _ (n - i) i (rows_from w f n i) refl)

pub check_numbered : (low high : ℕ) (f : List ℕ) → Numbered 31 (check_between low high f)
unfolding check_between
check_numbered low high f =
    ⊎_elim
    (λ (z : head_number low high f ≡ 0). simp z (rows_numbered (row_size_of f) f (count_of f) 0))
    (λ (r : Ranged 20 24 (head_number low high f)).
    let n : head_number low high f ≡ 0 → ⊥ = λ z. ⊎_elim (λ s. omega arith) (λ s. omega arith) r in
    simp (ne_eqb _ _ n) (record { number = inr (⊎_elim (λ s. inl (s.0, omega arith)) inr r); row = inl refl }))
    (head_among low high f)
