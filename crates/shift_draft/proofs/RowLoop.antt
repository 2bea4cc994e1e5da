-- The loop of the unsealer and of the reseal pass: row by row it writes a piece of the output, and stops with 8 at the first
-- row whose tag is wrong. `Filling` is its invariant: the pieces below row i stand in the output, and the search for a wrong
-- tag from row i on gives the whole answer. It holds at the start, a row keeps it, and at both ends it gives the contract.
use Prim.Native.Nat.{ℕ, ◌+◌, ◌-◌, ◌≤◌, ◌<◌}
use native.Mathlib.Numerals.{add-one}
use native.Mathlib.Omega.{arith}
use mathlib.Core.Path.{◌≡◌, refl, sym, ap, ◌∙◌}
use mathlib.Core.Bool.{Bool, true, false}
use mathlib.Core.List.{List}
use lib.ListN.{length, replicate}
use Rattle.status.specs.declared.checked.Answer.{Answer}
use Rattle.status.specs.Answers.{answer}
use Rattle.shift_check.specs.Search.{first_of}
use Rattle.shift_check.proofs.Searches.{first-hit, first-skip, first-end}
use Rattle.shift_draft.specs.Put.{put, put_all}
use Rattle.shift_draft.specs.Answers.{writes, leaves}

-- the answer from row i on: the first row of n that `wrong` finds, or 0
abbrev pub wrong_row : (ℕ → Bool) → ℕ → ℕ → Answer
wrong_row wrong n i = first_of wrong (answer 8) (answer 0 0) i (n - i)

pub record Filling (start : ℕ → ℕ) (piece : ℕ → List ℕ) (wrong : ℕ → Bool) (n : ℕ) (out₀ out : List ℕ) (i : ℕ) : Type 0 where
  pub within : i ≤ n
  pub long : length out ≡ length out₀
  pub filled : out ≡ put_all start piece i out₀
  pub right : wrong_row wrong n 0 ≡ wrong_row wrong n i

module _ {start : ℕ → ℕ} {piece : ℕ → List ℕ} {wrong : ℕ → Bool} {n : ℕ} {out₀ : List ℕ} where
  pub filling-start : Filling start piece wrong n out₀ out₀ 0
  unfolding put_all
  filling-start = record { within = omega arith; long = refl; filled = refl; right = refl }

  module _ {out : List ℕ} {i : ℕ} (at : Filling start piece wrong n out₀ out i) where
    -- row i is right, and its piece is written
    pub filling-more : {out' : List ℕ} → i < n → wrong i ≡ false → length out' ≡ length out → out' ≡ put out (start i) (piece i)
        → Filling start piece wrong n out₀ out' (i + 1)
    unfolding put_all
    filling-more l e long' q =
        record {
          within = omega arith;
          long = long' ∙ at.long;
          filled = rw add-one (q ∙ ap (λ (o : List ℕ). put o (start i) (piece i)) at.filled);
          right = at.right ∙ first-skip wrong (answer 8) (answer 0 0) n i l e;
        }

    -- row i is wrong, and the output is wiped
    pub filling-wrong : {k : ℕ} {wiped : List ℕ} → i < n → wrong i ≡ true → k ≡ length out → wiped ≡ replicate k 0
        → writes (answer 8 i) wiped ≡ leaves (wrong_row wrong n 0) (put_all start piece n out₀) out₀
    filling-wrong l e long' q =
        ap (writes (answer 8 i)) (q ∙ ap (λ (k : ℕ). replicate k 0) (long' ∙ at.long))
        ∙ ap (λ (x : Answer). leaves x (put_all start piece n out₀) out₀) (sym (at.right ∙ first-hit wrong (answer 8) (answer 0 0) n i l e))

    -- no row is left
    pub filling-end : n ≤ i → writes (answer 0 0) out ≡ leaves (wrong_row wrong n 0) (put_all start piece n out₀) out₀
    filling-end l =
        let q : i ≡ n = omega (arith, at.within) in
        ap (writes (answer 0 0)) (at.filled ∙ ap (λ (k : ℕ). put_all start piece k out₀) q)
        ∙ ap (λ (x : Answer). leaves x (put_all start piece n out₀) out₀) (sym (at.right ∙ first-end wrong (answer 8) (answer 0 0) n i l))
