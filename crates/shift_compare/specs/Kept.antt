-- Lists of what passes a test, and a list written over the front of another.
use Rattle.std.specs.Prelude.{ℕ, zero, suc, Bool, cond, List, [], ◌∷◌, ◌++◌, length, drop}

-- the values of the numbers i, i + 1, .., i + k - 1 that pass, in order
unfoldable pub kept : (ℕ → Bool) → (ℕ → ℕ) → ℕ → ℕ → List ℕ
kept p what i zero = []
kept p what i (suc k) = cond (p i) (what i ∷ kept p what (suc i) k) (kept p what (suc i) k)

-- the list at the front of another, whose later elements are kept
abbrev pub on_list : List ℕ → List ℕ → List ℕ
on_list l buffer = l ++ drop (length l) buffer
