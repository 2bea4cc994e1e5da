-- An order of refusals, as document 02 gives them: stages one after the other, each a number for the whole call, which carries
-- row 0, or a number that carries the first row to which it applies.
use Rattle.std.specs.Prelude.{◌↔◌, ℕ, ◌<◌, List, [], ◌∷◌}

pub data Stage : Type 1 where
  -- a number, and when it is given
  whole : ℕ → Type 0 → Stage
  -- a number, how many rows there are, and which rows it is given for
  rows : ℕ → ℕ → (ℕ → Type 0) → Stage

-- nothing applies
abbrev pub Quiet : List Stage → Type 0
Quiet [] = Unit
Quiet (whole k c ∷ ss) = (c → ⊥) × Quiet ss
Quiet (rows k n c ∷ ss) = ((j : ℕ) → j < n → c j → ⊥) × Quiet ss

-- each number is given, with its row, exactly if it applies, no stage before it does and, if it carries a row, it applies to
-- no row before; and the order is reached. `Gives k i` says that k is given, with row i
abbrev pub Stages : (ℕ → ℕ → Type 0) → Type 0 → List Stage → Type 0
Stages Gives reached [] = Unit
Stages Gives reached (whole k c ∷ ss) = (Gives k 0 ↔ (reached × c)) × Stages Gives (reached × (c → ⊥)) ss
Stages Gives reached (rows k n c ∷ ss) =
    ((i : ℕ) → Gives k i ↔ (reached × ((i < n) × (((j : ℕ) → j < i → c j → ⊥) × c i)))) × Stages Gives (reached × ((j : ℕ) → j < n → c j → ⊥)) ss

-- a whole order: its stages, and 0 with row 0 exactly if nothing applies
pub record Order (Gives : ℕ → ℕ → Type 0) (ss : List Stage) : Type 0 where
  pub stages : Stages Gives Unit ss
  pub success : Gives 0 0 ↔ Quiet ss
