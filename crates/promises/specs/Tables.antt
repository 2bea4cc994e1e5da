-- A table of numbers, as documents 01 and 02 print them: lines in order, each a number and when it is given. "The first that
-- applies is given, and none is given otherwise."
use Rattle.std.specs.Prelude.{◌↔◌, ℕ, List, [], ◌∷◌}

pub record Line : Type 1 where
  pub number : ℕ
  pub applies : Type 0

infix 0 ◌when◌
abbrev pub ◌when◌ : ℕ → Type 0 → Line
k when c = record { number = k; applies = c }

-- no line applies
abbrev pub None : List Line → Type 0
None [] = Unit
None (l ∷ ls) = (l.applies → ⊥) × None ls

-- each number is given exactly if its line applies, no line before it does, and the table is reached; `Gives k` says that k is given
abbrev pub Lines : (ℕ → Type 0) → Type 0 → List Line → Type 0
Lines Gives reached [] = Unit
Lines Gives reached (l ∷ ls) = (Gives l.number ↔ (reached × l.applies)) × Lines Gives (reached × (l.applies → ⊥)) ls

-- a whole table: its lines, and 0 exactly if none applies
pub record Table (Gives : ℕ → Type 0) (ls : List Line) : Type 0 where
  pub lines : Lines Gives Unit ls
  pub success : Gives 0 ↔ None ls
