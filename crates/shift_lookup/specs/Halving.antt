-- Binary search for a job (document 02, W6): the rows that are looked at, in order, and the answer.
use Rattle.std.specs.Prelude.{ℕ, zero, suc, ◌+◌, ◌-◌, ◌/◌, cond, List, [], ◌∷◌, eqb, ltb}
use Rattle.status.specs.declared.checked.Answer.{Answer}
use Rattle.shift_format.specs.Format.{row_at}
use Rattle.status.specs.Answers.{answer}

-- the rows that were looked at, and the answer
pub record Walk : Type 0 where
  pub rows : List ℕ
  pub says : Answer

-- no row more is looked at
abbrev pub ends : Answer → Walk
ends x = record { rows = []; says = x }

-- row m is looked at, and then the rest
abbrev pub visit : ℕ → Walk → Walk
visit m rest = record { rows = m ∷ rest.rows; says = rest.says }

-- c rows at row s, whose job numbers are `jobs`, in at most k looks: 32 if c is 0; else look at row s + c/2, rounded down; stop if it has the job;
-- keep the rows after it if its job is lower, else those before
unfoldable pub halving_in : (ℕ → ℕ) → ℕ → ℕ → ℕ → ℕ → Walk
halving_in jobs job zero s c = ends (answer 32 0)
halving_in jobs job (suc k) s c =
    cond (eqb c 0) (ends (answer 32 0))
    (visit (s + c / 2)
    (cond (eqb (jobs (s + c / 2)) job) (ends (answer 0 (s + c / 2)))
    (cond (ltb (jobs (s + c / 2)) job)
    (halving_in jobs job k (s + c / 2 + 1) (c - c / 2 - 1))
    (halving_in jobs job k s (c / 2)))))

-- c looks are enough for c rows
abbrev pub halving : (ℕ → ℕ) → ℕ → ℕ → ℕ → Walk
halving jobs job s c = halving_in jobs job c s c

-- the job numbers of the rows, w bytes each
abbrev pub jobs_of : ℕ → List ℕ → ℕ → ℕ
jobs_of w f i = (row_at w f i).job
