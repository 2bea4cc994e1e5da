-- The buffer after bytes were written at its start.
use Rattle.std.specs.Prelude.{List, ◌++◌, ℕ, length, drop}

-- a buffer with its first bytes overwritten by `new`
abbrev pub written : List ℕ → List ℕ → List ℕ
written new out = new ++ drop (length new) out
