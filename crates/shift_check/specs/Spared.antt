-- The precondition of 29 on the rows before: each passed 34; no entry point's contract cites it.
use Rattle.std.specs.Prelude.{ℕ, ◌<◌, ◌≡◌, false, List}
use Rattle.shift_check.specs.Check.{unread_set}

-- no row before row n has a nonzero nonce byte that its suite does not read
pub record Spared (w : ℕ) (f : List ℕ) (n : ℕ) : Type 0 where
  pub spare : (j : ℕ) → j < n → unread_set w f j ≡ false
