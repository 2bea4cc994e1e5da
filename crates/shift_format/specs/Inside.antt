-- Preconditions of the functions that read a row; no entry point's contract cites them.
use Rattle.std.specs.Prelude.{ℕ, ◌+◌, ◌≤◌, List, length}
use Rattle.cipher.specs.Cipher.{IsSuite, limit}
use Rattle.shift_format.specs.Format.{row_start, row_at, body_end}

-- row i lies in the file
pub record RowIn (w : ℕ) (f : List ℕ) (i : ℕ) : Type 0 where
  pub broad : 32 ≤ w
  pub fits : row_start w i + w ≤ length f

-- the table of n rows lies in the file
pub record TableIn (w : ℕ) (f : List ℕ) (n : ℕ) : Type 0 where
  pub broad : 32 ≤ w
  pub fits : row_start w n ≤ length f

-- row i lies in a file that passes, with what reading and opening its body requires
pub record EntryIn (w : ℕ) (f : List ℕ) (i : ℕ) : Type 0 where
  pub row_in : RowIn w f i
  pub suite-is : IsSuite (row_at w f i).suite
  pub key-high : (row_at w f i).key ≤ 15
  pub data-high : (row_at w f i).ad_len ≤ 1024
  pub text-high : (row_at w f i).text_len ≤ limit
  pub body-in : body_end (row_at w f i) ≤ length f
