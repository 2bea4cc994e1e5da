-- Preconditions of the crate's own functions; no entry point's contract cites them.
use Rattle.std.specs.Prelude.{ℕ, ◌≤◌, ◌<◌, ◌≡◌, List, length}
use Rattle.shift_format.specs.Format.{count_of, row_size_of, row_start, row_at}
use Rattle.shift_format.specs.Inside.{TableIn}
use Rattle.shift_editions.specs.Files.{carried}

-- the rows of w bytes can become rows of v bytes
pub record Movable (w v : ℕ) (f : List ℕ) (n : ℕ) : Type 0 where
  pub table : TableIn w f n
  pub broad : 32 ≤ v
  pub narrow : v ≤ 36
  pub new-small : row_start v n < 1048576
  pub small : carried w v n (length f) < 0x1_0000_0000
  pub behind : (i : ℕ) → i < n → row_start w n ≤ (row_at w f i).ad_at
  pub within : (i : ℕ) → i < n → (row_at w f i).ad_at ≤ length f

-- 20 to 24 do not apply, as far as the length of the moved file depends on them
pub record Tabled (f : List ℕ) : Type 0 where
  pub long : 8 ≤ length f
  pub short : length f ≤ 1048576
  pub few : count_of f ≤ 512
  pub table : TableIn (row_size_of f) f (count_of f)

-- the file passes, as far as a move depends on it
pub record Source (f : List ℕ) : Type 0 where
  pub tabled : Tabled f
  pub behind : (i : ℕ) → i < count_of f → row_start (row_size_of f) (count_of f) ≤ (row_at (row_size_of f) f i).ad_at
  pub within : (i : ℕ) → i < count_of f → (row_at (row_size_of f) f i).ad_at ≤ length f

-- neither 20 nor 6 refuses a moved file of that length into that output
pub record Room (new out : ℕ) : Type 0 where
  pub short : new ≤ 1048576
  pub fits : out ≡ new
