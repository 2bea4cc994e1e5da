-- What a file that passes the check looks like: its bodies follow each other, and nothing else follows the table.
use Rattle.std.specs.Prelude.{ℕ, zero, suc, ◌-◌, ◌≤◌, ◌<◌, ◌≡◌, List, [], ◌++◌, length, take}
use Rattle.shift_format.specs.Part.{stretch}
use Rattle.shift_format.specs.Format.{count_of, row_size_of, row_start, row_at, row_of, body_end}
use Rattle.shift_check.specs.Check.{check_file}

-- the bytes of row i's body
abbrev pub body_at : ℕ → List ℕ → ℕ → List ℕ
body_at w f i = stretch f (row_at w f i).ad_at (body_end (row_at w f i) - (row_at w f i).ad_at)

-- k bodies from row i on, one after the other
abbrev pub bodies : ℕ → List ℕ → ℕ → ℕ → List ℕ
bodies w f i zero = []
bodies w f i (suc k) = body_at w f i ++ bodies w f (suc i) k

pub record Laid (f : List ℕ) : Type 0 where
  -- the first body starts after the table, each other one where the one before ends
  pub first : 0 < count_of f → (row_of f 0).ad_at ≡ row_start (row_size_of f) (count_of f)
  pub next : (i : ℕ) → suc i < count_of f → (row_of f (suc i)).ad_at ≡ body_end (row_of f i)
  -- no two overlap
  pub apart : (i j : ℕ) → i < j → j < count_of f → body_end (row_of f i) ≤ (row_of f j).ad_at
  -- the last ends where the file ends
  pub last : (i : ℕ) → suc i ≡ count_of f → body_end (row_of f i) ≡ length f
  -- the file is its header and table, then the bodies, and nothing else
  pub whole : f ≡ take (row_start (row_size_of f) (count_of f)) f ++ bodies (row_size_of f) f 0 (count_of f)

-- this holds of every file that passes
abbrev pub BodiesLaid : Type 0
BodiesLaid = (f : List ℕ) → (check_file f).number ≡ 0 → Laid f
