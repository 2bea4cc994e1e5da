-- Bytes written at their offsets into a list of unchanged length.
use Rattle.std.specs.Prelude.{ℕ, zero, suc, ◌+◌, List, ◌++◌, length, take, drop}

-- the list with x from `at` on
unfoldable pub put : List ℕ → ℕ → List ℕ → List ℕ
put l at x = take at l ++ (x ++ drop (at + length x) l)

-- the list with each of the first k pieces written from its start on
unfoldable pub put_all : (ℕ → ℕ) → (ℕ → List ℕ) → ℕ → List ℕ → List ℕ
put_all start piece zero l = l
put_all start piece (suc k) l = put (put_all start piece k l) (start k) (piece k)
