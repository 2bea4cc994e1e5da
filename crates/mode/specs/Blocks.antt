-- A text cut into its blocks of n bytes, from its start; the last may be short, and an empty text has none (document 01, "Bytes, words and the two states").
use Rattle.std.specs.Prelude.{ℕ, zero, suc, ◌-◌, min, List, [], ◌∷◌, length, take, drop}

-- the first blocks, at most f of them
unfoldable pub chop : ℕ → ℕ → List ℕ → List (List ℕ)
chop n zero t = []
chop n (suc f) [] = []
chop n (suc f) (x ∷ xs) = take n (x ∷ xs) ∷ chop n f (drop n (x ∷ xs))

-- all blocks: there are never more of them than bytes
unfoldable pub blocks : ℕ → List ℕ → List (List ℕ)
blocks n t = chop n (length t) t

-- the first lengths, at most f of them
unfoldable pub chop_lengths : ℕ → ℕ → ℕ → List ℕ
chop_lengths n zero l = []
chop_lengths n (suc f) zero = []
chop_lengths n (suc f) (suc l) = min n (suc l) ∷ chop_lengths n f (suc l - n)

-- the lengths of the blocks of l bytes
unfoldable pub lengths : ℕ → ℕ → List ℕ
lengths n l = chop_lengths n l l
