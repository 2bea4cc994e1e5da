-- One number for a string of bytes, by which a long output is compared.
use Rattle.std.specs.Prelude.{ℕ, ◌+◌, ◌*◌, ◌%◌, List, [], ◌∷◌}

-- the fold s with the byte b after it, modulo the largest prime below 2 ^ 32
abbrev pub next : ℕ → ℕ → ℕ
next s b = (s * 257 + b + 1) % 4294967291

unfoldable pub fold_from : ℕ → List ℕ → ℕ
fold_from s [] = s
fold_from s (b ∷ bs) = fold_from (next s b) bs

abbrev pub fold_of : List ℕ → ℕ
fold_of bs = fold_from 0 bs
