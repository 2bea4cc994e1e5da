-- The exclusive or of two strings of bytes.
use Rattle.std.specs.Prelude.{List, [], ◌∷◌, ℕ}
use Rattle.block.specs.Words.{xor}

-- byte by byte; the result is as long as the shorter of the two
abbrev pub xors : List ℕ → List ℕ → List ℕ
xors [] t = []
xors (a ∷ s) [] = []
xors (a ∷ s) (b ∷ t) = xor a b ∷ xors s t
