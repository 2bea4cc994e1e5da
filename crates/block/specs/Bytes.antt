-- Bytes and the words they form: byte 0 is the least significant, and word 0 comes first (document 01, "Bytes, words and the two states").
use Rattle.std.specs.Prelude.{Bool, true, false, ◌&&◌, List, [], ◌∷◌, ℕ, zero, suc, ◌+◌, ◌*◌, ◌/◌, ◌%◌, ◌<◌, eqb, get_or}

-- every element is a byte: past the end `get_or` gives 0
abbrev pub AllBytes : List ℕ → Type 0
AllBytes l = (i : ℕ) → get_or l i 0 < 256

-- the number whose bytes these are
unfoldable pub value : List ℕ → ℕ
value [] = 0
value (b ∷ bs) = b + 256 * value bs

-- the n low bytes of a number
unfoldable pub bytes : ℕ → ℕ → List ℕ
bytes zero x = []
bytes (suc n) x = x % 256 ∷ bytes n (x / 256)

-- the n elements of a list from index i on
abbrev pub part : ℕ → List ℕ → ℕ → List ℕ
part zero l i = []
part (suc n) l i = get_or l i 0 ∷ part n l (i + 1)

-- the word of n bytes at offset i of a list of bytes
abbrev pub word : ℕ → List ℕ → ℕ → ℕ
word n l i = value (part n l i)

-- whether two lists of bytes are equal
abbrev pub same_bytes : List ℕ → List ℕ → Bool
same_bytes [] [] = true
same_bytes [] (y ∷ ys) = false
same_bytes (x ∷ xs) [] = false
same_bytes (x ∷ xs) (y ∷ ys) = eqb x y && same_bytes xs ys
