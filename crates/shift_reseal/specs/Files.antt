-- Every byte of what the reseal pass writes (document 02, W7): suite 4 entries are sealed again as suite 3, and every other byte is kept.
use Rattle.std.specs.Prelude.{ℕ, true, cond, List, [], ◌∷◌, eqb}
use Rattle.cipher.specs.Cipher.{retired_suite}
use Rattle.shift_format.specs.Format.{count_of, row_size_of, rest_start, row_of}
use Rattle.shift_draft.specs.Put.{put_all}
use Rattle.shift_draft.specs.Files.{piece_start, piece_as, entry_out}

-- the suite that follows the retired one
abbrev pub successor : ℕ
successor = 3

unfoldable pub new_suite : ℕ → ℕ
new_suite s = cond (eqb s retired_suite) successor s

-- a list of bytes with the new suites of the file's first n rows in its table
unfoldable pub resuited : List ℕ → ℕ → List ℕ → List ℕ
resuited f n l = put_all (rest_start (row_size_of f)) (λ i. new_suite (row_of f i).suite ∷ []) n l

-- the file with the new suites in its table
abbrev pub retabled : List ℕ → List ℕ
retabled f = resuited f (count_of f) f

-- what replaces text and tag of row i: for a suite 4 entry its message, sealed as suite 3 with the row's own key number,
-- nonce and associated data; for any other nothing, so they are kept
unfoldable pub again_piece : List ℕ → List ℕ → ℕ → List ℕ
again_piece f ring i = cond (eqb (row_of f i).suite retired_suite) (piece_as f ring i successor (entry_out true f ring i)) []

-- the resealed file
unfoldable pub resealed_file : List ℕ → List ℕ → List ℕ
resealed_file f ring = put_all (piece_start f) (again_piece f ring) (count_of f) (retabled f)
