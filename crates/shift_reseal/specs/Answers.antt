-- The reseal pass's status and output (document 02, W7): the checks, 29, 2, 6, 8, in this order.
use Rattle.std.specs.Prelude.{ℕ, ◌-◌, Bool, not, ◌&&◌, List, length, eqb}
use Rattle.cipher.specs.Cipher.{retired_suite}
use Rattle.status.specs.declared.checked.Answer.{Answer}
use Rattle.shift_check.specs.Search.{first_of}
use Rattle.shift_format.specs.Format.{count_of, first_edition, row_size_of, row_of}
use Rattle.status.specs.Answers.{answer}
use Rattle.shift_check.specs.Check.{nonce_seen, and_then, check_as}
use Rattle.shift_draft.specs.Answers.{tag_right, lent_answer, FileWritten, leaves}
use Rattle.shift_reseal.specs.Files.{retabled, resealed_file}

-- 29: the first row of n, from row i on, that clashes with an earlier one, by the check's own rule
unfoldable pub seen_from : List ℕ → ℕ → ℕ → Answer
seen_from f n i = first_of (nonce_seen (row_size_of f) f) (answer 29) (answer 0 0) i (n - i)

-- whether row i has suite 4 and a wrong tag: no other row is opened
unfoldable pub wrong_again : List ℕ → List ℕ → ℕ → Bool
wrong_again f ring i = eqb (row_of f i).suite retired_suite && not (tag_right f ring i)

-- 8: the first such row of n, from row i on
unfoldable pub wrong_again_from : List ℕ → List ℕ → ℕ → ℕ → Answer
wrong_again_from f ring n i = first_of (wrong_again f ring) (answer 8) (answer 0 0) i (n - i)

-- the checks, 29 on the table after resealing, 2, 6
unfoldable pub take_answer : List ℕ → ℕ → ℕ → Answer
take_answer file ring out = and_then (check_as first_edition file) (and_then (seen_from (retabled file) (count_of file) 0) (lent_answer (length file) ring out))

-- and then 8
unfoldable pub reseal_answer : List ℕ → List ℕ → ℕ → Answer
reseal_answer file ring out = and_then (take_answer file (length ring) out) (wrong_again_from file ring (count_of file) 0)

unfoldable pub file_resealing : List ℕ → List ℕ → List ℕ → FileWritten
file_resealing file ring out₀ = leaves (reseal_answer file ring (length out₀)) (resealed_file file ring) out₀
