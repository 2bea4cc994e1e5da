-- The writer's status and output (document 02, W4; W7 for 10): the checks, 33, 10, 2, 6, 8, in this order.
use Rattle.std.specs.Prelude.{ℕ, ◌-◌, Bool, true, not, cond, List, length, replicate, eqb}
use Rattle.block.specs.Bytes.{same_bytes}
use Rattle.cipher.specs.Cipher.{seals, size_of}
use Rattle.status.specs.declared.checked.Answer.{Answer}
use Rattle.shift_check.specs.Search.{first_of}
use Rattle.shift_format.specs.Format.{count_of, first_edition, row_of, tag_of}
use Rattle.status.specs.Answers.{answer}
use Rattle.shift_check.specs.Check.{and_then, check_as}
use Rattle.shift_draft.specs.Files.{draft_edition, entry_tag, sealed_file, draft_file}

-- whether the tag of row i has a byte that is not zero
unfoldable pub tag_set : List ℕ → ℕ → Bool
tag_set f i = not (same_bytes (tag_of f (row_of f i)) (replicate (size_of (row_of f i).suite) 0))

-- whether the suite of row i does not seal: it is retired
unfoldable pub row_retired : List ℕ → ℕ → Bool
row_retired f i = not (seals (row_of f i).suite)

-- whether the tag of row i is the one that opening computes
unfoldable pub tag_right : List ℕ → List ℕ → ℕ → Bool
tag_right f ring i = same_bytes (entry_tag true f ring i) (tag_of f (row_of f i))

-- 33: the first row of n, from row i on, whose tag is set
unfoldable pub set_from : List ℕ → ℕ → ℕ → Answer
set_from f n i = first_of (tag_set f) (answer 33) (answer 0 0) i (n - i)

-- 10: the first row of n, from row i on, whose suite is retired
unfoldable pub retired_from : List ℕ → ℕ → ℕ → Answer
retired_from f n i = first_of (row_retired f) (answer 10) (answer 0 0) i (n - i)

-- 8: the first row of n, from row i on, whose tag is wrong
unfoldable pub wrong_from : List ℕ → List ℕ → ℕ → ℕ → Answer
wrong_from f ring n i = first_of (λ j. not (tag_right f ring j)) (answer 8) (answer 0 0) i (n - i)

-- 2 (ring not 256 bytes), 6 (output not of the file's length), from the three lengths
unfoldable pub lent_answer : ℕ → ℕ → ℕ → Answer
lent_answer file ring out = cond (not (eqb ring 256)) (answer 2 0) (cond (not (eqb out file)) (answer 6 0) (answer 0 0))

-- sealing a draft: the checks with 0 for the edition, 33, 10, 2, 6
unfoldable pub seal_answer : List ℕ → ℕ → ℕ → Answer
seal_answer draft ring out =
    and_then (check_as draft_edition draft)
    (and_then (set_from draft (count_of draft) 0)
    (and_then (retired_from draft (count_of draft) 0)
    (lent_answer (length draft) ring out)))

-- unsealing a file: the checks, 2, 6
unfoldable pub open_answer : List ℕ → ℕ → ℕ → Answer
open_answer file ring out = and_then (check_as first_edition file) (lent_answer (length file) ring out)

-- and then 8
unfoldable pub unseal_answer : List ℕ → List ℕ → ℕ → Answer
unseal_answer file ring out = and_then (open_answer file (length ring) out) (wrong_from file ring (count_of file) 0)

-- the status of a call, and its output afterwards
pub record FileWritten : Type 0 where
  pub answer : Answer
  pub out : List ℕ

abbrev pub writes : Answer → List ℕ → FileWritten
writes x out = record { answer = x; out = out }

-- 0 writes all of it, 8 leaves every byte 0, any other number leaves the output unchanged
abbrev pub leaves : Answer → List ℕ → List ℕ → FileWritten
leaves x done out₀ = writes x (cond (eqb x.number 0) done (cond (eqb x.number 8) (replicate (length out₀) 0) out₀))

unfoldable pub file_sealing : List ℕ → List ℕ → List ℕ → FileWritten
file_sealing draft ring out₀ = leaves (seal_answer draft (length ring) (length out₀)) (sealed_file draft ring) out₀

unfoldable pub file_unsealing : List ℕ → List ℕ → List ℕ → FileWritten
file_unsealing file ring out₀ = leaves (unseal_answer file ring (length out₀)) (draft_file file ring) out₀
