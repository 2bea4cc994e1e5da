-- The status and output of a move (document 02, W10): the source's own checks, 35, 20, 6, in this order.
use Rattle.std.specs.Prelude.{ℕ, ◌-◌, not, cond, List, length, eqb, ltb, Result}
use Rattle.status.specs.declared.checked.Answer.{Answer}
use Rattle.shift_check.specs.Search.{first_of}
use Rattle.shift_format.specs.Format.{edition_of, count_of, first_edition, newest, station_of}
use Rattle.status.specs.Answers.{answer, outcome_answer, refusal_answer}
use Rattle.shift_check.specs.Check.{head_number, and_then, check_as}
use Rattle.shift_editions.specs.declared.answers.MoveError.{MoveError}
use Rattle.shift_editions.specs.declared.answers.MoveError.TheVariants.{Refused, Station, Room}
use Rattle.shift_editions.specs.Files.{moved}

-- number and row of each refusal; a move that would make the file too long is refused like a file that is too long
abbrev pub move_answer : MoveError → Answer
move_answer (Refused x) = refusal_answer x
move_answer (Station i) = answer 35 i
move_answer Room = answer 6 0

abbrev pub moved_answer : Result Unit MoveError → Answer
moved_answer = outcome_answer move_answer

-- 35: the first row of n, from row i on, whose station is not 0
unfoldable pub stations_from : List ℕ → ℕ → ℕ → Answer
stations_from f n i = first_of (λ j. not (eqb (station_of f j) 0)) (answer 35) (answer 0 0) i (n - i)

-- 20 (the moved file would pass 1,048,576 bytes), 6 (the output is not as long as it), from the two lengths
unfoldable pub length_answer : ℕ → ℕ → Answer
length_answer new out = cond (ltb 1048576 new) (answer 20 0) (cond (not (eqb out new)) (answer 6 0) (answer 0 0))

-- the edition that a file is moved to: the other of the two
abbrev pub other : List ℕ → ℕ
other f = cond (eqb (edition_of f) newest) first_edition newest

-- how long the file is in that edition; 0 if one of 20 to 24 applies
unfoldable pub moved_length_of : List ℕ → ℕ
moved_length_of f = cond (eqb (head_number first_edition newest f) 0) (length (moved (other f) f)) 0

-- to edition 2: the checks of edition 1, then 20, 6
unfoldable pub up_answer : List ℕ → ℕ → Answer
up_answer f out = and_then (check_as first_edition f) (length_answer (length (moved newest f)) out)

-- back to edition 1: the checks of edition 2, 35, then 6; 20 cannot occur, since the file gets no longer
unfoldable pub back_answer : List ℕ → ℕ → Answer
back_answer f out = and_then (check_as newest f) (and_then (stations_from f (count_of f) 0) (length_answer (length (moved first_edition f)) out))

-- the status of a move, and its output afterwards
pub record FileMoved : Type 0 where
  pub answer : Answer
  pub out : List ℕ

-- 0 writes all of it, any other number leaves the output unchanged
abbrev pub moves : Answer → List ℕ → List ℕ → FileMoved
moves x done out₀ = record { answer = x; out = cond (eqb x.number 0) done out₀ }

unfoldable pub to_edition2_of : List ℕ → List ℕ → FileMoved
to_edition2_of f out₀ = moves (up_answer f (length out₀)) (moved newest f) out₀

unfoldable pub to_edition1_of : List ℕ → List ℕ → FileMoved
to_edition1_of f out₀ = moves (back_answer f (length out₀)) (moved first_edition f) out₀
