-- Document 01's number and row for each case of the check's answers: 25 to 30 and 34 carry the row, every other number 0.
use Rattle.std.specs.Prelude.{ℕ, ◌≤◌, ◌≡◌, ◌⊎◌, Result, Ok, Err}
use Rattle.status.specs.declared.checked.Answer.{Answer}
use Rattle.status.specs.declared.checked.Fault.{Fault}
use Rattle.status.specs.declared.checked.Fault.TheVariants.{Order, Suite, Length, Place, Unread, Nonce, Data}
use Rattle.status.specs.declared.checked.Refusal.{Refusal}
use Rattle.status.specs.declared.checked.Refusal.TheVariants.{Size, Edition, Count, Total, Table, InRow, End}

-- a number and the row that it carries
abbrev pub answer : ℕ → ℕ → Answer
answer m i = record { number = m; row = i }

-- an outcome: its error's answer, else number 0 and row 0
abbrev pub outcome_answer : {E : Type 0} → (E → Answer) → Result Unit E → Answer
outcome_answer answer_of (Ok x) = answer 0 0
outcome_answer answer_of (Err e) = answer_of e

-- from low to high, or 34
abbrev pub Ranged : ℕ → ℕ → ℕ → Type 0
Ranged low high m = ((low ≤ m) × (m ≤ high)) ⊎ (m ≡ 34)

-- what is wrong with a row
abbrev pub fault_number : Fault → ℕ
fault_number Order = 25
fault_number Suite = 26
fault_number Length = 27
fault_number Place = 28
fault_number Unread = 34
fault_number Nonce = 29
fault_number Data = 30

-- the check of one row
abbrev pub row_number_of : Result Unit Fault → ℕ
row_number_of (Ok x) = 0
row_number_of (Err x) = fault_number x

-- why a file is refused
abbrev pub refusal_answer : Refusal → Answer
refusal_answer Size = answer 20 0
refusal_answer Edition = answer 21 0
refusal_answer Count = answer 22 0
refusal_answer Total = answer 23 0
refusal_answer Table = answer 24 0
refusal_answer (InRow x i) = answer (fault_number x) i
refusal_answer End = answer 31 0

-- the full check
abbrev pub checked_answer : Result Unit Refusal → Answer
checked_answer = outcome_answer refusal_answer
