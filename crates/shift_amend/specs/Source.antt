-- The files of an amendment and a day: their numbers (document 02, W11), and which of two files a number names.
use Rattle.std.specs.Prelude.{ℕ, cond, eqb}
use Rattle.shift_amend.specs.declared.Source.{Source}
use Rattle.shift_amend.specs.declared.Source.TheVariants.{Neither, Amendment, Day}

-- 0 if neither has the job, 1 the amendment, 2 the day's
abbrev pub file_number : Source → ℕ
file_number Neither = 0
file_number Amendment = 1
file_number Day = 2

-- the file that was looked up: the day's also where neither has the job
abbrev pub file_of : {A : Type 0} → ℕ → A → A → A
file_of k a d = cond (eqb k 1) a d
