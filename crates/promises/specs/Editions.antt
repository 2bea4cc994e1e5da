-- Document 02, W10: edition 2 of the shift file. Each statement, with the definitions that it uses, is in `shift_editions/specs/Promised.antt`.
use Rattle.std.specs.Prelude.{◌≡◌, List, ℕ}
use Rattle.status.specs.Answers.{answer}
use Rattle.shift_compare.specs.Comparing.{refused_in, stopped, comparison}
use Rattle.shift_editions.specs.Answers.{to_edition2_of, to_edition1_of}
use Rattle.shift_editions.specs.Promised.{ThereAndBack, BackAndThere, UpPasses, BackPasses, BackShort, LengthTold, UpRises, BackFalls, UpKeeps, BackKeeps}
use Rattle.shift_editions.specs.Promised.{UpReads, BackReads}

-- compare (W8) of a file and its moved file: three empty lists, so that buffers of any length suffice and stay unchanged
abbrev pub Equal : List ℕ → List ℕ → Type 0
Equal f g = (x y z : List ℕ) → comparison f g x y z ≡ stopped (refused_in 0 (answer 0 0)) x y z

abbrev pub UpEqual : Type 0
UpEqual = (f out₀ : List ℕ) → (to_edition2_of f out₀).answer.number ≡ 0 → Equal f (to_edition2_of f out₀).out

abbrev pub BackEqual : Type 0
BackEqual = (f out₀ : List ℕ) → (to_edition1_of f out₀).answer.number ≡ 0 → Equal f (to_edition1_of f out₀).out

pub record Editions : Type 0 where
  -- moving there and back gives the old file, and so does moving back and there
  pub there_and_back : ThereAndBack
  pub back_and_there : BackAndThere
  -- the moved file passes the checks of its edition
  pub up_passes : UpPasses
  pub back_passes : BackPasses
  -- total length and offsets rise by 4n, and fall by it going back; the bodies are kept
  pub up_rises : UpRises
  pub back_falls : BackFalls
  -- all else of a row is as before, and so is its body
  pub up_keeps : UpKeeps
  pub back_keeps : BackKeeps
  -- going back, 20 cannot occur after the checks
  pub back_short : BackShort
  -- and `moved_length` of a file is the length of the moved file
  pub length_told : LengthTold
  -- lookup, search, associated data and opening give on the moved file what they gave
  pub up_reads : UpReads
  pub back_reads : BackReads
  -- and compare finds no difference
  pub up_equal : UpEqual
  pub back_equal : BackEqual
