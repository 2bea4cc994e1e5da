-- The result of processing the whole blocks of a text.
use Rattle.std.specs.Prelude.{◌≡◌, Bool, cond, List, ℕ, ◌-◌, length, drop, replicate, ltb}
use Rattle.block.specs.Blocks.{wide}
use Rattle.block.specs.Words.{add}
use Rattle.cipher.specs.Cipher.{size_of, cipher_of}
use Rattle.mode.specs.Blocks.{blocks}
use Rattle.mode.specs.Walk.{whole, walked}
use Rattle.block_state.specs.declared.State.{State}
use Rattle.block_state.specs.Two.{two_of}
use Rattle.block_walk.specs.declared.Progress.{Progress}

-- the whole blocks of a text, one by one
abbrev pub wholes : ℕ → List ℕ → List (List ℕ)
wholes n l = blocks n (whole n l)

-- r is the result of processing the whole blocks of l from the state s, the first under the mark m. No whole block has the
-- short mark, whatever it is. If there is no whole block, the mark and the bytes of y that Y does not use are unchanged; else
-- there is no mark and these bytes are zero
pub record Passed (suite : ℕ) (d : Bool) (m : ℕ) (s : State) (l : List ℕ) (r : Progress) : Type 0 where
  pub two : (short : ℕ) → two_of suite r.s ≡ walked (cipher_of suite) d m short (two_of suite s) (wholes (size_of suite) l)
  pub beside : drop (size_of suite) (wide r.s.y) ≡ cond (ltb (length l) (size_of suite)) (drop (size_of suite) (wide s.y)) (replicate (16 - size_of suite) 0)
  pub made : r.s.calls ≡ add 64 s.calls (length (wholes (size_of suite) l))
  pub next : r.mark ≡ cond (ltb (length l) (size_of suite)) m 0
  pub gone : r.at ≡ length (whole (size_of suite) l)
