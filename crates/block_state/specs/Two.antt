-- The two states that the code's state holds.
use Rattle.std.specs.Prelude.{◌≡◌, ℕ, ◌-◌, take, drop, replicate}
use Rattle.block.specs.declared.Block.{Block}
use Rattle.block.specs.Blocks.{wide}
use Rattle.block.specs.Words.{add}
use Rattle.cipher.specs.Cipher.{size_of, version_of, cipher_of}
use Rattle.mode.specs.Walk.{States, block_z, image_of}
use Rattle.block_state.specs.declared.State.{State}

-- Y in the first bytes of y, as many as the suite's block has, and Z
abbrev pub two_of : ℕ → State → States
two_of suite s = record { Y = take (size_of suite) (wide s.y); Z = wide s.z }

-- the bytes of a block that the suite does not use are zero
abbrev pub Clean : ℕ → Block → Type 0
Clean suite x = drop (size_of suite) (wide x) ≡ replicate (16 - size_of suite) 0

-- the code's state holds these two states, after k cipher calls, and nothing else
pub record Holds (suite : ℕ) (r : State) (t : States) (k : ℕ) : Type 0 where
  pub two : two_of suite r ≡ t
  pub clean : Clean suite r.y
  pub made : r.calls ≡ k

-- one call more, modulo 2^64
abbrev pub one_more_of : ℕ → ℕ
one_more_of k = add 64 k 1

-- X instead of Y, and the Z that is kept, for a block with the mark m
abbrev pub imaged : ℕ → ℕ → States → States
imaged suite m s = record { Y = image_of (cipher_of suite) m s; Z = block_z (version_of suite) m s.Z }
