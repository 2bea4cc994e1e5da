-- What the two states leave open in the code's state: the bytes of y that Y does not use, and the count of cipher calls.
use Rattle.std.specs.Prelude.{◌≡◌, List, ℕ, zero, suc, ◌-◌, drop, replicate}
use Rattle.block.specs.Blocks.{wide}
use Rattle.block.specs.Words.{add}
use Rattle.cipher.specs.Cipher.{size_of}
use Rattle.block_state.specs.declared.State.{State}

-- the unused bytes after k blocks: unchanged after none, else zero
abbrev pub unused : ℕ → ℕ → List ℕ → List ℕ
unused suite zero l = l
unused suite (suc k) l = replicate (16 - size_of suite) 0

-- r comes of s by k blocks, each of them one cipher call, counted modulo 2^64
pub record Counted (suite k : ℕ) (s r : State) : Type 0 where
  pub beside : drop (size_of suite) (wide r.y) ≡ unused suite k (drop (size_of suite) (wide s.y))
  pub made : r.calls ≡ add 64 s.calls k
