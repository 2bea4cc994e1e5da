-- Speck-64/128 of the Speck paper, in the words of document 01, "The four ciphers": words of 32 bits, 27 rounds.
use Rattle.std.specs.Prelude.{List, ◌++◌, ℕ, zero, suc}
use Rattle.block.specs.Words.{rotl, rotr, add, xor}
use Rattle.block.specs.Bytes.{bytes, word}

-- the state (X1, X0)
pub record State : Type 0 where
  pub x1 : ℕ
  pub x0 : ℕ

-- the state of the key schedule at round i: R(i), L(i), L(i + 1), L(i + 2)
pub record Schedule : Type 0 where
  pub r : ℕ
  pub l0 : ℕ
  pub l1 : ℕ
  pub l2 : ℕ

-- s = ((X1 rotated right 8) + X0) XOR R
abbrev pub upper : ℕ → ℕ → ℕ → ℕ
upper x1 x0 r = xor (add 32 (rotr 32 8 x1) x0) r

-- (X0 rotated left 3) XOR s
abbrev pub lower : ℕ → ℕ → ℕ → ℕ
lower x1 x0 r = xor (rotl 32 3 x0) (upper x1 x0 r)

-- a round gives (s, (X0 rotated left 3) XOR s)
abbrev pub round : State → ℕ → State
round x r = record { x1 = upper x.x1 x.x0 r; x0 = lower x.x1 x.x0 r }

-- R(0) = K0, L(0) = K1, L(1) = K2, L(2) = K3
abbrev pub start : List ℕ → Schedule
start key = record { r = word 4 key 0; l0 = word 4 key 4; l1 = word 4 key 8; l2 = word 4 key 12 }

-- L(i + 3) = (R(i) + (L(i) rotated right 8)) XOR i
abbrev pub next_l : ℕ → ℕ → ℕ → ℕ
next_l r l i = xor (add 32 r (rotr 32 8 l)) i

-- R(i + 1) = (R(i) rotated left 3) XOR L(i + 3)
abbrev pub next_r : ℕ → ℕ → ℕ → ℕ
next_r r l i = xor (rotl 32 3 r) (next_l r l i)

-- the next state of the schedule
abbrev pub next : Schedule → ℕ → Schedule
next k i = record { r = next_r k.r k.l0 i; l0 = k.l1; l1 = k.l2; l2 = next_l k.r k.l0 i }

-- the schedule at round i, from the one at round 0
unfoldable pub schedule : Schedule → ℕ → Schedule
schedule k zero = k
schedule k (suc i) = next (schedule k i) i

-- the state after i rounds: round i takes R(i)
unfoldable pub rounds : Schedule → State → ℕ → State
rounds k x zero = x
rounds k x (suc i) = round (rounds k x i) (schedule k i).r

-- the words of a block, word 0 first
abbrev pub state_of : List ℕ → State
state_of block = record { x1 = word 4 block 4; x0 = word 4 block 0 }

-- and its bytes
abbrev pub bytes_of : State → List ℕ
bytes_of x = bytes 4 x.x0 ++ bytes 4 x.x1

-- the encryption of a block of 8 bytes under a key of 16
unfoldable pub speck : List ℕ → List ℕ → List ℕ
speck key block = bytes_of (rounds (start key) (state_of block) 27)
