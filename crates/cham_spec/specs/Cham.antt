-- CHAM of the original CHAM paper, in the words of document 01, "The four ciphers": words of w bits, a key of k = 128 bits, 80 rounds.
-- w = 16 is CHAM-64/128 (suite 4), w = 32 is CHAM-128/128 (suite 2).
use Rattle.std.specs.Prelude.{List, ◌++◌, ℕ, zero, suc, ◌+◌, ◌*◌, ◌/◌, ◌%◌, get_or, set, replicate}
use Rattle.block.specs.Words.{rotl, add, xor}
use Rattle.block.specs.Bytes.{bytes, word}

-- the state: four words
pub record State : Type 0 where
  pub s0 : ℕ
  pub s1 : ℕ
  pub s2 : ℕ
  pub s3 : ℕ

abbrev pub state : ℕ → ℕ → ℕ → ℕ → State
state a b c d = record { s0 = a; s1 = b; s2 = c; s3 = d }

-- ---- the round keys

-- word i of the key, Ki
abbrev pub key_word : ℕ → List ℕ → ℕ → ℕ
key_word w key i = word (w / 8) key (w / 8 * i)

-- Ki XOR (Ki rotated left 1) XOR (Ki rotated left t)
abbrev pub mixed : ℕ → ℕ → ℕ → ℕ
mixed w t ki = xor (xor ki (rotl w 1 ki)) (rotl w t ki)

-- the index of the second round key of Ki: (i + k/w) XOR 1
abbrev pub second_place : ℕ → ℕ → ℕ
second_place w i = xor (i + 128 / w) 1

-- the 2k/w round keys, written for the first words of the key: with t = 8 at index i, with t = 11 at the second index
unfoldable pub placed : ℕ → List ℕ → ℕ → List ℕ
placed w key zero = replicate (2 * 128 / w) 0
placed w key (suc i) = set (set (placed w key i) i (mixed w 8 (key_word w key i))) (second_place w i) (mixed w 11 (key_word w key i))

-- all of them: i runs from 0 to k/w - 1
abbrev pub round_keys : ℕ → List ℕ → List ℕ
round_keys w key = placed w key (128 / w)

-- ---- the rounds

-- ((S0 XOR i) + ((S1 rotated left p) XOR R)) rotated left q
abbrev pub turned : ℕ → ℕ → ℕ → ℕ → ℕ → ℕ → ℕ → ℕ
turned w p q s0 s1 r i = rotl w q (add w (xor s0 i) (xor (rotl w p s1) r))

-- the new word 3: in even round i the rotations are by 1 and 8, in odd i by 8 and 1
abbrev pub new_word : ℕ → ℕ → ℕ → ℕ → ℕ → ℕ → ℕ
new_word w zero s0 s1 r i = turned w 1 8 s0 s1 r i
new_word w (suc odd) s0 s1 r i = turned w 8 1 s0 s1 r i

-- round i: the other words move down by one
abbrev pub round : ℕ → ℕ → ℕ → State → State
round w r i s = state s.s1 s.s2 s.s3 (new_word w (i % 2) s.s0 s.s1 r i)

-- the state after i rounds: R is round key i modulo 2k/w
unfoldable pub rounds : ℕ → List ℕ → State → ℕ → State
rounds w keys s zero = s
rounds w keys s (suc i) = round w (get_or keys (i % (2 * 128 / w)) 0) i (rounds w keys s i)

-- ---- the cipher

-- the words of a block, word 0 first
abbrev pub state_of : ℕ → List ℕ → State
state_of w block = state (word (w / 8) block 0) (word (w / 8) block (w / 8)) (word (w / 8) block (2 * (w / 8))) (word (w / 8) block (3 * (w / 8)))

-- and its bytes
abbrev pub bytes_of : ℕ → State → List ℕ
bytes_of w s = bytes (w / 8) s.s0 ++ bytes (w / 8) s.s1 ++ bytes (w / 8) s.s2 ++ bytes (w / 8) s.s3

-- the encryption of a block of four words under a key of 16 bytes
unfoldable pub cham : ℕ → List ℕ → List ℕ → List ℕ
cham w key block = bytes_of w (rounds w (round_keys w key) (state_of w block) 80)
