-- Version 1 of COMET, frozen: document 01, "Bytes, words and the two states", sentence by sentence. It names no version, and
-- no other definition uses it; `KeptBytes` says that the mode gives its bytes. Blocks, padding and shuffle are what both
-- versions share.
use Rattle.std.specs.Prelude.{◌≡◌, ℕ, ◌*◌, ◌%◌, ◌^◌, ◌<◌, Bool, cond, List, [], ◌∷◌, ◌++◌, length, get_or, set, take, drop, replicate, eqb, ltb, leb}
use Rattle.block.specs.Words.{xor}
use Rattle.block.specs.Bytes.{value, bytes}
use Rattle.block.specs.Xors.{xors}
use Rattle.cipher.specs.Cipher.{Cipher, one}
use Rattle.mode.specs.Blocks.{blocks}
use Rattle.mode.specs.Words.{shuffle, pad}
use Rattle.mode.specs.Mode.{text_out, tag_out}

-- doubling of a 64-bit number: shift left by one; if the dropped bit was 1, XOR 0x1b
abbrev pub twice : ℕ → ℕ
twice x = cond (leb (2 ^ 63) x) (xor (x * 2 % 2 ^ 64) 0x1b) (x * 2 % 2 ^ 64)

-- the low 64 bits doubled, the high half kept
abbrev pub low_twice : List ℕ → List ℕ
low_twice z = bytes 8 (twice (value (take 8 z))) ++ drop 8 z

-- next block key: the mark, XORed into byte 15 of Z, then the doubling; the new Z is kept
abbrev pub next_z : ℕ → List ℕ → List ℕ
next_z mark z = low_twice (set z 15 (xor (get_or z 15 0) mark))

-- the mode carries Y and Z
pub record Carried : Type 0 where
  pub Y : List ℕ
  pub Z : List ℕ

abbrev pub carried : List ℕ → List ℕ → Carried
carried y z = record { Y = y; Z = z }

-- over a cipher with blocks of n bytes
module _ (n : ℕ) (E : List ℕ → List ℕ → List ℕ) where
  -- start, if a block has 16 bytes: Y = key, Z = E(key, nonce); else Y = E(key, eight zero bytes), Z = key, XORed with the nonce in bytes 0 to 14
  abbrev pub begin : List ℕ → List ℕ → Carried
  begin key nonce = cond (eqb n 16) (carried key (E key nonce)) (carried (E key (replicate 8 0)) (xors (take 15 key) nonce ++ drop 15 key))

  -- the marks before a block: `first` before the first, `short` before the last one if it is short
  abbrev pub marks_of : ℕ → ℕ → List ℕ → ℕ
  marks_of first short b = xor first (cond (ltb (length b) n) short 0)

  -- Z and X = E(Z, Y) of a block
  abbrev pub block_z : ℕ → ℕ → Carried → List ℕ → List ℕ
  block_z first short s b = next_z (marks_of first short b) s.Z

  abbrev pub block_x : ℕ → ℕ → Carried → List ℕ → List ℕ
  block_x first short s b = E (block_z first short s b) s.Y

  -- the blocks of the associated data: Y = X XOR padded I
  unfoldable pub data_in : ℕ → Carried → List (List ℕ) → Carried
  data_in first s [] = s
  data_in first s (I ∷ Is) = data_in 0 (carried (xors (block_x first 0x10 s I) (pad n I)) (block_z first 0x10 s I)) Is

  -- the output for a block of text: the block XOR as many first bytes of shuffle(X); the ciphertext when sealing, the message when opening
  abbrev pub goes_out : ℕ → Carried → List ℕ → List ℕ
  goes_out first s b = xors b (shuffle n (block_x first 0x40 s b))

  -- Y = X XOR padded M; opening recovers M first
  abbrev pub text_step : Bool → ℕ → Carried → List ℕ → Carried
  text_step opening first s b = carried (xors (block_x first 0x40 s b) (pad n (cond opening (goes_out first s b) b))) (block_z first 0x40 s b)

  unfoldable pub text_in : Bool → ℕ → Carried → List (List ℕ) → Carried
  text_in opening first s [] = s
  text_in opening first s (b ∷ bs) = text_in opening 0 (text_step opening first s b) bs

  unfoldable pub all_out : Bool → ℕ → Carried → List (List ℕ) → List ℕ
  all_out opening first s [] = []
  all_out opening first s (b ∷ bs) = goes_out first s b ++ all_out opening 0 (text_step opening first s b) bs

  -- 0x08 before the first block of the associated data, 0x20 before the first of the message
  abbrev pub behind_data : List ℕ → List ℕ → List ℕ → Carried
  behind_data key nonce ad = data_in 0x08 (begin key nonce) (blocks n ad)

  -- the whole output text
  abbrev pub text_was : Bool → List ℕ → List ℕ → List ℕ → List ℕ → List ℕ
  text_was opening key nonce ad text = all_out opening 0x20 (behind_data key nonce ad) (blocks n text)

  -- the tag: E(Z, Y) after the last mark, 0x80, and doubling
  abbrev pub last_call : Carried → List ℕ
  last_call s = E (next_z 0x80 s.Z) s.Y

  abbrev pub tag_was : Bool → List ℕ → List ℕ → List ℕ → List ℕ → List ℕ
  tag_was opening key nonce ad text = last_call (text_in opening 0x20 (behind_data key nonce ad) (blocks n text))

-- the mode over a cipher κ gives these bytes, in both directions
abbrev pub Keeps : Cipher → ℕ → (List ℕ → List ℕ → List ℕ) → Type 0
Keeps κ n E =
    (opening : Bool) (key nonce ad text : List ℕ)
    → (text_out κ opening key nonce ad text ≡ text_was n E opening key nonce ad text)
    × (tag_out κ opening key nonce ad text ≡ tag_was n E opening key nonce ad text)

-- in version 1, whatever the cipher
abbrev pub KeptBytes : Type 0
KeptBytes = (n : ℕ) (E : List ℕ → List ℕ → List ℕ) → 0 < n → Keeps (record { size = n; E = E; version = one }) n E
