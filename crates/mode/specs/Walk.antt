-- The chain, processed block by block: the two states Y and Z before and after each block, and the output for it. A step does
-- not depend on later blocks, so a text may come in parts.
use Rattle.std.specs.Prelude.{ℕ, ◌*◌, ◌/◌, Bool, false, cond, List, [], ◌∷◌, ◌++◌, length, take, drop}
use Rattle.block.specs.Words.{xor}
use Rattle.block.specs.Xors.{xors}
use Rattle.cipher.specs.Cipher.{Cipher, Version, one, two}
use Rattle.mode.specs.Blocks.{blocks}
use Rattle.mode.specs.Words.{shuffle, pad}
use Rattle.mode.specs.Keys.{short_mark, placed, marked, next_key, keys}
use Rattle.mode.specs.Mode.{Chain, start_y, start_z}

-- the two states
pub record States : Type 0 where
  pub Y : List ℕ
  pub Z : List ℕ

-- the chain that they represent, if blocks with the marks ms and the tag are still to come
abbrev pub chain_of : Version → States → List ℕ → Chain
chain_of v s ms = record { Y = s.Y; left = keys v s.Z (placed v ms) }

-- the whole blocks of a text, and the bytes after them, fewer than a block
unfoldable pub whole : ℕ → List ℕ → List ℕ
whole n l = take (length l / n * n) l

unfoldable pub rest : ℕ → List ℕ → List ℕ
rest n l = drop (length l / n * n) l

-- the key of a block with the mark m: version 2 holds the mark back
abbrev pub block_key : Version → ℕ → List ℕ → List ℕ
block_key one m z = next_key one m z
block_key two m z = next_key two 0 z

-- the Z that is kept after a block with the key k and the mark m: version 2 applies the mark now
abbrev pub kept_behind : Version → ℕ → List ℕ → List ℕ
kept_behind one m k = k
kept_behind two m k = marked m k

-- the Z that is kept after a block
abbrev pub block_z : Version → ℕ → List ℕ → List ℕ
block_z v m z = kept_behind v m (block_key v m z)

module _ (κ : Cipher) where
  -- the mark of a block: `first` if it is the first, and `short` if it is short
  abbrev pub mark_of : ℕ → ℕ → List ℕ → ℕ
  mark_of first short b = xor first (short_mark κ.size short (length b))

  -- X = E(block key, Y)
  abbrev pub image_of : ℕ → States → List ℕ
  image_of m s = κ.E (block_key κ.version m s.Z) s.Y

  -- a block is absorbed under the mark m: Y = X XOR padded block
  unfoldable pub turned : ℕ → States → List ℕ → States
  turned m s b = record { Y = xors (image_of m s) (pad κ.size b); Z = block_z κ.version m s.Z }

  -- the output for a block of text: the block XOR as many first bytes of shuffle(X)
  unfoldable pub hidden : ℕ → States → List ℕ → List ℕ
  hidden m s b = xors b (shuffle κ.size (image_of m s))

  -- the message block, which is absorbed: when sealing the block itself, when opening the output
  abbrev pub message_of : Bool → ℕ → States → List ℕ → List ℕ
  message_of opening m s b = cond opening (hidden m s b) b

  -- the states after the blocks of a text, of which the first has the mark `first`
  unfoldable pub walked : Bool → ℕ → ℕ → States → List (List ℕ) → States
  walked opening first short s [] = s
  walked opening first short s (b ∷ bs) =
      let m : ℕ = mark_of first short b in
      walked opening 0 short (turned m s (message_of opening m s b)) bs

  -- the output text for them
  unfoldable pub covered : Bool → ℕ → ℕ → States → List (List ℕ) → List ℕ
  covered opening first short s [] = []
  covered opening first short s (b ∷ bs) =
      let m : ℕ = mark_of first short b in
      hidden m s b ++ covered opening 0 short (turned m s (message_of opening m s b)) bs

  -- the tag: the last call, under the last mark
  unfoldable pub tagged : States → List ℕ
  tagged s = κ.E (next_key κ.version 0x80 s.Z) s.Y

  module _ (key nonce : List ℕ) where
    -- the initial states for a key and a nonce
    abbrev pub origin : States
    origin = record { Y = start_y κ key nonce; Z = start_z κ key nonce }

    -- the states after associated data a: its blocks are absorbed as a message's are when sealing
    abbrev pub data_done : List ℕ → States
    data_done a = walked false 0x08 0x10 origin (blocks κ.size a)
