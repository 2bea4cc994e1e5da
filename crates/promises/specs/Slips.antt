-- Document 02, W13: when does a change go undetected?
use Rattle.std.specs.Prelude.{◌≡◌, ◌↔◌, ℕ, List, length}
use Rattle.cipher.specs.Cipher.{cipher_of, size_of}
use Rattle.mode.specs.Slips.{TwoBlocks, ComplementBytes, ComplementFrom, Changed, FullFrom}
use Rattle.mode.specs.Toy.{Toy}
use Rattle.comet.specs.Answers.{opening}
use Rattle.promises.specs.Input.{Input}

-- take an accepted record (its number is 0); at least one byte is changed, all inside one block of associated data or one of
-- ciphertext; lengths, key, nonce and tag stay, and every message block after the change is full.
-- It is accepted exactly if at some message block after the change the cipher outputs of the two openings are complements in every bit.
-- The request speaks of version 1, suites 1 to 4; it holds of suites 5 and 6 too, since equal lengths give equal keys in either version
abbrev pub SlipsPastOpener : Type 0
SlipsPastOpener =
    (suite : ℕ) (key nonce ad ad' c c' t out₀ out₁ : List ℕ) (first : ℕ) → Input suite key nonce ad c → Input suite key nonce ad' c'
    → length out₀ ≡ length c → length out₁ ≡ length c' → length t ≡ size_of suite
    → (opening suite key nonce ad c t out₀).number ≡ 0
    → Changed (size_of suite) ad ad' c c' first → FullFrom (size_of suite) first c
    → ((opening suite key nonce ad' c' t out₁).number ≡ 0) ↔ ComplementFrom (cipher_of suite) first key nonce ad c ad' c'

pub record Slips : Type 0 where
  -- the kernel of shuffle XOR identity has exactly two blocks: all zeros and all ones
  pub two_blocks : TwoBlocks
  -- blocks are complements exactly if each byte of one is 255 minus that of the other
  pub complement_bytes : ComplementBytes
  pub slips_through : SlipsPastOpener
  -- and over the identity, which is a lawful cipher, there are such records; a short block after the change exposes them
  pub toy : Toy
