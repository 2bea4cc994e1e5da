-- W13 by example: the identity is a lawful cipher, and over it undetected changes can be written down. It hides nothing and is not one of our suites.
use Rattle.std.specs.Prelude.{◌≡◌, true, List, [], ◌∷◌, ◌++◌, ℕ, replicate}
use Rattle.cipher.specs.Cipher.{Cipher, Lawful, one}
use Rattle.mode.specs.Mode.{tag_out}
use Rattle.mode.specs.Slips.{Complements, output_at}

-- blocks of 8 bytes, version 1
abbrev pub toy : Cipher
toy = record { size = 8; E = λ k b. b; version = one }

abbrev pub zeros : ℕ → List ℕ
zeros k = replicate k 0

abbrev pub ones : ℕ → List ℕ
ones k = replicate k 0xff

-- tag, and cipher output at message block i, of an opening under a key and a nonce of zeros
abbrev pub toy_tag : List ℕ → List ℕ → List ℕ
toy_tag ad c = tag_out toy true (zeros 16) (zeros 15) ad c

abbrev pub toy_output : List ℕ → List ℕ → ℕ → List ℕ
toy_output ad c i = output_at toy (zeros 16) (zeros 15) ad c i

pub record Toy : Type 0 where
  pub lawful : Lawful toy
  -- every bit of a block of associated data is changed, and the message block after it is full: complements there, and the same tag
  pub data-complements : Complements 8 (toy_output (zeros 8) (zeros 8) 0) (toy_output (ones 8) (zeros 8) 0)
  pub data-slips : toy_tag (zeros 8) (zeros 8) ≡ toy_tag (ones 8) (zeros 8)
  -- the same change with a short block after it: complements there, and the tags differ
  pub short-complements : Complements 8 (toy_output (zeros 8) (zeros 7) 0) (toy_output (ones 8) (zeros 7) 0)
  pub short-before : toy_tag (zeros 8) (zeros 7) ≡ zeros 7 ++ (0x01 ∷ [])
  pub short-caught : toy_tag (ones 8) (zeros 7) ≡ zeros 7 ++ (0xfe ∷ [])
  -- the same in the first block of a ciphertext, with a full block after it, and with a short one
  pub text-complements : Complements 8 (toy_output [] (zeros 8 ++ zeros 8) 1) (toy_output [] (ones 8 ++ zeros 8) 1)
  pub text-slips : toy_tag [] (zeros 8 ++ zeros 8) ≡ toy_tag [] (ones 8 ++ zeros 8)
  pub text-short-complements : Complements 8 (toy_output [] (zeros 8 ++ zeros 7) 1) (toy_output [] (ones 8 ++ zeros 7) 1)
  pub text-short-before : toy_tag [] (zeros 8 ++ zeros 7) ≡ zeros 7 ++ (0x01 ∷ [])
  pub text-short-caught : toy_tag [] (ones 8 ++ zeros 7) ≡ zeros 7 ++ (0xfe ∷ [])
