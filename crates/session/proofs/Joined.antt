-- The session's value as a function of the bytes that have come, with no word on how they were cut.
use Prim.Native.Nat.{ℕ}
use mathlib.Core.Bool.{false}
use mathlib.Core.List.{List, [], ◌∷◌}
use lib.ListN.{length}
use Rattle.block.specs.Blocks.{filled}
use Rattle.cipher.specs.Cipher.{Cipher, cipher_of}
use Rattle.mode.specs.Blocks.{blocks}
use Rattle.mode.specs.Walk.{States, whole, rest, walked, covered, origin, data_done}
use Rattle.session.specs.Value.{Value, value_of}

module _ (κ : Cipher) (key nonce : List ℕ) where
  -- the whole blocks of a are in, and none of the message
  abbrev pub data_so_far : List ℕ → States
  data_so_far a = walked κ false 0x08 0x10 (origin κ key nonce) (blocks κ.size (whole κ.size a))

  -- a is in, and the whole blocks of m
  abbrev pub text_so_far : List ℕ → List ℕ → States
  text_so_far a m = walked κ false 0x20 0x40 (data_done κ key nonce a) (blocks κ.size (whole κ.size m))

  -- the ciphertext of the whole blocks of m
  abbrev pub out_so_far : List ℕ → List ℕ → List ℕ
  out_so_far a m = covered κ false 0x20 0x40 (data_done κ key nonce a) (blocks κ.size (whole κ.size m))

  abbrev pub states_so_far : List ℕ → List ℕ → States
  states_so_far a [] = data_so_far a
  states_so_far a (x ∷ m) = text_so_far a (x ∷ m)

  abbrev pub held_so_far : List ℕ → List ℕ → List ℕ
  held_so_far a [] = rest κ.size a
  held_so_far a (x ∷ m) = rest κ.size (x ∷ m)

-- the value after associated data a and message m
unfoldable pub so_far : ℕ → List ℕ → List ℕ → List ℕ → List ℕ → Value
so_far suite key nonce a m =
    let κ : Cipher = cipher_of suite in
    value_of suite (states_so_far κ key nonce a m) (filled (held_so_far κ key nonce a m)) (length a) (length m)
