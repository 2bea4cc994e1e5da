-- Document 02, W9: version 2 of COMET, for suites 5 and 6. Demands 2 and 3, the session's cutting and the writer's round
-- trips are stated for every suite, these two among them.
use Rattle.std.specs.Prelude.{List, [], ◌∷◌, ◌≡◌, ℕ, ◌-◌, ◌^◌}
use Rattle.aes_spec.specs.Cipher.{cipher}
use Rattle.cham_spec.specs.Cham.{cham}
use Rattle.speck.specs.Speck.{speck}
use Rattle.cipher.specs.Cipher.{two, Facts, facts, facts_of, cipher_of}
use Rattle.mode.specs.Words.{double120}
use Rattle.mode.specs.Keys.{marks, doubled}
use Rattle.mode.specs.VersionOne.{Keeps}

-- ---- suites 1 to 4 keep their bytes: ciphertext and tag are those of version 1 as document 01 has it
-- (`mode/specs/VersionOne.antt`), over the cipher and block of its table, in sealing and in opening

pub record VersionOne : Type 0 where
  pub suite1 : Keeps (cipher_of 1) 16 cipher
  pub suite2 : Keeps (cipher_of 2) 16 (cham 32)
  pub suite3 : Keeps (cipher_of 3) 8 speck
  pub suite4 : Keeps (cipher_of 4) 8 (cham 16)

-- ---- suites 5 and 6: cipher and sizes of suites 1 and 3, in version 2

abbrev pub in_two : Facts → Facts
in_two f = facts f.block f.nonce f.tag two f.engine

pub record VersionTwo : Type 0 where
  pub five : facts_of 5 ≡ in_two (facts_of 1)
  pub six : facts_of 6 ≡ in_two (facts_of 3)

-- ---- values of the two components that version 2 changes

-- what the definitions give
abbrev pub given_two : List (List ℕ)
given_two =
    -- doubling: 1, the top bit, all ones
    (double120 1 ∷ [])
    ∷ (double120 (2 ^ 119) ∷ [])
    ∷ (double120 (2 ^ 120 - 1) ∷ [])
    -- of Z, its top bit and byte 15 set: byte 15 stays
    ∷ doubled two (0 ∷ 0 ∷ 0 ∷ 0 ∷ 0 ∷ 0 ∷ 0 ∷ 0x80 ∷ 0 ∷ 0 ∷ 0 ∷ 0 ∷ 0 ∷ 0 ∷ 0x80 ∷ 0x81 ∷ [])
    -- marks in blocks of 16: nothing; 17 bytes of associated data alone; 1 byte of it alone; 16 bytes of message alone; 20 and 33 bytes
    ∷ marks two 16 0 0
    ∷ marks two 16 17 0
    ∷ marks two 16 1 0
    ∷ marks two 16 0 16
    ∷ marks two 16 20 33
    ∷ []

-- the values of the paper's two components, computed by hand
abbrev pub stated_two : List (List ℕ)
stated_two =
    (2 ∷ [])
    ∷ (0x245 ∷ [])
    ∷ (0xff_ffff_ffff_ffff_ffff_ffff_ffff_fdbb ∷ [])
    ∷ (0x45 ∷ 0x02 ∷ 0 ∷ 0 ∷ 0 ∷ 0 ∷ 0 ∷ 0 ∷ 0x01 ∷ 0 ∷ 0 ∷ 0 ∷ 0 ∷ 0 ∷ 0 ∷ 0x81 ∷ [])
    ∷ (0x80 ∷ [])
    ∷ (0 ∷ 0x08 ∷ 0x90 ∷ [])
    ∷ (0 ∷ 0x98 ∷ [])
    ∷ (0 ∷ 0xa0 ∷ [])
    ∷ (0 ∷ 0x08 ∷ 0x10 ∷ 0x20 ∷ 0 ∷ 0xc0 ∷ [])
    ∷ []

abbrev pub ValuesTwo : Type 0
ValuesTwo = given_two ≡ stated_two
