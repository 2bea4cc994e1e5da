-- The starred values of document 01, "Values to test against", as one table: what the definitions give, row by row, and what the document says.
use Rattle.std.specs.Prelude.{List, [], ◌∷◌, ◌≡◌, ℕ}
use Rattle.aes_spec.specs.Sbox.{sub_byte}
use Rattle.cham_spec.specs.Cham.{second_place}
use Rattle.cipher.specs.Cipher.{cipher_of}
use Rattle.mode.specs.Words.{double, Four, four, shuffle_words, pad}
use Rattle.mode.specs.Keys.{marks}
use Rattle.status.specs.declared.checked.Answer.{Answer}
use Rattle.shift_check.specs.Check.{check_file}

-- four words as a row, the highest first
abbrev pub row : Four → List ℕ
row x = x.X3 ∷ x.X2 ∷ x.X1 ∷ x.X0 ∷ []

-- number and row of an answer of the shift file
abbrev pub answer_row : Answer → List ℕ
answer_row x = x.number ∷ x.row ∷ []

-- what the definitions give
abbrev pub given : List (List ℕ)
given =
    -- doubling
    (double 0 ∷ [])
    ∷ (double 1 ∷ [])
    ∷ (double 0x8000_0000_0000_0000 ∷ [])
    ∷ (double 0xffff_ffff_ffff_ffff ∷ [])
    -- shuffle of (1, 1, 2, 3), on 32-bit and on 16-bit words
    ∷ row (shuffle_words 32 (four 1 1 2 3))
    ∷ row (shuffle_words 16 (four 1 1 2 3))
    -- padding to 8: one byte, seven, eight
    ∷ pad 8 (0xaa ∷ [])
    ∷ pad 8 (1 ∷ 2 ∷ 3 ∷ 4 ∷ 5 ∷ 6 ∷ 7 ∷ [])
    ∷ pad 8 (1 ∷ 2 ∷ 3 ∷ 4 ∷ 5 ∷ 6 ∷ 7 ∷ 8 ∷ [])
    -- S-box of 00, 3a, ff
    ∷ (sub_byte 0x00 ∷ sub_byte 0x3a ∷ sub_byte 0xff ∷ [])
    -- CHAM's second-half key places: suite 2, i = 0 and 3; suite 4, i = 0, 1 and 7
    ∷ (second_place 32 0 ∷ second_place 32 3 ∷ [])
    ∷ (second_place 16 0 ∷ second_place 16 1 ∷ second_place 16 7 ∷ [])
    -- marks: suite 1, 17 bytes of associated data, no message
    ∷ marks (cipher_of 1).version (cipher_of 1).size 17 0
    -- the empty file, whole: the check's number and row
    ∷ answer_row (check_file (0x01 ∷ 0x00 ∷ 0x00 ∷ 0x00 ∷ 0x08 ∷ 0x00 ∷ 0x00 ∷ 0x00 ∷ []))
    ∷ []

-- what the document says
abbrev pub stated : List (List ℕ)
stated =
    (0 ∷ [])
    ∷ (2 ∷ [])
    ∷ (0x1b ∷ [])
    ∷ (0xffff_ffff_ffff_ffe5 ∷ [])
    ∷ (2 ∷ 3 ∷ 0x8000_0000 ∷ 1 ∷ [])
    ∷ (2 ∷ 3 ∷ 0x8000 ∷ 1 ∷ [])
    ∷ (0xaa ∷ 0x01 ∷ 0 ∷ 0 ∷ 0 ∷ 0 ∷ 0 ∷ 0 ∷ [])
    ∷ (1 ∷ 2 ∷ 3 ∷ 4 ∷ 5 ∷ 6 ∷ 7 ∷ 0x01 ∷ [])
    ∷ (1 ∷ 2 ∷ 3 ∷ 4 ∷ 5 ∷ 6 ∷ 7 ∷ 8 ∷ [])
    ∷ (0x63 ∷ 0x80 ∷ 0x16 ∷ [])
    ∷ (5 ∷ 6 ∷ [])
    ∷ (9 ∷ 8 ∷ 14 ∷ [])
    ∷ (0x08 ∷ 0x10 ∷ 0x80 ∷ [])
    ∷ (0 ∷ 0 ∷ [])
    ∷ []

-- the one statement
abbrev pub StarredValues : Type 0
StarredValues = given ≡ stated
