-- What a block cipher promises, and the cipher of each suite (document 01, "What we build").
use Rattle.std.specs.Prelude.{◌≡◌, List, [], ◌⊎◌, ℕ, leb, eqb, length, get_or, Bool, true, false, cond, ◌&&◌, not}
use Rattle.block.specs.Bytes.{AllBytes}
use Rattle.aes_spec.specs.Cipher.{cipher}
use Rattle.aes_tables.specs.Tables.{IsTables}
use Rattle.cham_spec.specs.Cham.{cham}
use Rattle.speck.specs.Speck.{speck}

-- a block of n bytes
pub record Block (n : ℕ) (b : List ℕ) : Type 0 where
  pub long : length b ≡ n
  pub bytes : AllBytes b

-- the versions of COMET: 1 is source 000's, 2 is source 004's
pub data Version : Type 0 where
  one : Version
  two : Version

-- what the mode is built over: a block cipher, by its block size and the encryption of a block under a key, and the version
pub record Cipher : Type 0 where
  pub size : ℕ
  pub E : List ℕ → List ℕ → List ℕ
  pub version : Version

-- what the cipher promises: blocks of 16 or 8 bytes, encryptions are blocks, and under each key encryption is injective
pub record Lawful (κ : Cipher) : Type 0 where
  pub sizes : (κ.size ≡ 16) ⊎ (κ.size ≡ 8)
  pub image : (k b : List ℕ) → Block 16 k → Block κ.size b → Block κ.size (κ.E k b)
  pub one-to-one : (k b b' : List ℕ) → Block 16 k → Block κ.size b → Block κ.size b' → κ.E k b ≡ κ.E k b' → b ≡ b'

-- the four block ciphers
pub data BlockCipher : Type 0 where
  aes128 : BlockCipher
  cham128 : BlockCipher
  speck64 : BlockCipher
  cham64 : BlockCipher

-- the encryption of a block under a key
abbrev pub image_of : BlockCipher → List ℕ → List ℕ → List ℕ
image_of aes128 = cipher
image_of cham128 = cham 32
image_of speck64 = speck
image_of cham64 = cham 16

-- whether the engine reads lookup tables: that of AES does, the others do not
abbrev pub has_tables : BlockCipher → Bool
has_tables aes128 = true
has_tables cham128 = false
has_tables speck64 = false
has_tables cham64 = false

-- what a suite has: block, nonce and tag in bytes, its version of COMET, and its cipher
pub record Facts : Type 0 where
  pub block : ℕ
  pub nonce : ℕ
  pub tag : ℕ
  pub version : Version
  pub engine : BlockCipher

abbrev pub facts : ℕ → ℕ → ℕ → Version → BlockCipher → Facts
facts b n t v e = record { block = b; nonce = n; tag = t; version = v; engine = e }

-- the most bytes of associated data, and the most of a message (document 01, numbers 4 and 5)
abbrev pub limit : ℕ
limit = 65536

-- document 01's table, a line for each suite: AES-128 for 1, CHAM-128/128 for 2, Speck-64/128 for 3, CHAM-64/128 for 4; then
-- version 2 over AES-128 for 5, and over Speck-64/128 for 6 (document 02, W9)
unfoldable pub facts_of : ℕ → Facts
facts_of s =
    cond (leb s 1) (facts 16 16 16 one aes128)
    (cond (leb s 2) (facts 16 16 16 one cham128)
    (cond (leb s 3) (facts 8 15 8 one speck64)
    (cond (leb s 4) (facts 8 15 8 one cham64)
    (cond (leb s 5) (facts 16 16 16 two aes128)
    (facts 8 15 8 two speck64)))))

-- a suite that exists; the table's facts of any other number are never used
unfoldable pub is_suite : ℕ → Bool
is_suite s = leb 1 s && leb s 6

abbrev pub IsSuite : ℕ → Type 0
IsSuite s = is_suite s ≡ true

-- suite 4 is retired (document 02, W7): it still opens, but no longer seals
abbrev pub retired_suite : ℕ
retired_suite = 4

unfoldable pub retired : ℕ → Bool
retired s = eqb s retired_suite

-- a suite that seals: one that exists and is not retired
unfoldable pub seals : ℕ → Bool
seals s = is_suite s && not (retired s)

abbrev pub Seals : ℕ → Type 0
Seals s = seals s ≡ true

-- the bytes of a suite's block, and of its nonce
unfoldable pub size_of : ℕ → ℕ
size_of s = (facts_of s).block

unfoldable pub nonce_of : ℕ → ℕ
nonce_of s = (facts_of s).nonce

-- its encryption of a block under a key, its version, and both with the block size: what the mode is built over
unfoldable pub engine_of : ℕ → List ℕ → List ℕ → List ℕ
engine_of s = image_of (facts_of s).engine

unfoldable pub version_of : ℕ → Version
version_of s = (facts_of s).version

abbrev pub cipher_of : ℕ → Cipher
cipher_of s = record { size = size_of s; E = engine_of s; version = version_of s }

-- whether it is version 2
abbrev pub is_two : Version → Bool
is_two one = false
is_two two = true

-- whether the suite's engine reads the tables of AES
unfoldable pub needs_tables : ℕ → Bool
needs_tables s = has_tables (facts_of s).engine

-- one set of tables, which obeys the rule of the tables
abbrev pub Full : List (List (List ℕ)) → Type 0
Full t = (length t ≡ 1) × IsTables (get_or t 0 [])

-- the tables that a caller passes are those that the suite's engine reads
pub record TablesFit (s : ℕ) (t : List (List (List ℕ))) : Type 0 where
  pub full : needs_tables s ≡ true → Full t
