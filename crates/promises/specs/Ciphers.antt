-- Document 01, "What we build" and "The four ciphers": what the mode is promised by the cipher of every suite, and the rule of the S-box.
use Rattle.std.specs.Prelude.{◌≡◌, ℕ, ◌<◌}
use contract.Lifetimes.{Lfts}
use borrow.Fn.Kinds.{Dens}
use Rattle.block.specs.Outcome.{Outcome}
use Rattle.aes_spec.specs.Field.{IsInverse, inverse}
use Rattle.aes_spec.specs.Sbox.{IsSbox}
use Rattle.aes_plain.proofs.sbox_table.Kinds as sbox-kinds
use Rattle.aes_plain.proofs.sbox_table.Reads as sbox-reads
use Rattle.cipher.specs.Cipher.{IsSuite, Lawful, cipher_of}

-- "under each key no two blocks share an image": the cipher of every suite has blocks of 16 or 8 bytes, encrypts blocks to
-- blocks, and is injective under each key
abbrev pub AllLawful : Type 0
AllLawful = (suite : ℕ) → IsSuite suite → Lawful (cipher_of suite)

-- "all 256 entries obey the inverse-and-affine rule": of whatever `aes_plain::sbox_table` may return
abbrev pub SboxRule : Type 0
SboxRule = (κs : Lfts 0) (a : Dens κs sbox-kinds.ps) (x : Outcome sbox-kinds.ps sbox-kinds.r sbox-reads.Post κs a) → IsSbox x.result

-- the inverse in that rule is the multiplicative inverse of FIPS 197, 0 for 0, and there is no other
abbrev pub InverseRule : Type 0
InverseRule = (x : ℕ) → x < 256 → IsInverse x (inverse x) × ((y : ℕ) → IsInverse x y → y ≡ inverse x)

pub record Ciphers : Type 0 where
  pub all-lawful : AllLawful
  pub sbox-rule : SboxRule
  pub inverse-rule : InverseRule
