-- Each of the four ciphers keeps the promise, by its own theorems.
use mathlib.Core.Path.{◌≡◌}
use mathlib.Core.List.{List}
use Prim.Native.Nat.{ℕ, ◌*◌, ◌/◌, ◌%◌, ◌≤◌}
use native.Mathlib.Omega.{arith}
use Rattle.aes_spec.specs.Cipher.{cipher}
use Rattle.aes_spec.proofs.Injective as aes
use Rattle.cham_spec.specs.Cham.{cham}
use Rattle.cham_spec.proofs.Injective as cham-laws
use Rattle.speck.specs.Speck.{speck}
use Rattle.speck.proofs.Injective as speck-laws
use Rattle.cipher.specs.Cipher.{Block, Lawful, image_of, Facts, size_of, engine_of, cipher_of}
use Rattle.cipher.proofs.Suites.{Engine, each, sizes_two}

-- what the promise says of an engine on blocks of n bytes
record Good (n : ℕ) (e : Engine) : Type 0 where
  image : (k b : List ℕ) → Block 16 k → Block n b → Block n (e k b)
  one-to-one : (k b b' : List ℕ) → Block 16 k → Block n b → Block n b' → e k b ≡ e k b' → b ≡ b'

aes_good : Good 16 cipher
aes_good = record {
  image = λ k b hk hb.
      let i = aes.image k b hb.long hk.bytes hb.bytes in
      record { long = i.0; bytes = i.1 };
  one-to-one = λ k b b' hk hb hb'. aes.injective k b b' hb.long hb'.long hk.bytes hb.bytes hb'.bytes;
}

speck_good : Good 8 speck
speck_good = record {
  image = λ k b hk hb.
      let i = speck-laws.image k b in
      record { long = i.0; bytes = i.1 };
  one-to-one = λ k b b' hk hb hb'. speck-laws.injective k b b' hk.bytes hb.long hb'.long hb.bytes hb'.bytes;
}

-- at either width
cham_good : (w : ℕ) → 8 ≤ w → w % 8 ≡ 0 → Good (4 * (w / 8)) (cham w)
cham_good w wide even = record {
  image = λ k b hk hb.
      let i = cham-laws.image w k b in
      record { long = i.0; bytes = i.1 };
  one-to-one = λ k b b' hk hb hb'. cham-laws.injective w wide even k b b' hb.long hb'.long hb.bytes hb'.bytes;
}

abbrev Keeps : Facts → Type 0
Keeps f = Good f.block (image_of f.engine)

good : (s : ℕ) → Good (size_of s) (engine_of s)
unfolding size_of engine_of
good = each Keeps aes_good (cham_good 32 (omega arith) (omega arith)) speck_good (cham_good 16 (omega arith) (omega arith)) aes_good speck_good

pub lawful : (s : ℕ) → Lawful (cipher_of s)
lawful s = record { sizes = sizes_two s; image = (good s).image; one-to-one = (good s).one-to-one }
