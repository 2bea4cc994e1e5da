-- The input of a call: what the definition needs, and document 01's limits.
use Rattle.std.specs.Prelude.{◌≡◌, ℕ, ◌≤◌, List, length}
use Rattle.block.specs.Bytes.{AllBytes}
use Rattle.cipher.specs.Cipher.{IsSuite, nonce_of, limit}

-- a suite, a key and a nonce of it, associated data and a text, which is a message or a ciphertext
pub record Texts (suite : ℕ) (key nonce ad text : List ℕ) : Type 0 where
  pub suite-is : IsSuite suite
  pub key-bytes : AllBytes key
  pub key-length : length key ≡ 16
  pub nonce_bytes : AllBytes nonce
  pub nonce_length : length nonce ≡ nonce_of suite
  pub ad-bytes : AllBytes ad
  pub text-bytes : AllBytes text

-- the same within the limits of numbers 4 and 5: 65,536 bytes each
pub record Input (suite : ℕ) (key nonce ad text : List ℕ) : Type 0 where
  pub texts : Texts suite key nonce ad text
  pub ad-most : length ad ≤ limit
  pub text-most : length text ≤ limit
