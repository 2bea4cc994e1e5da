-- Demand 2: for a suite that seals, sealing gives exactly COMET's ciphertext and tag; for every suite that we have, opening
-- accepts exactly the specification's pairs, those that sealing makes from some message, and returns that message. Of suite 4,
-- which is retired, it speaks of opening alone (document 02, W7). That the routines give what `sealing` and `opening` say is
-- `Routines.antt`'s.
use Rattle.std.specs.Prelude.{◌≡◌, ◌↔◌, ℕ, List, length}
use Rattle.block.specs.Bytes.{AllBytes}
use Rattle.cipher.specs.Cipher.{Seals, cipher_of, size_of}
use Rattle.mode.specs.Mode.{ciphertext, tag}
use Rattle.comet.specs.Answers.{sealing, opening}
use Rattle.promises.specs.Input.{Input}

-- the sealer's outputs are the specification's, if the suite seals
abbrev pub Sealing : Type 0
Sealing =
    (suite : ℕ) (key nonce ad msg out₀ tag₀ : List ℕ) → Input suite key nonce ad msg → Seals suite → length out₀ ≡ length msg → length tag₀ ≡ size_of suite
    → sealing suite key nonce ad msg out₀ tag₀ ≡ record {
      number = 0;
      out = ciphertext (cipher_of suite) key nonce ad msg;
      tag = tag (cipher_of suite) key nonce ad msg;
    }

-- a pair (c, t) is accepted exactly if it is the specification's for some message
abbrev pub Accepting : Type 0
Accepting =
    (suite : ℕ) (key nonce ad c t out₀ : List ℕ) → Input suite key nonce ad c → length out₀ ≡ length c → length t ≡ size_of suite
    → ((opening suite key nonce ad c t out₀).number ≡ 0)
    ↔ ((m : List ℕ) × AllBytes m × (ciphertext (cipher_of suite) key nonce ad m ≡ c) × (tag (cipher_of suite) key nonce ad m ≡ t))

-- for a suite that seals, stated of the sealer itself: the pair is accepted exactly if the sealer gives it, with 0, for some message
abbrev pub AcceptsSealed : Type 0
AcceptsSealed =
    (suite : ℕ) (key nonce ad c t out₀ : List ℕ) → Input suite key nonce ad c → Seals suite → length out₀ ≡ length c → length t ≡ size_of suite
    → ((opening suite key nonce ad c t out₀).number ≡ 0)
    ↔ ((m : List ℕ) × (out₁ : List ℕ) × (tag₁ : List ℕ) × AllBytes m × (sealing suite key nonce ad m out₁ tag₁ ≡ record { number = 0; out = c; tag = t }))

-- and that message is what the opener returns
abbrev pub Returning : Type 0
Returning =
    (suite : ℕ) (key nonce ad c t out₀ m : List ℕ) → Input suite key nonce ad c → length out₀ ≡ length c → length t ≡ size_of suite
    → AllBytes m → ciphertext (cipher_of suite) key nonce ad m ≡ c → tag (cipher_of suite) key nonce ad m ≡ t
    → opening suite key nonce ad c t out₀ ≡ record { number = 0; out = m }

-- so what was sealed opens, into any buffer of its length
abbrev pub RoundTrip : Type 0
RoundTrip =
    (suite : ℕ) (key nonce ad msg out₀ : List ℕ) → Input suite key nonce ad msg → length out₀ ≡ length msg
    → opening suite key nonce ad (ciphertext (cipher_of suite) key nonce ad msg) (tag (cipher_of suite) key nonce ad msg) out₀ ≡ record { number = 0; out = msg }
