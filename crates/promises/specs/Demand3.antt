-- Demand 3: a change inside one block changes the tag. `ChangedIn` (`mode/specs/Slips.antt`): two texts of one length that
-- differ, and every byte that differs is inside block j. That the opener's routine gives what `opening` says is
-- `Routines.antt`'s.
use Rattle.std.specs.Prelude.{◌≡◌, ◌⊎◌, ℕ, ◌+◌, ◌*◌, ◌≤◌, ◌<◌, List, [], length, replicate}
use Rattle.cipher.specs.Cipher.{cipher_of, size_of}
use Rattle.mode.specs.Mode.{tag}
use Rattle.mode.specs.Slips.{ChangedIn}
use Rattle.comet.specs.Answers.{opening}
use Rattle.promises.specs.Input.{Texts, Input}

-- one suite, key and nonce; two inputs of equal lengths that differ, every difference inside block j of the message or inside
-- block j of the associated data: the specification's tags differ
abbrev pub OneBlock : Type 0
OneBlock =
    (suite : ℕ) (key nonce ad ad' msg msg' : List ℕ) (j : ℕ) → Texts suite key nonce ad msg → Texts suite key nonce ad' msg'
    → ((ad ≡ ad') × ChangedIn (size_of suite) j msg msg')
    ⊎ ((msg ≡ msg') × ChangedIn (size_of suite) j ad ad')
    → tag (cipher_of suite) key nonce ad msg ≡ tag (cipher_of suite) key nonce ad' msg' → ⊥

-- an accepted record whose last ciphertext block alone is altered is refused with 8, and the output is all zero
abbrev pub LastBlock : Type 0
LastBlock =
    (suite : ℕ) (key nonce ad c c' t out₀ out₁ : List ℕ) (j : ℕ) → Input suite key nonce ad c → Input suite key nonce ad c'
    → length out₀ ≡ length c → length out₁ ≡ length c' → length t ≡ size_of suite
    → (opening suite key nonce ad c t out₀).number ≡ 0
    → ChangedIn (size_of suite) j c c'
    → j * size_of suite < length c → length c ≤ j * size_of suite + size_of suite
    → opening suite key nonce ad c' t out₁ ≡ record { number = 8; out = replicate (length out₁) 0 }

-- an accepted record with an empty message, one block of whose associated data is altered, is refused with 8
abbrev pub EmptyMessage : Type 0
EmptyMessage =
    (suite : ℕ) (key nonce ad ad' t out₀ out₁ : List ℕ) (j : ℕ) → Input suite key nonce ad [] → Input suite key nonce ad' []
    → length out₀ ≡ 0 → length out₁ ≡ 0 → length t ≡ size_of suite
    → (opening suite key nonce ad [] t out₀).number ≡ 0
    → ChangedIn (size_of suite) j ad ad'
    → opening suite key nonce ad' [] t out₁ ≡ record { number = 8; out = replicate (length out₁) 0 }
