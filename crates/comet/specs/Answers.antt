-- The contents of every buffer after a call of sealer and opener, by its status (document 01, "Numbers given by sealer and opener").
use Rattle.std.specs.Prelude.{Bool, true, false, ℕ, zero, suc, List, length, replicate}
use Rattle.block.specs.Bytes.{same_bytes}
use Rattle.cipher.specs.Cipher.{cipher_of}
use Rattle.status.specs.Verdicts.{refusal}
use Rattle.mode.specs.Mode.{ciphertext, tag, text_out, tag_out}

-- the status, output and tag of a sealer call
pub record Sealed : Type 0 where
  pub number : ℕ
  pub out : List ℕ
  pub tag : List ℕ

-- on 0 the ciphertext and the tag; on any other number both buffers unchanged
abbrev pub sealed_as : ℕ → List ℕ → List ℕ → List ℕ → List ℕ → Sealed
sealed_as zero text tag out₀ tag₀ = record { number = 0; out = text; tag = tag }
sealed_as (suc j) text tag out₀ tag₀ = record { number = suc j; out = out₀; tag = tag₀ }

-- what a call of the sealer leaves; out₀ and tag₀ are the contents of output and tag buffer before it
unfoldable pub sealing : ℕ → List ℕ → List ℕ → List ℕ → List ℕ → List ℕ → List ℕ → Sealed
sealing s key nonce ad msg out₀ tag₀ =
    sealed_as (refusal false s (length key) (length nonce) (length ad) (length msg) (length out₀) (length tag₀))
    (ciphertext (cipher_of s) key nonce ad msg) (tag (cipher_of s) key nonce ad msg) out₀ tag₀

-- the status and output of an opener call
pub record Opened : Type 0 where
  pub number : ℕ
  pub out : List ℕ

-- on 0 with the right tag the message; on 0 with a wrong tag 8, and every byte 0; any other number leaves the output unchanged
abbrev pub opened_as : ℕ → Bool → List ℕ → List ℕ → Opened
opened_as zero true text out₀ = record { number = 0; out = text }
opened_as zero false text out₀ = record { number = 8; out = replicate (length out₀) 0 }
opened_as (suc j) right text out₀ = record { number = suc j; out = out₀ }

-- what a call of the opener leaves; out₀ is the contents of the output before it
unfoldable pub opening : ℕ → List ℕ → List ℕ → List ℕ → List ℕ → List ℕ → List ℕ → Opened
opening s key nonce ad text tag out₀ =
    opened_as (refusal true s (length key) (length nonce) (length ad) (length text) (length out₀) (length tag))
    (same_bytes (tag_out (cipher_of s) true key nonce ad text) tag) (text_out (cipher_of s) true key nonce ad text) out₀

-- the verifier's status: the opener's, for an output of the text's length, so never 6
unfoldable pub verifying : ℕ → List ℕ → List ℕ → List ℕ → List ℕ → List ℕ → ℕ
verifying s key nonce ad text tag = (opening s key nonce ad text tag text).number
