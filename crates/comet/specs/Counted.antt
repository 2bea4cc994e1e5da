-- How many cipher calls sealer and opener report (document 02, W12): the length of their list if the text was processed, 8
-- included, and 0 on the refusals before.
use Rattle.std.specs.Prelude.{Bool, true, false, ℕ, zero, suc, List, length}
use Rattle.cipher.specs.Cipher.{cipher_of}
use Rattle.mode.specs.Mode.{calls}
use Rattle.status.specs.Verdicts.{refusal}
use Rattle.comet.specs.Answers.{Sealed, sealing, Opened, opening}

-- the result of a call, and how many cipher calls it took
pub record Counting (A : Type 0) : Type 0 where
  pub leaves : A
  pub calls : ℕ

-- k calls if nothing was refused, else none
abbrev pub counted_as : ℕ → ℕ → ℕ
counted_as zero k = k
counted_as (suc j) k = 0

-- the reported number of cipher calls; `out` and `tag` are lengths
unfoldable pub calls_of : Bool → ℕ → List ℕ → List ℕ → List ℕ → List ℕ → ℕ → ℕ → ℕ
calls_of opening s key nonce ad text out tag =
    counted_as (refusal opening s (length key) (length nonce) (length ad) (length text) out tag) (length (calls (cipher_of s) opening key nonce ad text))

abbrev pub sealing_counted : ℕ → List ℕ → List ℕ → List ℕ → List ℕ → List ℕ → List ℕ → Counting Sealed
sealing_counted s key nonce ad msg out₀ tag₀ =
    record { leaves = sealing s key nonce ad msg out₀ tag₀; calls = calls_of false s key nonce ad msg (length out₀) (length tag₀) }

abbrev pub opening_counted : ℕ → List ℕ → List ℕ → List ℕ → List ℕ → List ℕ → List ℕ → Counting Opened
opening_counted s key nonce ad text tag out₀ =
    record { leaves = opening s key nonce ad text tag out₀; calls = calls_of true s key nonce ad text (length out₀) (length tag) }
