-- W2 (document 02): sealing in parts. The statements on a run of a session are in `session/specs/Calls.antt`; here they are
-- gathered, with those that need the one-call sealer and the opener.
use Rattle.std.specs.Prelude.{◌≡◌, false, ℕ, ◌+◌, ◌-◌, ◌<◌, List, [], ◌∷◌, length, drop}
use Rattle.block.specs.Bytes.{AllBytes}
use Rattle.cipher.specs.Cipher.{size_of, limit}
use Rattle.comet.specs.Answers.{sealing, opening}
use Rattle.session.specs.Value.{Value, Given, gave, starting, data_part, text_part, ending}
use Rattle.session.specs.Calls.{SessionCall, AllInBytes, Run, run_of, joined, Starts, RefusedShut, Goes, Whatever}
use Rattle.promises.specs.Tables.{◌when◌, Table}
use Rattle.promises.specs.Numbers.{tag_size}

-- P holds of every run whose start and end answered 0, with the result of that end
abbrev pub OfRuns : (ℕ → List ℕ → List ℕ → Run → Given → Type 0) → Type 0
OfRuns P =
    (suite : ℕ) (key nonce : List ℕ) (cs : List SessionCall) (out₀ tag₀ : List ℕ) → AllBytes key → AllBytes nonce → AllInBytes cs
    → (starting suite key nonce).number ≡ 0
    → (ending (run_of suite key nonce cs).now out₀ tag₀).number ≡ 0
    → P suite key nonce (run_of suite key nonce cs) (ending (run_of suite key nonce cs).now out₀ tag₀)

-- whatever the cutting, one call of the sealer takes the joined texts and gives the joined ciphertext and the tag
abbrev pub AsOneCall : Type 0
AsOneCall =
    OfRuns (λ suite key nonce r e.
    (out₁ tag₁ : List ℕ) → length out₁ ≡ length r.msg → length tag₁ ≡ size_of suite
    → sealing suite key nonce r.ad r.msg out₁ tag₁ ≡ record { number = 0; out = joined r e; tag = e.tag })

-- and one call of the opener gives the joined message back
abbrev pub OpensWhole : Type 0
OpensWhole =
    OfRuns (λ suite key nonce r e.
    (out₁ : List ℕ) → length out₁ ≡ length r.msg
    → opening suite key nonce r.ad (joined r e) e.tag out₁ ≡ record { number = 0; out = r.msg })

-- the numbers of a run's next call, on the lengths of the joined texts: associated data 9 first of all, once a message byte
-- has come, and then 4; a message part 5, 6; the end 6, 7
pub record NextNumbers (suite : ℕ) (r : Run) : Type 0 where
  pub associated : (p : List ℕ) → Table (λ k. (data_part r.now p).number ≡ k) (
      (9 when (length r.msg ≡ 0 → ⊥))
      ∷ (4 when limit < length r.ad + length p)
      ∷ []
      )
  pub message : (p out : List ℕ) → Table (λ k. (text_part r.now p out).number ≡ k) (
      (5 when limit < length r.msg + length p)
      ∷ (6 when length out < length p + (size_of suite - 1))
      ∷ []
      )
  pub finish : (out tag : List ℕ) → Table (λ k. (ending r.now out tag).number ≡ k) (
      (6 when length out < size_of suite)
      ∷ (7 when (length tag ≡ tag_size suite → ⊥))
      ∷ []
      )

-- after a start with status 0 and any calls, until an end is accepted; afterwards every call is 9 (`Goes`)
abbrev pub RunNumbers : Type 0
RunNumbers =
    (suite : ℕ) (key nonce : List ℕ) (cs : List SessionCall) → AllBytes key → AllBytes nonce → AllInBytes cs
    → (starting suite key nonce).number ≡ 0 → (run_of suite key nonce cs).ended ≡ false → NextNumbers suite (run_of suite key nonce cs)

-- a refused call leaves session and buffers unchanged, length 0, whatever value arrives
abbrev pub Keeps : Type 0
Keeps =
    (v : Value)
    → ((p : List ℕ) → ((data_part v p).number ≡ 0 → ⊥) → ((data_part v p).next ≡ v) × ((data_part v p).count ≡ 0))
    × ((p out : List ℕ) → ((text_part v p out).number ≡ 0 → ⊥) → ((text_part v p out).next ≡ v) × ((text_part v p out).count ≡ 0) × ((text_part v p out).out ≡ out))
    × ((out tag : List ℕ) → ((ending v out tag).number ≡ 0 → ⊥)
    → ((ending v out tag).next ≡ v) × ((ending v out tag).count ≡ 0) × ((ending v out tag).out ≡ out) × ((ending v out tag).tag ≡ tag))

-- an empty message part changes nothing, whatever value arrives: no byte is written, and the session returned is the one that
-- came in, so it does not begin the message
abbrev pub EmptyPart : Type 0
EmptyPart = (v : Value) (out : List ℕ) → text_part v [] out ≡ gave (text_part v [] out).number 0 v out []

-- bytes of the output that are not written stay: all those after the first `count`
abbrev pub Untouched : Type 0
Untouched =
    (v : Value)
    → ((p out : List ℕ) → drop (text_part v p out).count (text_part v p out).out ≡ drop (text_part v p out).count out)
    × ((out tag : List ℕ) → drop (ending v out tag).count (ending v out tag).out ≡ drop (ending v out tag).count out)

pub record Sessions : Type 0 where
  pub starts : Starts
  pub refused_shut : RefusedShut
  pub goes : Goes
  pub numbers : RunNumbers
  pub whatever : Whatever
  pub as_one_call : AsOneCall
  pub opens_whole : OpensWhole
  pub keeps : Keeps
  pub empty_part : EmptyPart
  pub untouched : Untouched
