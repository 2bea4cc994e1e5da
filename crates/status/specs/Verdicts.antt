-- The numbers that sealer and opener give, and their order (document 01, "Numbers given by sealer and opener"; document 02, W7 for 10).
use Rattle.std.specs.Prelude.{Bool, cond, not, ◌||◌, ℕ, ltb, eqb, ⊤, Ok, Err}
use Rattle.std.specs.declared.result.Result.{Result}
use Rattle.cipher.specs.Cipher.{is_suite, seals, size_of, nonce_of, limit}
use Rattle.status.specs.declared.verdict.RecordError.{RecordError}
use Rattle.status.specs.declared.verdict.RecordError.TheVariants.{Suite, Key, Nonce, Data, Text, Room, Tag, Forged, Retired}

-- the status of a call: done, or why it was refused
abbrev pub Verdict : Type 0
Verdict = Result ⊤ RecordError

-- the number of each refusal
abbrev pub error_number : RecordError → ℕ
error_number Suite = 1
error_number Key = 2
error_number Nonce = 3
error_number Data = 4
error_number Text = 5
error_number Room = 6
error_number Tag = 7
error_number Forged = 8
error_number Retired = 10

-- the number of each answer
abbrev pub number_of : Verdict → ℕ
number_of (Ok x) = 0
number_of (Err e) = error_number e

-- opening accepts every suite that exists; sealing accepts one that seals
abbrev pub takes : Bool → ℕ → Bool
takes opening suite = opening || seals suite

-- numbers 1, 10, 2 and 3 of every call under a key (10 if the call does not accept the suite), from the suite and the
-- lengths of key and nonce: the first that applies, else the call's own number
abbrev pub under_key : Bool → ℕ → ℕ → ℕ → ℕ → ℕ
under_key taken suite key nonce own =
    cond (not (is_suite suite)) 1
    (cond (not taken) 10
    (cond (not (eqb key 16)) 2
    (cond (not (eqb nonce (nonce_of suite))) 3
    own)))

-- numbers 4 to 7, from the suite and the lengths of associated data, text, output and tag: the first that applies, 0 if none does
abbrev pub texts_number : ℕ → ℕ → ℕ → ℕ → ℕ → ℕ
texts_number suite ad text out tag =
    cond (ltb limit ad) 4
    (cond (ltb limit text) 5
    (cond (not (eqb out text)) 6
    (cond (not (eqb tag (size_of suite))) 7
    0)))

-- numbers 1, 10 and 2 to 7, from the suite and the lengths of key, nonce, associated data, text, output and tag: the first that applies, 0 if none does
unfoldable pub refusal : Bool → ℕ → ℕ → ℕ → ℕ → ℕ → ℕ → ℕ → ℕ
refusal opening suite key nonce ad text out tag = under_key (takes opening suite) suite key nonce (texts_number suite ad text out tag)
