-- A run of a session: any calls in any order, refused ones too, and their joined output; and what holds for every run.
use Rattle.std.specs.Prelude.{ℕ, zero, suc, ◌+◌, ◌-◌, ◌*◌, ◌/◌, ◌%◌, ◌≤◌, ◌≡◌, Bool, true, false, List, [], ◌∷◌, ◌++◌, length, take}
use Rattle.block.specs.Bytes.{AllBytes}
use Rattle.cipher.specs.Cipher.{Seals, cipher_of, size_of, nonce_of, limit}
use Rattle.mode.specs.Mode.{ciphertext, tag}
use Rattle.session.specs.Value.{Value, Given, starting, data_part, text_part, ending}

-- a call, with the part or the buffers that it borrows
pub data SessionCall : Type 0 where
  associated : List ℕ → SessionCall
  message : List ℕ → List ℕ → SessionCall
  finish : List ℕ → List ℕ → SessionCall

-- the parts are bytes
abbrev pub InBytes : SessionCall → Type 0
InBytes (associated p) = AllBytes p
InBytes (message p out) = AllBytes p
InBytes (finish out tag) = Unit

abbrev pub AllInBytes : List SessionCall → Type 0
AllInBytes [] = Unit
AllInBytes (c ∷ cs) = InBytes c × AllInBytes cs

-- the current session; the accepted associated data, the accepted message and the ciphertext, each joined; whether an end was accepted
pub record Run : Type 0 where
  pub now : Value
  pub ad : List ℕ
  pub msg : List ℕ
  pub out : List ℕ
  pub ended : Bool

-- a part counts if it was accepted
abbrev pub accepted : ℕ → List ℕ → List ℕ
accepted zero p = p
accepted (suc k) p = []

-- the run has ended once an end was accepted
abbrev pub ended_by : ℕ → Bool → Bool
ended_by zero b = true
ended_by (suc k) b = b

unfoldable pub step : Run → SessionCall → Run
step r (associated p) =
    let g : Given = data_part r.now p in
    record { now = g.next; ad = r.ad ++ accepted g.number p; msg = r.msg; out = r.out; ended = r.ended }
step r (message p out) =
    let g : Given = text_part r.now p out in
    record { now = g.next; ad = r.ad; msg = r.msg ++ accepted g.number p; out = r.out ++ take g.count g.out; ended = r.ended }
step r (finish out tag) =
    let g : Given = ending r.now out tag in
    record { now = g.next; ad = r.ad; msg = r.msg; out = r.out ++ take g.count g.out; ended = ended_by g.number r.ended }

unfoldable pub run : Run → List SessionCall → Run
run r [] = r
run r (c ∷ cs) = run (step r c) cs

-- the run of a session that key and nonce start
abbrev pub run_of : ℕ → List ℕ → List ℕ → List SessionCall → Run
run_of suite key nonce cs = run (record { now = (starting suite key nonce).next; ad = []; msg = []; out = []; ended = false }) cs

-- the joined ciphertext, once the end gave the rest
abbrev pub joined : Run → Given → List ℕ
joined r e = r.out ++ take e.count e.out

-- key and nonce of the right lengths start a session of every suite that seals
abbrev pub Starts : Type 0
Starts = (suite : ℕ) (key nonce : List ℕ) → Seals suite → length key ≡ 16 → length nonce ≡ nonce_of suite → (starting suite key nonce).number ≡ 0

-- a session that answers 9 to every call
abbrev pub Shut : Value → Type 0
Shut v =
    ((p : List ℕ) → (data_part v p).number ≡ 9)
    × ((p out : List ℕ) → (text_part v p out).number ≡ 9)
    × ((out tag : List ℕ) → (ending v out tag).number ≡ 9)

-- every refused start returns such a session
abbrev pub RefusedShut : Type 0
RefusedShut = (suite : ℕ) (key nonce : List ℕ) → ((starting suite key nonce).number ≡ 0 → ⊥) → Shut (starting suite key nonce).next

-- what holds of a run of the suite that has not ended, and of its next call
pub record Next (suite : ℕ) (r : Run) : Type 0 where
  -- the suite is the start's and seals; the session's two totals are the lengths of the joined texts, which are within the limits
  pub seals : Seals suite
  pub suite-is : r.now.suite ≡ suite
  pub ad-total-is : r.now.ad_total ≡ length r.ad
  pub text-total-is : r.now.text_total ≡ length r.msg
  pub data-most : length r.ad ≤ limit
  pub text-most : length r.msg ≤ limit
  -- before the first message byte, associated data within the limit is accepted; after it, no part is, not even an empty one
  pub data-taken : (p : List ℕ) → r.msg ≡ [] → length r.ad + length p ≤ limit → (data_part r.now p).number ≡ 0
  pub data-late : (p : List ℕ) → (r.msg ≡ [] → ⊥) → (data_part r.now p).number ≡ 9
  -- a message part within the limit and with a large enough output is accepted, and gives the ciphertext of the blocks that it completes
  pub text-taken : (p out : List ℕ) → length r.msg + length p ≤ limit → length p + (size_of suite - 1) ≤ length out → (text_part r.now p out).number ≡ 0
  pub text-count : (p out : List ℕ) → (text_part r.now p out).number ≡ 0
      → (text_part r.now p out).count ≡ (length r.msg % size_of suite + length p) / size_of suite * size_of suite
  -- the end with a large enough output is accepted, and gives the rest
  pub end-taken : (out tag₀ : List ℕ) → size_of suite ≤ length out → length tag₀ ≡ size_of suite → (ending r.now out tag₀).number ≡ 0
  pub end-count : (out tag₀ : List ℕ) → (ending r.now out tag₀).number ≡ 0 → (ending r.now out tag₀).count ≡ length r.msg % size_of suite

-- after a start with status 0 and any calls: until an end is accepted `Next` holds, and afterwards every call answers 9
abbrev pub Goes : Type 0
Goes =
    (suite : ℕ) (key nonce : List ℕ) (cs : List SessionCall) → AllBytes key → AllBytes nonce → AllInBytes cs
    → (starting suite key nonce).number ≡ 0
    → ((run_of suite key nonce cs).ended ≡ false → Next suite (run_of suite key nonce cs))
    × ((run_of suite key nonce cs).ended ≡ true → Shut (run_of suite key nonce cs).now)

-- whatever the cutting: if the start and the end answered 0, the joined ciphertext and the tag are those of the joined
-- associated data and message, which are within the limits
abbrev pub Whatever : Type 0
Whatever =
    (suite : ℕ) (key nonce : List ℕ) (cs : List SessionCall) (out₀ tag₀ : List ℕ) → AllBytes key → AllBytes nonce → AllInBytes cs
    → (starting suite key nonce).number ≡ 0
    → (ending (run_of suite key nonce cs).now out₀ tag₀).number ≡ 0
    → let r : Run = run_of suite key nonce cs in
    let e : Given = ending r.now out₀ tag₀ in
    (joined r e ≡ ciphertext (cipher_of suite) key nonce r.ad r.msg)
    × (e.tag ≡ tag (cipher_of suite) key nonce r.ad r.msg)
    × (length r.ad ≤ limit)
    × (length r.msg ≤ limit)
