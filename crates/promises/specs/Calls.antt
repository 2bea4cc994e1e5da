-- Document 02, W12: how many cipher calls sealer and opener report. For every suite it is the length of the list of key and
-- block pairs that the definition enciphers; that this is a + m + 2, with a and m the block counts, follows.
use Rattle.std.specs.Prelude.{◌≡◌, ◌⊎◌, Bool, true, false, ℕ, ◌+◌, ◌<◌, List, [], length}
use Rattle.cipher.specs.Cipher.{Cipher, size_of, cipher_of}
use Rattle.mode.specs.Blocks.{blocks}
use Rattle.mode.specs.Mode.{text_out, tag_out, calls}
use Rattle.mode.specs.Calls.{Agree, other}
use Rattle.status.specs.Verdicts.{refusal}
use Rattle.comet.specs.Answers.{Sealed, Opened}
use Rattle.comet.specs.Counted.{Counting, calls_of, sealing_counted, opening_counted}

-- the list is what is enciphered: a cipher that gives the same for its pairs gives the same text and tag, whatever it gives for others
abbrev pub CallsDecide : Type 0
CallsDecide =
    (κ : Cipher) (E' : List ℕ → List ℕ → List ℕ) (opening : Bool) (key nonce ad text : List ℕ) → Agree κ (other κ E') (calls κ opening key nonce ad text)
    → (text_out κ opening key nonce ad text ≡ text_out (other κ E') opening key nonce ad text)
    × (tag_out κ opening key nonce ad text ≡ tag_out (other κ E') opening key nonce ad text)

-- the sealer reports its length on 0, and 0 on any other number
abbrev pub SealReports : Type 0
SealReports =
    (suite : ℕ) (key nonce ad msg out₀ tag₀ : List ℕ) →
    let r : Counting Sealed = sealing_counted suite key nonce ad msg out₀ tag₀ in
    (r.leaves.number ≡ 0 → r.calls ≡ length (calls (cipher_of suite) false key nonce ad msg)) × (0 < r.leaves.number → r.calls ≡ 0)

-- the opener reports its length on 0 and on 8, and 0 on 1 to 7
abbrev pub OpenReports : Type 0
OpenReports =
    (suite : ℕ) (key nonce ad text tag out₀ : List ℕ) →
    let r : Counting Opened = opening_counted suite key nonce ad text tag out₀ in
    ((r.leaves.number ≡ 0) ⊎ (r.leaves.number ≡ 8) → r.calls ≡ length (calls (cipher_of suite) true key nonce ad text))
    × (0 < r.leaves.number → r.leaves.number < 8 → r.calls ≡ 0)

-- its length is a + m + 2
abbrev pub CallsSum : Type 0
CallsSum =
    (suite : ℕ) (opening : Bool) (key nonce ad text : List ℕ)
    → length (calls (cipher_of suite) opening key nonce ad text) ≡ length (blocks (size_of suite) ad) + length (blocks (size_of suite) text) + 2

-- 2 for an empty message with no associated data, where source 000, section 3.2, says 3
abbrev pub EmptyTwo : Type 0
EmptyTwo = (suite : ℕ) (opening : Bool) (key nonce : List ℕ) → length (calls (cipher_of suite) opening key nonce [] []) ≡ 2

-- two runs past 1 to 7 and 10 with equal suite and lengths report the same number: sealing and sealing, opening and opening, and one and the other
abbrev pub SameReport : Type 0
SameReport =
    (suite : ℕ) (d d' : Bool) (key nonce ad text key' nonce' ad' text' : List ℕ) (out tag out' tag' : ℕ)
    → refusal d suite (length key) (length nonce) (length ad) (length text) out tag ≡ 0
    → refusal d' suite (length key') (length nonce') (length ad') (length text') out' tag' ≡ 0
    → length ad ≡ length ad' → length text ≡ length text'
    → calls_of d suite key nonce ad text out tag ≡ calls_of d' suite key' nonce' ad' text' out' tag'

pub record Calls : Type 0 where
  pub decide : CallsDecide
  pub seal : SealReports
  pub unseal : OpenReports
  pub sum : CallsSum
  pub empty : EmptyTwo
  pub same : SameReport
