-- Demand 1: for any bytes and any lengths each entry point returns, with one outcome; a refused length or suite changes nothing, a wrong tag leaves zeros.
use Rattle.std.specs.Prelude.{◌≡◌, ◌⊎◌, ℕ, ◌≤◌, ◌<◌, List, length, replicate}
use contract.Lifetimes.{Lfts}
use Rattle.std.specs.Borrow.{Bor}
use borrow.Fn.Kinds.{Dens, res_t}
use Rattle.block.specs.Outcome.{Outcome, OneOutcome}
use Rattle.comet.specs.Answers.{Sealed, sealing, Opened, opening, verifying}
use Rattle.promises.specs.Signatures.{Contract}
use Rattle.promises.specs.Signatures as the

-- an outcome of a routine that its own contract allows
abbrev pub Gave : (f : Contract) (κs : Lfts f.lifetimes) → Dens κs f.params → Type 0
Gave f κs a = Outcome f.params f.result f.Post κs a

-- it has no precondition, and one outcome for each argument
pub record Answers (f : Contract) : Type 0 where
  pub asks_nothing : (κs : Lfts f.lifetimes) (a : Dens κs f.params) → f.Pre κs a
  pub one-outcome : OneOutcome f.params f.result f.Pre f.Post

-- the same for a routine that returns a part of a borrowed slice: any two outcomes agree in bytes and offset; a reference's
-- ghost name belongs to the proof and is no outcome
pub record AnswersPart (f : Contract) (part : (κs : Lfts f.lifetimes) → (res_t f.result κs).Denot → Bor (List ℕ)) : Type 0 where
  pub asks_nothing : (κs : Lfts f.lifetimes) (a : Dens κs f.params) → f.Pre κs a
  pub one-outcome : (κs : Lfts f.lifetimes) (a : Dens κs f.params) (x y : Gave f κs a)
      → ((part κs x.result).now ≡ (part κs y.result).now) × ((part κs x.result).ref_ptr ≡ (part κs y.result).ref_ptr)

-- every entry point of document 01, and those that document 02 adds
pub record EntryPoints : Type 0 where
  pub seal : Answers the.seal
  pub unseal : Answers the.unseal
  -- the same in place, and the verifier
  pub seal_in_place : Answers the.seal_in_place
  pub unseal_in_place : Answers the.unseal_in_place
  pub verify : Answers the.verify
  pub check : Answers the.check
  pub lookup : Answers the.lookup
  pub entry : Answers the.entry
  pub associated : AnswersPart the.associated (λ κs r. r)
  pub open_job : Answers the.open_job
  pub verified : Answers the.verified
  -- document 02, W2: a session's four calls
  pub session_start : Answers the.session_start
  pub session_data : Answers the.session_data
  pub session_part : Answers the.session_part
  pub session_end : Answers the.session_end
  -- W4: the writer
  pub seal_file : Answers the.seal_file
  pub unseal_file : Answers the.unseal_file
  -- W6: the search
  pub search : Answers the.search
  -- W7: the reseal pass
  pub reseal : Answers the.reseal
  -- W8: compare
  pub compare : Answers the.compare
  -- W10: the length of a moved file, and the moves
  pub moved_length : Answers the.moved_length
  pub to_edition2 : Answers the.to_edition2
  pub to_edition1 : Answers the.to_edition1
  -- W11: amendments; the second returns a part of one of two files
  pub locate : Answers the.locate
  pub current : AnswersPart the.current (λ κs r. r)
  pub open_current : Answers the.open_current
  -- W12: sealer and opener with the count of their cipher calls
  pub seal_counted : Answers the.seal_counted
  pub unseal_counted : Answers the.unseal_counted
  -- W14: the cursor and the report; the reader's own three, which hold a reference, are in `Readers.antt`
  pub start : Answers the.start
  pub ask : Answers the.ask
  pub report : Answers the.report
  -- the table of contents by row number
  pub header : Answers the.header
  pub row : Answers the.row

-- the sealer gives 0 to 7 and 10, and on any but 0 both buffers are unchanged
abbrev pub SealKeeps : Type 0
SealKeeps =
    (suite : ℕ) (key nonce ad msg out₀ tag₀ : List ℕ) →
    let r : Sealed = sealing suite key nonce ad msg out₀ tag₀ in
    ((r.number ≤ 7) ⊎ (r.number ≡ 10)) × (0 < r.number → (r.out ≡ out₀) × (r.tag ≡ tag₀))

-- the opener gives 0 to 8; on 1 to 7 the buffer is unchanged, on 8 every byte of it is 0
abbrev pub OpenKeeps : Type 0
OpenKeeps =
    (suite : ℕ) (key nonce ad text tag out₀ : List ℕ) →
    let r : Opened = opening suite key nonce ad text tag out₀ in
    (r.number ≤ 8) × (0 < r.number → r.number < 8 → r.out ≡ out₀) × (r.number ≡ 8 → r.out ≡ replicate (length out₀) 0)

-- in place, number and tag are the sealer's for any output of the text's length, and on 0 the output is too; on any other number the text is unchanged; never 6
abbrev pub SealInPlace : Type 0
SealInPlace =
    (suite : ℕ) (key nonce ad text tag₀ out₀ : List ℕ) → length out₀ ≡ length text →
    let r : Sealed = sealing suite key nonce ad text text tag₀ in
    let q : Sealed = sealing suite key nonce ad text out₀ tag₀ in
    (r.number ≡ q.number) × (r.tag ≡ q.tag) × (r.number ≡ 0 → r.out ≡ q.out) × (0 < r.number → r.out ≡ text) × (r.number ≡ 6 → ⊥)

-- the same of the opener: on 0 the message, on 8 zeros, and on any other number the text is unchanged; never 6
abbrev pub OpenInPlace : Type 0
OpenInPlace =
    (suite : ℕ) (key nonce ad text tag out₀ : List ℕ) → length out₀ ≡ length text →
    let r : Opened = opening suite key nonce ad text tag text in
    let q : Opened = opening suite key nonce ad text tag out₀ in
    (r.number ≡ q.number) × ((r.number ≡ 0) ⊎ (r.number ≡ 8) → r.out ≡ q.out) × (0 < r.number → r.number < 8 → r.out ≡ text) × (r.number ≡ 6 → ⊥)

-- the verifier gives the opener's number for any output of the text's length: 0 exactly if that opens, 8 exactly if its tag is wrong; never 6
abbrev pub VerifyOpens : Type 0
VerifyOpens =
    (suite : ℕ) (key nonce ad text tag out₀ : List ℕ) → length out₀ ≡ length text →
    let n : ℕ = verifying suite key nonce ad text tag in
    (n ≡ (opening suite key nonce ad text tag out₀).number) × (n ≤ 8) × (n ≡ 6 → ⊥)
