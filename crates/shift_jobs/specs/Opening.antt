-- Opening one job (document 01, "The shift file"): the full check, 32, then 2, 6, 8.
use Rattle.std.specs.Prelude.{ℕ, ◌*◌, not, cond, List, length, take, eqb}
use Rattle.cipher.specs.Cipher.{nonce_of}
use Rattle.comet.specs.Answers as comet
use Rattle.status.specs.declared.checked.Answer.{Answer}
use Rattle.shift_format.specs.Part.{stretch}
use Rattle.shift_format.specs.Format.{row_size_of, nonce_at, nonce_read_at, row_of, data_of, text_of, tag_of}
use Rattle.status.specs.Answers.{answer}
use Rattle.shift_lookup.specs.Lookup.{lookup_job}

-- the ring is 16 keys, 256 bytes; key k is bytes 16k to 16k + 15
abbrev pub ring_key : List ℕ → ℕ → List ℕ
ring_key ring k = stretch ring (16 * k) 16

-- the nonce bytes that the suite of row i reads
abbrev pub nonce_read : List ℕ → ℕ → List ℕ
nonce_read f i = nonce_read_at (row_size_of f) f i

-- the sealer's status and output for a text, with the entry's key, nonce and associated data, under a suite
abbrev pub entry_sealing_as : List ℕ → List ℕ → ℕ → ℕ → List ℕ → List ℕ → List ℕ → comet.Sealed
entry_sealing_as f ring i suite text out₀ tag₀ =
    let r = row_of f i in
    comet.sealing suite (ring_key ring r.key) (take (nonce_of suite) (nonce_at (row_size_of f) f i)) (data_of f r) text out₀ tag₀

-- the status and output of sealer and opener on the entry's own stretch of the file, and its key
unfoldable pub entry_sealing : List ℕ → List ℕ → ℕ → List ℕ → List ℕ → comet.Sealed
entry_sealing f ring i out₀ tag₀ = entry_sealing_as f ring i (row_of f i).suite (text_of f (row_of f i)) out₀ tag₀

unfoldable pub entry_opening : List ℕ → List ℕ → ℕ → List ℕ → comet.Opened
entry_opening f ring i out₀ =
    let r = row_of f i in
    comet.opening r.suite (ring_key ring r.key) (nonce_read f i) (data_of f r) (text_of f r) (tag_of f r) out₀

-- the verifier's status on the same bytes
unfoldable pub entry_verifying : List ℕ → List ℕ → ℕ → ℕ
entry_verifying f ring i =
    let r = row_of f i in
    comet.verifying r.suite (ring_key ring r.key) (nonce_read f i) (data_of f r) (text_of f r) (tag_of f r)

-- the status of opening a job, and the output
pub record JobOpened : Type 0 where
  pub answer : Answer
  pub out : List ℕ

-- a status, and the output after it
abbrev pub left : Answer → List ℕ → JobOpened
left x out = record { answer = x; out = out }

-- row i: 2 (ring not 256 bytes), 6 (output not of the message's length), then the opener's 8 or 0
unfoldable pub row_opening : List ℕ → List ℕ → ℕ → List ℕ → JobOpened
row_opening f ring i out₀ =
    cond (not (eqb (length ring) 256)) (left (answer 2 0) out₀)
    (cond (not (eqb (length out₀) (row_of f i).text_len)) (left (answer 6 0) out₀)
    (left (answer (entry_opening f ring i out₀).number 0) (entry_opening f ring i out₀).out))

-- a lookup that refuses is the answer, and no key is touched; else the row that it found is opened
abbrev pub found_opening : List ℕ → List ℕ → Answer → List ℕ → JobOpened
found_opening f ring x out₀ = cond (eqb x.number 0) (row_opening f ring x.row out₀) (left x out₀)

unfoldable pub job_opening : List ℕ → List ℕ → ℕ → List ℕ → JobOpened
job_opening f ring job out₀ = found_opening f ring (lookup_job f job) out₀
