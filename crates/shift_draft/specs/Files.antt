-- Every byte of what the writer writes (document 02, W4). A draft is a shift file with edition 0, plaintext where the ciphertext goes, and zero tags.
use Rattle.std.specs.Prelude.{ℕ, ◌+◌, Bool, true, false, List, ◌++◌, take, replicate}
use Rattle.block.specs.Bytes.{bytes}
use Rattle.cipher.specs.Cipher.{size_of, nonce_of, cipher_of}
use Rattle.mode.specs.Mode.{text_out, tag_out}
use Rattle.shift_format.specs.Format.{count_of, first_edition, row_size_of, nonce_at, row_of, data_of, text_of}
use Rattle.shift_jobs.specs.Opening.{ring_key}
use Rattle.shift_draft.specs.Put.{put, put_all}

-- the edition of a draft; its rows are laid out as edition 1's
abbrev pub draft_edition : ℕ
draft_edition = 0

-- the file with e for its edition
unfoldable pub in_edition : ℕ → List ℕ → List ℕ
in_edition e f = put f 0 (bytes 2 e)

-- text and tag of row i are one piece, after the associated data: its offset, and its length
unfoldable pub piece_start : List ℕ → ℕ → ℕ
piece_start f i = (row_of f i).ad_at + (row_of f i).ad_len

abbrev pub piece_size : List ℕ → ℕ → ℕ
piece_size f i = (row_of f i).text_len + size_of (row_of f i).suite

-- a text sealed, or opened, under a suite with key, nonce and associated data of row i: the output, and its tag
abbrev pub text_as : Bool → List ℕ → List ℕ → ℕ → ℕ → List ℕ → List ℕ
text_as opening f ring i suite text =
    let r = row_of f i in
    text_out (cipher_of suite) opening (ring_key ring r.key) (take (nonce_of suite) (nonce_at (row_size_of f) f i)) (data_of f r) text

abbrev pub tag_as : Bool → List ℕ → List ℕ → ℕ → ℕ → List ℕ → List ℕ
tag_as opening f ring i suite text =
    let r = row_of f i in
    tag_out (cipher_of suite) opening (ring_key ring r.key) (take (nonce_of suite) (nonce_at (row_size_of f) f i)) (data_of f r) text

-- ciphertext and tag of a message
abbrev pub piece_as : List ℕ → List ℕ → ℕ → ℕ → List ℕ → List ℕ
piece_as f ring i suite msg = text_as false f ring i suite msg ++ tag_as false f ring i suite msg

-- the output text for row i, and its tag: the bytes at the ciphertext's offset are sealed, or opened, under the row's own suite
unfoldable pub entry_out : Bool → List ℕ → List ℕ → ℕ → List ℕ
entry_out opening f ring i = text_as opening f ring i (row_of f i).suite (text_of f (row_of f i))

unfoldable pub entry_tag : Bool → List ℕ → List ℕ → ℕ → List ℕ
entry_tag opening f ring i = tag_as opening f ring i (row_of f i).suite (text_of f (row_of f i))

-- ciphertext and tag of row i, whose message is at the ciphertext's offset
unfoldable pub sealed_piece : List ℕ → List ℕ → ℕ → List ℕ
sealed_piece f ring i = entry_out false f ring i ++ entry_tag false f ring i

-- message and zero tag of row i
unfoldable pub draft_piece : List ℕ → List ℕ → ℕ → List ℕ
draft_piece f ring i = entry_out true f ring i ++ replicate (size_of (row_of f i).suite) 0

-- the file with another edition, and another piece for each row; every other byte is kept
abbrev pub rewritten : ℕ → (ℕ → List ℕ) → List ℕ → List ℕ
rewritten e piece f = put_all (piece_start f) piece (count_of f) (in_edition e f)

-- the sealed file of a draft
unfoldable pub sealed_file : List ℕ → List ℕ → List ℕ
sealed_file draft ring = rewritten first_edition (sealed_piece draft ring) draft

-- the draft of a sealed file
unfoldable pub draft_file : List ℕ → List ℕ → List ℕ
draft_file file ring = rewritten draft_edition (draft_piece file ring) file
