-- The promises of the writer (document 02, W4; W7 for the retired suite). The statements are about the definitions; the
-- contracts of the writer's crate tie the code to the definitions.
use Rattle.std.specs.Prelude.{ℕ, ◌+◌, ◌*◌, ◌≤◌, ◌<◌, ◌≡◌, true, false, List, ◌⊎◌, length, get_or, replicate}
use Rattle.block.specs.Bytes.{AllBytes}
use Rattle.cipher.specs.Cipher.{Seals, size_of}
use Rattle.shift_format.specs.Format.{count_of, first_edition, row_of, tag_of}
use Rattle.status.specs.Answers.{answer}
use Rattle.shift_check.specs.Check.{bad_data, check_as}
use Rattle.shift_jobs.specs.Opening.{entry_sealing, entry_opening}
use Rattle.shift_draft.specs.Files.{draft_edition, piece_start, entry_tag, sealed_file, draft_file}
use Rattle.shift_draft.specs.Answers.{FileWritten, writes, file_sealing, file_unsealing}

-- the tag of row i is all zero
abbrev pub ZeroTag : List ℕ → ℕ → Type 0
ZeroTag draft i = tag_of draft (row_of draft i) ≡ replicate (size_of (row_of draft i).suite) 0

-- the tag of row i is right: it is the one that opening computes
abbrev pub RightTag : List ℕ → List ℕ → ℕ → Type 0
RightTag file ring i = entry_tag true file ring i ≡ tag_of file (row_of file i)

-- a valid draft passes the checks with 0 for the edition, and its tags are zero
pub record Valid (draft : List ℕ) : Type 0 where
  pub checked : check_as draft_edition draft ≡ answer 0 0
  pub zeros : (i : ℕ) → i < count_of draft → ZeroTag draft i

-- every entry has a suite that seals: none has suite 4
abbrev pub AllSeal : List ℕ → Type 0
AllSeal f = (i : ℕ) → i < count_of f → Seals (row_of f i).suite

-- a genuine file passes the checks, and every tag of it is right under the ring
pub record Genuine (file ring : List ℕ) : Type 0 where
  pub checked : check_as first_edition file ≡ answer 0 0
  pub right : (i : ℕ) → i < count_of file → RightTag file ring i

-- bytes, with a ring of 16 keys
pub record WithRing (file ring : List ℕ) : Type 0 where
  pub file-bytes : AllBytes file
  pub ring-bytes : AllBytes ring
  pub ring_long : length ring ≡ 256

-- ---- there and back

-- a valid draft without an entry of suite 4 is sealed, the sealed file is genuine, and unsealing it gives the draft
abbrev pub SealedBack : Type 0
SealedBack =
    (draft ring out₀ out₁ : List ℕ) → WithRing draft ring → length out₀ ≡ length draft → length out₁ ≡ length draft → Valid draft → AllSeal draft →
    let sealed : FileWritten = file_sealing draft ring out₀ in
    (sealed.answer ≡ answer 0 0) × Genuine sealed.out ring × (file_unsealing sealed.out ring out₁ ≡ writes (answer 0 0) draft)

-- a genuine file is unsealed, the result is a valid draft and, if no entry has suite 4, sealing it gives the file
abbrev pub UnsealedBack : Type 0
UnsealedBack =
    (file ring out₀ out₁ : List ℕ) → WithRing file ring → length out₀ ≡ length file → length out₁ ≡ length file → Genuine file ring →
    let unsealed : FileWritten = file_unsealing file ring out₀ in
    (unsealed.answer ≡ answer 0 0) × Valid unsealed.out × (AllSeal file → file_sealing unsealed.out ring out₁ ≡ writes (answer 0 0) file)

-- ---- every outcome, and when it is given

-- the status of sealing: the check's refusal; 33 with the first row whose tag has a nonzero byte, 10 with the first row whose
-- suite is retired, whatever ring and output are; 2; 6; 0
pub record SealCases (draft ring out₀ : List ℕ) : Type 0 where
  pub checked : ((check_as draft_edition draft).number ≡ 0 → ⊥) → file_sealing draft ring out₀ ≡ writes (check_as draft_edition draft) out₀
  pub tags : (check_as draft_edition draft).number ≡ 0 → (i : ℕ) → i < count_of draft → (ZeroTag draft i → ⊥) → ((k : ℕ) → k < i → ZeroTag draft k)
      → file_sealing draft ring out₀ ≡ writes (answer 33 i) out₀
  pub retired : Valid draft → (i : ℕ) → i < count_of draft → (Seals (row_of draft i).suite → ⊥) → ((k : ℕ) → k < i → Seals (row_of draft k).suite)
      → file_sealing draft ring out₀ ≡ writes (answer 10 i) out₀
  pub ring-wrong : Valid draft → AllSeal draft → (length ring ≡ 256 → ⊥) → file_sealing draft ring out₀ ≡ writes (answer 2 0) out₀
  pub room-wrong : Valid draft → AllSeal draft → length ring ≡ 256 → (length out₀ ≡ length draft → ⊥) → file_sealing draft ring out₀ ≡ writes (answer 6 0) out₀
  pub done : Valid draft → AllSeal draft → length ring ≡ 256 → length out₀ ≡ length draft
      → file_sealing draft ring out₀ ≡ writes (answer 0 0) (sealed_file draft ring)

-- the status of unsealing: the check's refusal; 2; 6; 8 with the first row whose tag is wrong, and an output of zeros; 0
pub record UnsealCases (file ring out₀ : List ℕ) : Type 0 where
  pub checked : ((check_as first_edition file).number ≡ 0 → ⊥) → file_unsealing file ring out₀ ≡ writes (check_as first_edition file) out₀
  pub ring-wrong : (check_as first_edition file).number ≡ 0 → (length ring ≡ 256 → ⊥) → file_unsealing file ring out₀ ≡ writes (answer 2 0) out₀
  pub room-wrong : (check_as first_edition file).number ≡ 0 → length ring ≡ 256 → (length out₀ ≡ length file → ⊥)
      → file_unsealing file ring out₀ ≡ writes (answer 6 0) out₀
  pub tags : (check_as first_edition file).number ≡ 0 → length ring ≡ 256 → length out₀ ≡ length file
      → (i : ℕ) → i < count_of file → (RightTag file ring i → ⊥) → ((k : ℕ) → k < i → RightTag file ring k)
      → file_unsealing file ring out₀ ≡ writes (answer 8 i) (replicate (length out₀) 0)
  pub done : Genuine file ring → length ring ≡ 256 → length out₀ ≡ length file → file_unsealing file ring out₀ ≡ writes (answer 0 0) (draft_file file ring)

abbrev pub Sealing : Type 0
Sealing = (draft ring out₀ : List ℕ) → SealCases draft ring out₀

abbrev pub Unsealing : Type 0
Unsealing = (file ring out₀ : List ℕ) → UnsealCases file ring out₀

-- ---- no other number

-- for a draft that passes, the sealer accepts every row whose suite seals: its status is 0, never 1 to 7 or 10
abbrev pub SealerTakes : Type 0
SealerTakes =
    (draft ring out tag : List ℕ) (i : ℕ) → (check_as draft_edition draft).number ≡ 0 → length ring ≡ 256 → i < count_of draft
    → Seals (row_of draft i).suite → length out ≡ (row_of draft i).text_len → length tag ≡ size_of (row_of draft i).suite
    → (entry_sealing draft ring i out tag).number ≡ 0

-- for a file that passes, the opener accepts every row: its status is 0 or 8
abbrev pub OpenerTakes : Type 0
OpenerTakes =
    (file ring out : List ℕ) (i : ℕ) → (check_as first_edition file).number ≡ 0 → length ring ≡ 256 → i < count_of file → length out ≡ (row_of file i).text_len
    → ((entry_opening file ring i out).number ≡ 0) ⊎ ((entry_opening file ring i out).number ≡ 8)

-- so sealing gives the check's numbers, 33, 10, 2, 6 and 0, and unsealing the check's, 2, 6, 8 and 0
abbrev pub SealNumbers : Type 0
SealNumbers =
    (draft ring out₀ : List ℕ) →
    let n : ℕ = (file_sealing draft ring out₀).answer.number in
    (n ≡ 0) ⊎ (n ≡ 2) ⊎ (n ≡ 6) ⊎ (n ≡ 10) ⊎ (n ≡ 33) ⊎ ((file_sealing draft ring out₀).answer ≡ check_as draft_edition draft)

abbrev pub UnsealNumbers : Type 0
UnsealNumbers =
    (file ring out₀ : List ℕ) →
    let n : ℕ = (file_unsealing file ring out₀).answer.number in
    (n ≡ 0) ⊎ (n ≡ 2) ⊎ (n ≡ 6) ⊎ (n ≡ 8) ⊎ ((file_unsealing file ring out₀).answer ≡ check_as first_edition file)

-- ---- a file that was altered

-- g is f with at least one byte changed, and none outside of `from` to `to`
pub record Altered (f g : List ℕ) (from to : ℕ) : Type 0 where
  pub long : length g ≡ length f
  pub same : (k : ℕ) → (k < from) ⊎ (to ≤ k) → get_or g k 0 ≡ get_or f k 0
  pub changed : g ≡ f → ⊥

-- inside the last ciphertext block of row i, block j, alone: 8 with that row, and an output of zeros
abbrev pub TextAltered : Type 0
TextAltered =
    (file other ring out : List ℕ) (i j : ℕ) → WithRing file ring → AllBytes other → length out ≡ length file → Genuine file ring → i < count_of file →
    let n : ℕ = size_of (row_of file i).suite in
    j * n < (row_of file i).text_len → (row_of file i).text_len ≤ j * n + n
    → Altered file other (piece_start file i + j * n) (piece_start file i + (row_of file i).text_len)
    → file_unsealing other ring out ≡ writes (answer 8 i) (replicate (length out) 0)

-- inside block j of the associated data of row i, whose message is empty: the same, if job number and unit still pass; else it is the check's 30
abbrev pub DataAltered : Type 0
DataAltered =
    (file other ring out : List ℕ) (i j to : ℕ) → WithRing file ring → AllBytes other → length out ≡ length file → Genuine file ring → i < count_of file →
    let n : ℕ = size_of (row_of file i).suite in
    (row_of file i).text_len ≡ 0 → to ≤ (row_of file i).ad_at + (j * n + n) → to ≤ (row_of file i).ad_at + (row_of file i).ad_len
    → Altered file other ((row_of file i).ad_at + j * n) to
    → (bad_data other (row_of file i) ≡ false → file_unsealing other ring out ≡ writes (answer 8 i) (replicate (length out) 0))
    × (bad_data other (row_of file i) ≡ true → file_unsealing other ring out ≡ writes (answer 30 i) out)
