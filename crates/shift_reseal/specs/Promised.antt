-- The promises of the reseal pass (document 02, W7). The statements are about the definitions; the contract of the pass ties the code to them.
use Rattle.std.specs.Prelude.{ℕ, ◌+◌, ◌≤◌, ◌<◌, ◌≡◌, true, List, ◌⊎◌, length, get_or, replicate}
use Rattle.cipher.specs.Cipher.{retired_suite}
use Rattle.block.specs.Bytes.{AllBytes}
use Rattle.shift_format.specs.Format.{count_of, first_edition, row_size_of, rest_start, nonce_at, row_of, data_of}
use Rattle.status.specs.Answers.{answer}
use Rattle.shift_check.specs.Check.{nonce_seen, check_as}
use Rattle.shift_jobs.specs.Opening.{entry_opening}
use Rattle.shift_draft.specs.Files.{piece_start, piece_size}
use Rattle.shift_draft.specs.Answers.{FileWritten, writes}
use Rattle.shift_draft.specs.Promised.{RightTag}
use Rattle.shift_reseal.specs.Files.{successor, retabled, resealed_file}
use Rattle.shift_reseal.specs.Answers.{seen_from, file_resealing}

-- row i has suite 4
abbrev pub HasFour : List ℕ → ℕ → Type 0
HasFour file i = (row_of file i).suite ≡ retired_suite

-- row i would clash with an earlier one: the check's rule, on the table after resealing
abbrev pub Clashes : List ℕ → ℕ → Type 0
Clashes file i = nonce_seen (row_size_of (retabled file)) (retabled file) i ≡ true

-- ---- what 0 leaves

-- row i of `out` is row i of the file, resealed
pub record Resealed (file ring out : List ℕ) (i : ℕ) : Type 0 where
  pub suite : (row_of out i).suite ≡ successor
  pub key : (row_of out i).key ≡ (row_of file i).key
  pub nonce : nonce_at (row_size_of out) out i ≡ nonce_at (row_size_of file) file i
  pub ad : data_of out (row_of out i) ≡ data_of file (row_of file i)
  -- its tag is right, and opening it gives the same message as before
  pub right : RightTag out ring i
  pub opens : (room : List ℕ) → length room ≡ (row_of file i).text_len → ((entry_opening out ring i room).number ≡ 0)
      × (entry_opening out ring i room ≡ entry_opening file ring i room)

-- offset k is neither row i's suite byte nor in its text and tag
pub record Elsewhere (file : List ℕ) (i k : ℕ) : Type 0 where
  pub suite : k ≡ rest_start (row_size_of file) i → ⊥
  pub piece : (k < piece_start file i) ⊎ (piece_start file i + piece_size file i ≤ k)

pub record Renewed (file ring out : List ℕ) : Type 0 where
  pub checked : check_as first_edition out ≡ answer 0 0
  pub none : (i : ℕ) → i < count_of out → HasFour out i → ⊥
  pub again : (i : ℕ) → i < count_of file → HasFour file i → Resealed file ring out i
  -- every other byte is unchanged
  pub long : length out ≡ length file
  pub kept : (k : ℕ) → ((i : ℕ) → i < count_of file → HasFour file i → Elsewhere file i k) → get_or out k 0 ≡ get_or file k 0

abbrev pub Renewing : Type 0
Renewing =
    (file ring out₀ : List ℕ) → AllBytes file → AllBytes ring →
    let r : FileWritten = file_resealing file ring out₀ in
    r.answer.number ≡ 0 → Renewed file ring r.out

-- a file without suite 4 comes back byte for byte
abbrev pub NothingRetired : Type 0
NothingRetired =
    (file ring out₀ : List ℕ) → (check_as first_edition file).number ≡ 0 → ((i : ℕ) → i < count_of file → HasFour file i → ⊥) → length ring ≡ 256
    → length out₀ ≡ length file
    → file_resealing file ring out₀ ≡ writes (answer 0 0) file

-- resealing twice is resealing once
abbrev pub ResealedTwice : Type 0
ResealedTwice =
    (file ring out₀ out₁ : List ℕ) → AllBytes file → AllBytes ring → length out₁ ≡ length file →
    let r : FileWritten = file_resealing file ring out₀ in
    r.answer.number ≡ 0 → file_resealing r.out ring out₁ ≡ r

-- ---- every outcome, and when it is given

-- 29 is what the check itself says of the file with the new suites: nothing else can be wrong with it
abbrev pub ClashOfCheck : Type 0
ClashOfCheck = (file : List ℕ) → (check_as first_edition file).number ≡ 0 → check_as first_edition (retabled file) ≡ seen_from (retabled file) (count_of file) 0

-- a file that passes, and would pass with the new suites
pub record Calm (file : List ℕ) : Type 0 where
  pub checked : (check_as first_edition file).number ≡ 0
  pub calm : (i : ℕ) → i < count_of file → Clashes file i → ⊥

-- the check's refusal; 29 with the lowest row that would clash with an earlier one, whatever ring and output are; 2; 6; 8 with
-- the first suite 4 row whose tag is wrong, and an output of zeros; 0
pub record ResealCases (file ring out₀ : List ℕ) : Type 0 where
  pub checked : ((check_as first_edition file).number ≡ 0 → ⊥) → file_resealing file ring out₀ ≡ writes (check_as first_edition file) out₀
  pub clash : (check_as first_edition file).number ≡ 0 → (i : ℕ) → i < count_of file → Clashes file i → ((k : ℕ) → k < i → Clashes file k → ⊥)
      → file_resealing file ring out₀ ≡ writes (answer 29 i) out₀
  pub ring-wrong : Calm file → (length ring ≡ 256 → ⊥) → file_resealing file ring out₀ ≡ writes (answer 2 0) out₀
  pub room-wrong : Calm file → length ring ≡ 256 → (length out₀ ≡ length file → ⊥) → file_resealing file ring out₀ ≡ writes (answer 6 0) out₀
  pub tags : Calm file → length ring ≡ 256 → length out₀ ≡ length file
      → (i : ℕ) → i < count_of file → HasFour file i → (RightTag file ring i → ⊥) → ((k : ℕ) → k < i → HasFour file k → RightTag file ring k)
      → file_resealing file ring out₀ ≡ writes (answer 8 i) (replicate (length out₀) 0)
  pub done : Calm file → length ring ≡ 256 → length out₀ ≡ length file → ((i : ℕ) → i < count_of file → HasFour file i → RightTag file ring i)
      → file_resealing file ring out₀ ≡ writes (answer 0 0) (resealed_file file ring)

abbrev pub Resealing : Type 0
Resealing = (file ring out₀ : List ℕ) → ResealCases file ring out₀

-- no other number
abbrev pub ResealNumbers : Type 0
ResealNumbers =
    (file ring out₀ : List ℕ) →
    let n : ℕ = (file_resealing file ring out₀).answer.number in
    (n ≡ 0) ⊎ (n ≡ 2) ⊎ (n ≡ 6) ⊎ (n ≡ 8) ⊎ (n ≡ 29) ⊎ ((file_resealing file ring out₀).answer ≡ check_as first_edition file)
