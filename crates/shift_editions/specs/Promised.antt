-- The promises of the moves (document 02, W10).
use Rattle.std.specs.Prelude.{ℕ, ◌+◌, ◌*◌, ◌≤◌, ◌<◌, ◌≡◌, List, length, drop}
use Rattle.block.specs.Bytes.{AllBytes}
use Rattle.shift_format.specs.Part.{stretch}
use Rattle.shift_format.specs.Format.{count_of, total_of, first_edition, newest, row_size_of, row_start, row_of, station_of, nonce_at}
use Rattle.shift_check.specs.Laid.{body_at}
use Rattle.status.specs.Answers.{answer}
use Rattle.shift_check.specs.Check.{check_as}
use Rattle.shift_lookup.specs.Lookup.{lookup_job}
use Rattle.shift_lookup.specs.Entry.{data_start, data_length}
use Rattle.shift_jobs.specs.Opening.{job_opening}
use Rattle.shift_search.specs.Searching.{searching}
use Rattle.shift_editions.specs.Files.{moved}
use Rattle.shift_editions.specs.Answers.{moved_length_of, FileMoved, to_edition2_of, to_edition1_of}

-- a move done: number 0, row 0, and the output is the file g
abbrev pub done : List ℕ → FileMoved
done g = record { answer = answer 0 0; out = g }

-- there and back gives the old file
abbrev pub ThereAndBack : Type 0
ThereAndBack =
    (f out₀ out₁ : List ℕ) → AllBytes f → (to_edition2_of f out₀).answer.number ≡ 0 → length out₁ ≡ length f
    → to_edition1_of (to_edition2_of f out₀).out out₁ ≡ done f

-- and so does back and there
abbrev pub BackAndThere : Type 0
BackAndThere =
    (f out₀ out₁ : List ℕ) → AllBytes f → (to_edition1_of f out₀).answer.number ≡ 0 → length out₁ ≡ length f
    → to_edition2_of (to_edition1_of f out₀).out out₁ ≡ done f

-- the moved file passes the checks of its new edition
abbrev pub UpPasses : Type 0
UpPasses = (f out₀ : List ℕ) → (to_edition2_of f out₀).answer.number ≡ 0 → (check_as newest (to_edition2_of f out₀).out).number ≡ 0

abbrev pub BackPasses : Type 0
BackPasses = (f out₀ : List ℕ) → (to_edition1_of f out₀).answer.number ≡ 0 → (check_as first_edition (to_edition1_of f out₀).out).number ≡ 0

-- going back, no file gets too long: 20 is the check's alone
abbrev pub BackShort : Type 0
BackShort = (f : List ℕ) → (check_as newest f).number ≡ 0 → length (moved first_edition f) ≤ 1048576

-- the length returned for a file that passes is that of the moved file, which 6 requires of the output
pub record LengthTold : Type 0 where
  pub up : (f : List ℕ) → (check_as first_edition f).number ≡ 0 → moved_length_of f ≡ length (moved newest f)
  pub back : (f : List ℕ) → (check_as newest f).number ≡ 0 → moved_length_of f ≡ length (moved first_edition f)

-- g is f with rows of four bytes more: row count, jobs and bodies are kept, and the total length and every row's offset rise by 4n
pub record Risen (f g : List ℕ) : Type 0 where
  pub count : count_of g ≡ count_of f
  pub long : length g ≡ length f + 4 * count_of f
  pub total : total_of g ≡ total_of f + 4 * count_of f
  pub offset : (i : ℕ) → i < count_of f → (row_of g i).ad_at ≡ (row_of f i).ad_at + 4 * count_of f
  pub bodies : drop (row_start (row_size_of g) (count_of g)) g ≡ drop (row_start (row_size_of f) (count_of f)) f

abbrev pub UpRises : Type 0
UpRises = (f out₀ : List ℕ) → (to_edition2_of f out₀).answer.number ≡ 0 → Risen f (to_edition2_of f out₀).out

-- going back they fall by it
abbrev pub BackFalls : Type 0
BackFalls = (f out₀ : List ℕ) → (to_edition1_of f out₀).answer.number ≡ 0 → Risen (to_edition1_of f out₀).out f

-- row i of g is that of f, but for where its body lies: job number, suite, key number, both lengths, the sixteen nonce bytes,
-- the station, and the body byte for byte
pub record RowKept (f g : List ℕ) (i : ℕ) : Type 0 where
  pub job : (row_of g i).job ≡ (row_of f i).job
  pub suite : (row_of g i).suite ≡ (row_of f i).suite
  pub key : (row_of g i).key ≡ (row_of f i).key
  pub ad-len : (row_of g i).ad_len ≡ (row_of f i).ad_len
  pub text-len : (row_of g i).text_len ≡ (row_of f i).text_len
  pub nonce : nonce_at (row_size_of g) g i ≡ nonce_at (row_size_of f) f i
  pub station : station_of g i ≡ station_of f i
  pub body : body_at (row_size_of g) g i ≡ body_at (row_size_of f) f i

abbrev pub UpKeeps : Type 0
UpKeeps = (f out₀ : List ℕ) → (to_edition2_of f out₀).answer.number ≡ 0 → (i : ℕ) → i < count_of f → RowKept f (to_edition2_of f out₀).out i

abbrev pub BackKeeps : Type 0
BackKeeps = (f out₀ : List ℕ) → (to_edition1_of f out₀).answer.number ≡ 0 → (i : ℕ) → i < count_of f → RowKept f (to_edition1_of f out₀).out i

-- a reader gets from g what it gets from f: lookup and search give the same number and row, the search with the same looks;
-- the same associated data; and opening the same number, row and message
pub record SameRead (f g : List ℕ) : Type 0 where
  pub found : (job : ℕ) → lookup_job g job ≡ lookup_job f job
  pub searched : (job : ℕ) → searching g job ≡ searching f job
  pub associated : (job : ℕ)
      → stretch g (data_start g (lookup_job g job)) (data_length g (lookup_job g job))
      ≡ stretch f (data_start f (lookup_job f job)) (data_length f (lookup_job f job))
  pub opened : (ring : List ℕ) (job : ℕ) (out : List ℕ) → job_opening g ring job out ≡ job_opening f ring job out

-- so it is with a file and the moved one, in either direction
abbrev pub UpReads : Type 0
UpReads = (f out₀ : List ℕ) → (to_edition2_of f out₀).answer.number ≡ 0 → SameRead f (to_edition2_of f out₀).out

abbrev pub BackReads : Type 0
BackReads = (f out₀ : List ℕ) → (to_edition1_of f out₀).answer.number ≡ 0 → SameRead f (to_edition1_of f out₀).out
