-- Every outcome of the shift file's other calls, and when it is given. For writer and reseal pass, the numbers in their
-- order; what each leaves in the output is in `shift_draft/specs/Promised.antt` (`SealCases`, `UnsealCases`) and
-- `shift_reseal/specs/Promised.antt` (`ResealCases`). Those of the amendments are in `shift_amend/specs/Promised.antt`.
use Rattle.std.specs.Prelude.{◌≡◌, ◌⊎◌, ◌↔◌, ℕ, ◌≤◌, ◌<◌, List, [], ◌∷◌, length}
use Rattle.cipher.specs.Cipher.{Seals}
use Rattle.shift_format.specs.Format.{count_of, first_edition, newest, row_size_of, row_of, station_of}
use Rattle.status.specs.Answers.{answer}
use Rattle.shift_check.specs.Check.{head_number, check_as, check_file}
use Rattle.shift_lookup.specs.Lookup.{lookup_job}
use Rattle.shift_jobs.specs.Opening.{left, job_opening}
use Rattle.shift_lookup.specs.Promised.{Finds}
use Rattle.shift_lookup.specs.Halving.{ends, halving, jobs_of}
use Rattle.shift_search.specs.Searching.{searching}
use Rattle.shift_draft.specs.Files.{draft_edition}
use Rattle.shift_draft.specs.Answers.{file_sealing, file_unsealing}
use Rattle.shift_draft.specs.Promised.{ZeroTag, RightTag}
use Rattle.shift_reseal.specs.Answers.{file_resealing}
use Rattle.shift_reseal.specs.Promised.{HasFour, Clashes}
use Rattle.shift_compare.specs.Comparing.{only_first, only_second, differing, refused_in, stopped, listed, comparison}
use Rattle.shift_editions.specs.Files.{moved}
use Rattle.shift_editions.specs.Answers.{FileMoved, to_edition2_of, to_edition1_of}
use Rattle.shift_editions.specs.Promised.{done}
use Rattle.shift_report.specs.Reporting.{job_of, tag_number, front, entries, stopped as unreported, longest, reporting}
use Rattle.shift_reader.specs.Reading.{listed_of}
use Rattle.shift_reader.specs.Contents.{no_header, header_of, header_answer, no_fields, fields_of, row_answer}
use Rattle.promises.specs.Tables.{Line, ◌when◌, None, Lines, Table}
use Rattle.promises.specs.Orders.{whole, rows, Order}
use Rattle.promises.specs.Numbers.{head_table}

-- 20 to 24 alone
abbrev pub HeadNumbers : Type 0
HeadNumbers = (low high : ℕ) (f : List ℕ) → Table (λ k. head_number low high f ≡ k) (head_table low high f)

-- a lookup: the check's refusal, with its row; else the row that has the job, or 32
pub record LookupCases (f : List ℕ) (job : ℕ) : Type 0 where
  pub checked : ((check_file f).number ≡ 0 → ⊥) → lookup_job f job ≡ check_file f
  pub passed : (check_file f).number ≡ 0 → Finds f job

-- opening one job: the lookup's refusal, and the output unchanged; of a found row 2, 6, 8
pub record JobCases (f ring : List ℕ) (job : ℕ) (out : List ℕ) : Type 0 where
  pub checked : ((lookup_job f job).number ≡ 0 → ⊥) → job_opening f ring job out ≡ left (lookup_job f job) out
  pub found : (i : ℕ) → lookup_job f job ≡ answer 0 i → Table (λ k. (job_opening f ring job out).answer ≡ answer k 0) (
      (2 when (length ring ≡ 256 → ⊥))
      ∷ (6 when (length out ≡ (row_of f i).text_len → ⊥))
      ∷ (8 when (RightTag f ring i → ⊥))
      ∷ []
      )

-- the search (W6): each of 20 to 24, and no row is looked at; else what the binary search rule gives (`Halves`), which is 0 or 32
pub record SearchCases (f : List ℕ) (job : ℕ) : Type 0 where
  pub head : Lines (λ k. searching f job ≡ ends (answer k 0)) Unit (head_table first_edition newest f)
  pub halved : None (head_table first_edition newest f) → searching f job ≡ halving (jobs_of (row_size_of f) f) job 0 (count_of f)

-- compare (W8): the first file's refusal, the second's, 36; every refusal leaves the lists unchanged

-- both files pass
abbrev pub BothPass : List ℕ → List ℕ → Type 0
BothPass f g = ((check_file f).number ≡ 0) × ((check_file g).number ≡ 0)

abbrev pub room_table : List ℕ → List ℕ → List ℕ → List ℕ → List ℕ → List Line
room_table f g x y z = (36 when (length x < length (only_first f g)) ⊎ ((length y < length (only_second f g)) ⊎ (length z < length (differing f g)))) ∷ []

pub record CompareCases (f g x y z : List ℕ) : Type 0 where
  -- 36 exactly if both files pass and a list is longer than its buffer; 0 exactly if they pass and none is
  pub room-number : Lines (λ k. (comparison f g x y z).finding ≡ refused_in 0 (answer k 0)) (BothPass f g) (room_table f g x y z)
  pub success : ((comparison f g x y z).finding.number ≡ 0) ↔ (BothPass f g × None (room_table f g x y z))
  pub first : ((check_file f).number ≡ 0 → ⊥) → comparison f g x y z ≡ stopped (refused_in 1 (check_file f)) x y z
  pub second : (check_file f).number ≡ 0 → ((check_file g).number ≡ 0 → ⊥) → comparison f g x y z ≡ stopped (refused_in 2 (check_file g)) x y z
  pub room : (check_file f).number ≡ 0 → (check_file g).number ≡ 0
      → (length x < length (only_first f g)) ⊎ ((length y < length (only_second f g)) ⊎ (length z < length (differing f g)))
      → comparison f g x y z ≡ stopped (refused_in 0 (answer 36 0)) x y z
  pub lists : (check_file f).number ≡ 0 → (check_file g).number ≡ 0
      → length (only_first f g) ≤ length x → length (only_second f g) ≤ length y → length (differing f g) ≤ length z
      → comparison f g x y z ≡ listed f g x y z

-- a move that is refused
abbrev pub unmoved : ℕ → ℕ → List ℕ → FileMoved
unmoved k i out = record { answer = answer k i; out = out }

-- to edition 2 (W10): the checks of edition 1, 20, 6
pub record UpCases (f out : List ℕ) : Type 0 where
  pub numbers : (check_as first_edition f).number ≡ 0 → Table (λ k. (to_edition2_of f out).answer ≡ answer k 0) (
      (20 when 1048576 < length (moved newest f))
      ∷ (6 when (length out ≡ length (moved newest f) → ⊥))
      ∷ []
      )
  pub checked : ((check_as first_edition f).number ≡ 0 → ⊥) → to_edition2_of f out ≡ record { answer = check_as first_edition f; out = out }
  pub long : (check_as first_edition f).number ≡ 0 → 1048576 < length (moved newest f) → to_edition2_of f out ≡ unmoved 20 0 out
  pub room : (check_as first_edition f).number ≡ 0 → length (moved newest f) ≤ 1048576 → (length out ≡ length (moved newest f) → ⊥)
      → to_edition2_of f out ≡ unmoved 6 0 out
  pub moves : (check_as first_edition f).number ≡ 0 → length (moved newest f) ≤ 1048576 → length out ≡ length (moved newest f)
      → to_edition2_of f out ≡ done (moved newest f)

-- back to edition 1: the checks of edition 2, 35 with the first row that has a station, 6; 20 cannot occur (`BackShort`)
pub record BackCases (f out : List ℕ) : Type 0 where
  pub numbers : (check_as newest f).number ≡ 0 → Order (λ k i. (to_edition1_of f out).answer ≡ answer k i) (
      rows 35 (count_of f) (λ i. station_of f i ≡ 0 → ⊥)
      ∷ whole 6 (length out ≡ length (moved first_edition f) → ⊥)
      ∷ []
      )
  pub checked : ((check_as newest f).number ≡ 0 → ⊥) → to_edition1_of f out ≡ record { answer = check_as newest f; out = out }
  pub station : (check_as newest f).number ≡ 0 → (i : ℕ) → i < count_of f → (station_of f i ≡ 0 → ⊥) → ((k : ℕ) → k < i → station_of f k ≡ 0)
      → to_edition1_of f out ≡ unmoved 35 i out
  pub room : (check_as newest f).number ≡ 0 → ((i : ℕ) → i < count_of f → station_of f i ≡ 0) → (length out ≡ length (moved first_edition f) → ⊥)
      → to_edition1_of f out ≡ unmoved 6 0 out
  pub moves : (check_as newest f).number ≡ 0 → ((i : ℕ) → i < count_of f → station_of f i ≡ 0) → length out ≡ length (moved first_edition f)
      → to_edition1_of f out ≡ done (moved first_edition f)

-- the report (W14): 20 for a file of more than 65,280 bytes, the checks, 2; 6 if a list has fewer elements than there are entries
pub record ReportCases (f ring jobs numbers : List ℕ) : Type 0 where
  pub numbered : length f ≤ longest → (check_file f).number ≡ 0 → Table (λ k. (reporting f ring jobs numbers).said.number ≡ k) (
      (2 when (length ring ≡ 256 → ⊥))
      ∷ (6 when (length jobs < count_of f) ⊎ (length numbers < count_of f))
      ∷ []
      )
  pub long : longest < length f → reporting f ring jobs numbers ≡ unreported (answer 20 0) jobs numbers
  pub checked : length f ≤ longest → ((check_file f).number ≡ 0 → ⊥) → reporting f ring jobs numbers ≡ unreported (check_file f) jobs numbers
  pub ring-wrong : length f ≤ longest → (check_file f).number ≡ 0 → (length ring ≡ 256 → ⊥) → reporting f ring jobs numbers ≡ unreported (answer 2 0) jobs numbers
  pub room : length f ≤ longest → (check_file f).number ≡ 0 → length ring ≡ 256 → (length jobs < count_of f) ⊎ (length numbers < count_of f)
      → reporting f ring jobs numbers ≡ unreported (answer 6 0) jobs numbers
  pub lines : length f ≤ longest → (check_file f).number ≡ 0 → length ring ≡ 256 → count_of f ≤ length jobs → count_of f ≤ length numbers
      → reporting f ring jobs numbers ≡ record {
        said = entries (count_of f);
        jobs = front (job_of f) (count_of f) jobs;
        numbers = front (tag_number f ring) (count_of f) numbers;
      }

-- the table of contents by row number: each of 20 to 24, and 32 past the rows, without a field; else the header's and the row's own fields, whatever they hold
pub record ContentsCases (f : List ℕ) (i : ℕ) : Type 0 where
  pub no-header : Lines (λ k. header_answer f ≡ no_header k) Unit (head_table first_edition newest f)
  pub header : None (head_table first_edition newest f) → header_answer f ≡ header_of f
  pub no_table : Lines (λ k. row_answer f i ≡ no_fields k) Unit (head_table first_edition newest f)
  pub no_row : Lines (λ k. row_answer f i ≡ no_fields k) (None (head_table first_edition newest f)) ((32 when (i < count_of f → ⊥)) ∷ [])
  pub row : None (head_table first_edition newest f) → i < count_of f → row_answer f i ≡ fields_of (listed_of f i)

-- sealing a draft that passes its checks (W4; 10 is W7's): 33 with the first row, 10 with the first row, 2, 6
abbrev pub SealOrder : Type 0
SealOrder =
    (draft ring out : List ℕ) → (check_as draft_edition draft).number ≡ 0 → Order (λ k i. (file_sealing draft ring out).answer ≡ answer k i) (
    rows 33 (count_of draft) (λ i. ZeroTag draft i → ⊥)
    ∷ rows 10 (count_of draft) (λ i. Seals (row_of draft i).suite → ⊥)
    ∷ whole 2 (length ring ≡ 256 → ⊥)
    ∷ whole 6 (length out ≡ length draft → ⊥)
    ∷ []
    )

-- unsealing a file that passes: 2, 6, 8 with the first row
abbrev pub UnsealOrder : Type 0
UnsealOrder =
    (file ring out : List ℕ) → (check_as first_edition file).number ≡ 0 → Order (λ k i. (file_unsealing file ring out).answer ≡ answer k i) (
    whole 2 (length ring ≡ 256 → ⊥)
    ∷ whole 6 (length out ≡ length file → ⊥)
    ∷ rows 8 (count_of file) (λ i. RightTag file ring i → ⊥)
    ∷ []
    )

-- resealing a file that passes (W7): 29 with the lowest later row, 2, 6, 8 with the first row of suite 4
abbrev pub ResealOrder : Type 0
ResealOrder =
    (file ring out : List ℕ) → (check_as first_edition file).number ≡ 0 → Order (λ k i. (file_resealing file ring out).answer ≡ answer k i) (
    rows 29 (count_of file) (Clashes file)
    ∷ whole 2 (length ring ≡ 256 → ⊥)
    ∷ whole 6 (length out ≡ length file → ⊥)
    ∷ rows 8 (count_of file) (λ i. HasFour file i × (RightTag file ring i → ⊥))
    ∷ []
    )

pub record Cases : Type 0 where
  pub head : HeadNumbers
  pub lookup : (f : List ℕ) (job : ℕ) → LookupCases f job
  pub open_job : (f ring : List ℕ) (job : ℕ) (out : List ℕ) → JobCases f ring job out
  pub search : (f : List ℕ) (job : ℕ) → SearchCases f job
  pub compare : (f g x y z : List ℕ) → CompareCases f g x y z
  pub to_edition2 : (f out : List ℕ) → UpCases f out
  pub to_edition1 : (f out : List ℕ) → BackCases f out
  pub report : (f ring jobs numbers : List ℕ) → ReportCases f ring jobs numbers
  pub contents : (f : List ℕ) (i : ℕ) → ContentsCases f i
  pub seal_file : SealOrder
  pub unseal_file : UnsealOrder
  pub reseal : ResealOrder
