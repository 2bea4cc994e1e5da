-- The promises of the comparison (document 02, W8; W10: stations).
use Rattle.std.specs.Prelude.{ℕ, ◌<◌, ◌≡◌, ◌↔◌, length, get_or}
use mathlib.Core.List.{List, Memᴰ}
use Rattle.shift_format.specs.Format.{edition_of, count_of, first_edition, row_of, station_of}
use Rattle.status.specs.Answers.{answer}
use Rattle.shift_check.specs.Check.{check_file}
use Rattle.shift_same.specs.Same.{nonce_bytes, body_of}
use Rattle.shift_compare.specs.Comparing.{only_first, only_second, differing, refused_in, stopped, comparison}

-- ---- a job is in a list exactly as document 02 words it

-- some row of the file has the job
pub record InFile (f : List ℕ) (job : ℕ) : Type 0 where
  pub row : ℕ
  pub within : row < count_of f
  pub has : (row_of f row).job ≡ job

-- rows i of f and j of g are equal in suite, key number, associated data length, nonce, body and station
pub record Same (f g : List ℕ) (i j : ℕ) : Type 0 where
  pub suite : (row_of f i).suite ≡ (row_of g j).suite
  pub key : (row_of f i).key ≡ (row_of g j).key
  pub ad-len : (row_of f i).ad_len ≡ (row_of g j).ad_len
  pub nonce : nonce_bytes f i ≡ nonce_bytes g j
  pub body : body_of f i ≡ body_of g j
  pub station : station_of f i ≡ station_of g j

-- a row of each has the job, and they are different
pub record Different (f g : List ℕ) (job : ℕ) : Type 0 where
  pub first : InFile f job
  pub second : InFile g job
  pub other : Same f g first.row second.row → ⊥

pub record Listed (f g : List ℕ) (job : ℕ) : Type 0 where
  pub first : Memᴰ job (only_first f g) ↔ (InFile f job × (InFile g job → ⊥))
  pub second : Memᴰ job (only_second f g) ↔ (InFile g job × (InFile f job → ⊥))
  pub differ : Memᴰ job (differing f g) ↔ Different f g job

-- this holds of any two files
abbrev pub ExactlyListed : Type 0
ExactlyListed = (f g : List ℕ) (job : ℕ) → Listed f g job

-- ---- the lists of two files that pass

-- each number is above the one before
abbrev pub Rises : List ℕ → Type 0
Rises l = (i j : ℕ) → i < j → j < length l → get_or l i 0 < get_or l j 0

-- no number is on both
abbrev pub Apart : List ℕ → List ℕ → Type 0
Apart l m = (job : ℕ) → Memᴰ job l → Memᴰ job m → ⊥

pub record Lists (f g : List ℕ) : Type 0 where
  -- the three rise
  pub rise-first : Rises (only_first f g)
  pub rise-second : Rises (only_second f g)
  pub rise-differ : Rises (differing f g)
  -- no job is in two
  pub first-second : Apart (only_first f g) (only_second f g)
  pub first-differ : Apart (only_first f g) (differing f g)
  pub second-differ : Apart (only_second f g) (differing f g)

abbrev pub ListsRise : Type 0
ListsRise = (f g : List ℕ) → (check_file f).number ≡ 0 → (check_file g).number ≡ 0 → Lists f g

-- files that pass, with as many rows and in each the same job and an equal entry: three empty lists, so that buffers of any length suffice and stay unchanged
abbrev pub EqualRows : Type 0
EqualRows =
    (f g x y z : List ℕ) → (check_file f).number ≡ 0 → (check_file g).number ≡ 0 → count_of f ≡ count_of g
    → ((i : ℕ) → i < count_of f → ((row_of f i).job ≡ (row_of g i).job) × Same f g i i)
    → comparison f g x y z ≡ stopped (refused_in 0 (answer 0 0)) x y z

-- a file compared with itself: three empty lists, so that buffers of any length suffice and stay unchanged
abbrev pub WithItself : Type 0
WithItself = (f x y z : List ℕ) → (check_file f).number ≡ 0 → comparison f f x y z ≡ stopped (refused_in 0 (answer 0 0)) x y z

-- exchanging the two files exchanges the first two lists and keeps the third
pub record Exchanged (f g : List ℕ) : Type 0 where
  pub first : only_first g f ≡ only_second f g
  pub second : only_second g f ≡ only_first f g
  pub differ : differing g f ≡ differing f g

abbrev pub FilesExchanged : Type 0
FilesExchanged = (f g : List ℕ) → (check_file f).number ≡ 0 → (check_file g).number ≡ 0 → Exchanged f g

-- another message length is another body
abbrev pub OtherLength : Type 0
OtherLength =
    (f g : List ℕ) (i j : ℕ) → (check_file f).number ≡ 0 → (check_file g).number ≡ 0 → i < count_of f → j < count_of g
    → Same f g i j → (row_of f i).text_len ≡ (row_of g j).text_len

-- ---- stations

-- another station is reported, whichever editions the two files have
abbrev pub OtherStation : Type 0
OtherStation =
    (f g : List ℕ) (i j : ℕ) → i < count_of f → j < count_of g → (row_of f i).job ≡ (row_of g j).job
    → (station_of f i ≡ station_of g j → ⊥) → Memᴰ (row_of f i).job (differing f g)

-- in edition 1 it is 0
abbrev pub NoStation : Type 0
NoStation = (f : List ℕ) (i : ℕ) → edition_of f ≡ first_edition → station_of f i ≡ 0
