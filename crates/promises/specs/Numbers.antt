-- Demand 1, "refusing by the numbers, in the order given, and only then": document 01's tables, and document 02's, line by
-- line. `Tables.antt` defines what it means that a call gives a table's numbers.
use Rattle.std.specs.Prelude.{◌≡◌, Bool, true, false, ◌⊎◌, ◌↔◌, ℕ, ◌+◌, ◌-◌, ◌*◌, ◌≤◌, ◌<◌, List, [], ◌∷◌, length}
use Rattle.block.specs.Blocks.{filled}
use Rattle.cipher.specs.Cipher.{facts_of, Seals, cipher_of, size_of, nonce_of, limit}
use Rattle.mode.specs.Mode.{tag_out}
use Rattle.comet.specs.Answers.{sealing, opening}
use Rattle.session.specs.Value.{Value, starting, data_part, text_part, ending}
use Rattle.shift_format.specs.Format.{edition_of, count_of, total_of, row_size_of, row_of, nonce_at, nonce_read_at, data_job, unit_of}
use Rattle.status.specs.Answers.{answer}
use Rattle.shift_check.specs.Check.{body_start, check_between}
use Rattle.shift_jobs.specs.Nonces.{SameNonce}
use Rattle.promises.specs.Tables.{Line, ◌when◌, None, Lines, Table}

-- ---- document 01, "Numbers given by sealer and opener"; 10 is document 02's (W7), and so are suites 5 and 6 (W9)

-- the tag column of document 01's table of suites
abbrev pub tag_size : ℕ → ℕ
tag_size suite = (facts_of suite).tag

-- `tag` is the sealer's tag buffer, and the tag that the opener was given; `limit` is 65,536
abbrev pub numbers : Bool → ℕ → List ℕ → List ℕ → List ℕ → List ℕ → List ℕ → List ℕ → List Line
numbers opens suite key nonce ad text out tag =
    (1 when (suite < 1) ⊎ (6 < suite))
    ∷ (10 when (opens ≡ false) × (suite ≡ 4))
    ∷ (2 when (length key ≡ 16 → ⊥))
    ∷ (3 when (length nonce ≡ nonce_of suite → ⊥))
    ∷ (4 when limit < length ad)
    ∷ (5 when limit < length text)
    ∷ (6 when (length out ≡ length text → ⊥))
    ∷ (7 when (length tag ≡ tag_size suite → ⊥))
    ∷ (8 when (opens ≡ true) × (tag_out (cipher_of suite) true key nonce ad text ≡ tag → ⊥))
    ∷ []

abbrev pub SealNumbers : Type 0
SealNumbers =
    (suite : ℕ) (key nonce ad msg out tag : List ℕ) → Table (λ k. (sealing suite key nonce ad msg out tag).number ≡ k)
    (numbers false suite key nonce ad msg out tag)

abbrev pub OpenNumbers : Type 0
OpenNumbers =
    (suite : ℕ) (key nonce ad text tag out : List ℕ) → Table (λ k. (opening suite key nonce ad text tag out).number ≡ k)
    (numbers true suite key nonce ad text out tag)

-- ---- document 02, W2: a session's four calls

abbrev pub StartNumbers : Type 0
StartNumbers =
    (suite : ℕ) (key nonce : List ℕ) → Table (λ k. (starting suite key nonce).number ≡ k) (
    (1 when (suite < 1) ⊎ (6 < suite))
    ∷ (10 when suite ≡ 4)
    ∷ (2 when (length key ≡ 16 → ⊥))
    ∷ (3 when (length nonce ≡ nonce_of suite → ⊥))
    ∷ []
    )

-- a session in progress: neither refused nor ended, of a suite that seals and with totals within the limits
abbrev pub Going : Value → Type 0
Going v = Seals v.suite × ((v.ad_total ≤ limit) × (v.text_total ≤ limit))

abbrev pub DataNumbers : Type 0
DataNumbers =
    (v : Value) (part : List ℕ) → Table (λ k. (data_part v part).number ≡ k) (
    (9 when (Going v × (v.text_total ≡ 0) → ⊥))
    ∷ (4 when limit < v.ad_total + length part)
    ∷ []
    )

abbrev pub PartNumbers : Type 0
PartNumbers =
    (v : Value) (part out : List ℕ) → Table (λ k. (text_part v part out).number ≡ k) (
    (9 when (Going v → ⊥))
    ∷ (5 when limit < v.text_total + length part)
    ∷ (6 when length out < length part + (size_of v.suite - 1))
    ∷ []
    )

abbrev pub EndNumbers : Type 0
EndNumbers =
    (v : Value) (out tag : List ℕ) → Table (λ k. (ending v out tag).number ≡ k) (
    (9 when (Going v → ⊥))
    ∷ (6 when length out < size_of v.suite)
    ∷ (7 when (length tag ≡ tag_size v.suite → ⊥))
    ∷ []
    )

-- ---- document 01, "The shift file": 20 to 24 first, then each row from row 0 with its numbers in order, then 31; 29 and 34
-- are document 02's (W5), and the editions, from low to high, are (W10)

abbrev pub head_table : ℕ → ℕ → List ℕ → List Line
head_table low high f =
    (20 when (length f < 8) ⊎ (1048576 < length f))
    ∷ (21 when (edition_of f < low) ⊎ (high < edition_of f))
    ∷ (22 when 512 < count_of f)
    ∷ (23 when (total_of f ≡ length f → ⊥))
    ∷ (24 when length f < 8 + row_size_of f * count_of f)
    ∷ []

abbrev pub row_table : List ℕ → ℕ → List Line
row_table f i =
    let r = row_of f i in
    (25 when (0 < i) × (r.job ≤ (row_of f (i - 1)).job))
    ∷ (26 when ((r.suite < 1) ⊎ (6 < r.suite)) ⊎ (15 < r.key))
    ∷ (27 when ((r.ad_len < 5) ⊎ (1024 < r.ad_len)) ⊎ (limit < r.text_len))
    ∷ (28 when (r.ad_at ≡ body_start (row_size_of f) f (count_of f) i → ⊥) ⊎ (length f < r.ad_at + r.ad_len + r.text_len + tag_size r.suite))
    ∷ (34 when (nonce_at (row_size_of f) f i ≡ filled (nonce_read_at (row_size_of f) f i) → ⊥))
    ∷ (29 when (j : ℕ) × (j < i) × SameNonce f i j)
    ∷ (30 when (data_job f r ≡ r.job → ⊥) ⊎ ((unit_of f r ≡ 1) ⊎ (unit_of f r ≡ 2) → ⊥))
    ∷ []

abbrev pub end_table : List ℕ → List Line
end_table f = (31 when (body_start (row_size_of f) f (count_of f) (count_of f) ≡ length f → ⊥)) ∷ []

-- rows 0 to i - 1 have no fault
abbrev pub SoundTo : List ℕ → ℕ → Type 0
SoundTo f i = (j : ℕ) → j < i → None (row_table f j)

pub record CheckTables (low high : ℕ) (f : List ℕ) : Type 0 where
  -- 20 to 24 carry row 0
  pub head : Lines (λ k. check_between low high f ≡ answer k 0) Unit (head_table low high f)
  -- 25 to 30 and 34 carry the first row that has a fault
  pub rows : (i : ℕ) → Lines (λ k. check_between low high f ≡ answer k i) (None (head_table low high f) × ((i < count_of f) × SoundTo f i)) (row_table f i)
  -- 31, and 0, carry row 0
  pub end : Lines (λ k. check_between low high f ≡ answer k 0) (None (head_table low high f) × SoundTo f (count_of f)) (end_table f)
  pub success : (check_between low high f ≡ answer 0 0) ↔ ((None (head_table low high f) × SoundTo f (count_of f)) × None (end_table f))

-- for every range of editions: of a draft, of a file of one edition, and of a file of either
abbrev pub CheckNumbers : Type 0
CheckNumbers = (low high : ℕ) (f : List ℕ) → CheckTables low high f

pub record Numbers : Type 0 where
  pub seal : SealNumbers
  pub unseal : OpenNumbers
  pub start : StartNumbers
  pub associated : DataNumbers
  pub message : PartNumbers
  pub finish : EndNumbers
  pub check : CheckNumbers
