-- A shift file has at most 512 rows, so the row of every answer is at most 512 and fits C's number.
use Prim.Native.Nat.{ℕ, ◌-◌, ◌≤◌}
use native.Mathlib.Omega.{arith}
use mathlib.Core.Path.{◌≡◌, refl, sym, ap, subst}
use mathlib.Core.Bool.{Bool, true, false, not, cond}
use mathlib.Core.List.{List}
use mathlib.Core.Logic.{⊎_elim}
use lib.ListN.{length}
use lib.Dec.{eqb, ltb}
use borrow.Author.Tests.{eqb-true}
use Rattle.status.specs.declared.checked.Answer.{Answer}
use Rattle.shift_check.specs.Search.{first_of}
use Rattle.shift_format.specs.Format.{count_of, first_edition, newest, row_size_of, row_of, station_of}
use Rattle.status.specs.Answers.{answer}
use Rattle.shift_check.specs.Check.{body_start, end_answer, rows_from, head_number, and_then, check_between, check_as, check_file}
use Rattle.shift_check.proofs.Searches.{first_says}
use Rattle.shift_check.proofs.Sound.{headed}
use Rattle.shift_check.proofs.Passed.{passes, both_zero}
use Rattle.std.specs.Prelude.{Result}
use Rattle.shift_lookup.specs.declared.answers.Entry.{Entry as Place}
use Rattle.shift_lookup.specs.declared.answers.LookupError.{LookupError}
use Rattle.shift_lookup.specs.Entry.{Entry, entry_answer, entry_of}
use Rattle.shift_lookup.specs.Lookup.{find_from, lookup_job}
use Rattle.shift_jobs.specs.Opening.{entry_opening, left, row_opening, job_opening, entry_verifying}
use Rattle.shift_jobs.specs.declared.answers.Genuine.{Genuine as GenuineAt}
use Rattle.shift_jobs.specs.declared.answers.JobError.{JobError}
use Rattle.shift_jobs.specs.Genuine.{Genuine, genuine_answer, withheld, row_verifying, job_verifying}
use Rattle.shift_draft.specs.Files.{draft_edition}
use Rattle.shift_editions.specs.Files.{moved}
use Rattle.shift_editions.specs.Answers.{stations_from, length_answer, up_answer, back_answer, to_edition2_of, to_edition1_of}
use Rattle.shift_draft.specs.Answers.{tag_set, tag_right, set_from, wrong_from, lent_answer, seal_answer, open_answer, unseal_answer, file_sealing, file_unsealing}
use Rattle.shift_draft.specs.Answers.{row_retired, retired_from}
use Rattle.shift_reseal.specs.Files.{retabled}
use Rattle.shift_reseal.specs.Answers.{seen_from, wrong_again, wrong_again_from, take_answer, reseal_answer, file_resealing}
use Rattle.shift_check.specs.Check.{nonce_seen}

-- the first of n rows, or what no row gives
first_row : (hit : ℕ → Bool) (num : ℕ → ℕ) (rest : Answer) (n : ℕ) → rest.row ≤ n → (first_of hit (λ j. answer (num j) j) rest 0 (n - 0)).row ≤ n
first_row hit num rest n h =
    ⊎_elim
    (λ m. omega (arith, ap (λ (x : Answer). x.row) m.gives))
    (λ m. omega (arith, ap (λ (x : Answer). x.row) m.gives))
    (first_says hit (λ j. answer (num j) j) rest (n - 0) 0 _ refl)

-- one answer after the other
then_row : (x next : Answer) (n : ℕ) → x.row ≤ n → (x.number ≡ 0 → next.row ≤ n) → (and_then x next).row ≤ n
then_row x next n h later = go (eqb x.number 0) refl
  where
    go : (b : Bool) → eqb x.number 0 ≡ b → (cond b next x).row ≤ n
    go true e = later (eqb-true _ _ e)
    go false e = h

end_row : (w : ℕ) (f : List ℕ) (n : ℕ) → (end_answer w f n).row ≡ 0
unfolding end_answer
end_row w f n = go (eqb (body_start w f n n) (length f))
  where
    go : (b : Bool) → (cond b (answer 0 0) (answer 31 0)).row ≡ 0
    go true = refl
    go false = refl

rows_row : (w : ℕ) (f : List ℕ) (n : ℕ) → (rows_from w f n 0).row ≤ n
unfolding rows_from
rows_row w f n = first_row _ _ (end_answer w f n) n (omega (arith, end_row w f n))

find-row : (w : ℕ) (f : List ℕ) (n job : ℕ) → (find_from w f n job 0).row ≤ n
unfolding find_from
find-row w f n job = first_row _ _ (answer 32 0) n (omega arith)

pub check_row : (low high : ℕ) (f : List ℕ) → (check_between low high f).row ≤ 512
unfolding check_between
check_row low high f =
    then_row (answer (head_number low high f) 0) (rows_from (row_size_of f) f (count_of f) 0) 512 (omega arith)
    (λ z. omega (arith, (headed low high f z).few, rows_row (row_size_of f) f (count_of f)))

pub lookup-row : (f : List ℕ) (job : ℕ) → (lookup_job f job).row ≤ 512
unfolding lookup_job
lookup-row f job =
    then_row (check_file f) (find_from (row_size_of f) f (count_of f) job 0) 512 (check_row first_edition newest f)
    (λ z. omega (arith, (passes first_edition newest f z).head.few, find-row (row_size_of f) f (count_of f) job))

-- of a job's entry
pub entry-row : (r : Result Place LookupError) (f : List ℕ) (job : ℕ) → entry_answer r ≡ entry_of f job → (entry_answer r).row ≤ 512
entry-row r f job e = subst (λ (w : Entry). w.row ≤ 512) (sym e) (lookup-row f job)

opened-row : (f ring : List ℕ) (i : ℕ) (out₀ : List ℕ) → (row_opening f ring i out₀).answer.row ≡ 0
unfolding row_opening
opened-row f ring i out₀ = go (not (eqb (length ring) 256)) (not (eqb (length out₀) (row_of f i).text_len))
  where
    go : (b c : Bool)
        → (cond b (left (answer 2 0) out₀) (cond c (left (answer 6 0) out₀)
        (left (answer (entry_opening f ring i out₀).number 0) (entry_opening f ring i out₀).out))).answer.row ≡ 0
    go true c = refl
    go false true = refl
    go false false = refl

pub job-row : (f ring : List ℕ) (job : ℕ) (out₀ : List ℕ) → (job_opening f ring job out₀).answer.row ≤ 512
unfolding job_opening
job-row f ring job out₀ = go (eqb (lookup_job f job).number 0)
  where
    go : (b : Bool) → (cond b (row_opening f ring (lookup_job f job).row out₀) (left (lookup_job f job) out₀)).answer.row ≤ 512
    go true = omega (arith, opened-row f ring (lookup_job f job).row out₀)
    go false = lookup-row f job

tested_row : (f ring : List ℕ) (i : ℕ) → (row_verifying f ring i).row ≡ 0
unfolding row_verifying
tested_row f ring i = go (eqb (length ring) 256) (eqb (entry_verifying f ring i) 0)
  where
    go : (b c : Bool)
        → (cond (not b) (withheld 2 0) (cond (not c) (withheld (entry_verifying f ring i) 0)
        (record { number = 0; row = 0; ad_at = (row_of f i).ad_at; ad_len = (row_of f i).ad_len }))).row ≡ 0
    go false c = refl
    go true false = refl
    go true true = refl

pub verified-row : (f ring : List ℕ) (job : ℕ) → (job_verifying f ring job).row ≤ 512
unfolding job_verifying
verified-row f ring job = go (eqb (lookup_job f job).number 0)
  where
    go : (b : Bool) → (cond b (row_verifying f ring (lookup_job f job).row) (withheld (lookup_job f job).number (lookup_job f job).row)).row ≤ 512
    go true = omega (arith, tested_row f ring (lookup_job f job).row)
    go false = lookup-row f job

-- of a verified entry
pub genuine-row : (r : Result GenuineAt JobError) (f ring : List ℕ) (job : ℕ) → genuine_answer r ≡ job_verifying f ring job → (genuine_answer r).row ≤ 512
genuine-row r f ring job e = subst (λ (w : Genuine). w.row ≤ 512) (sym e) (verified-row f ring job)

-- the writer's answers
lent_row : (file ring out : ℕ) → (lent_answer file ring out).row ≤ 512
unfolding lent_answer
lent_row file ring out = go (eqb ring 256) (eqb out file)
  where
    go : (a b : Bool) → (cond (not a) (answer 2 0) (cond (not b) (answer 6 0) (answer 0 0))).row ≤ 512
    go false b = omega arith
    go true false = omega arith
    go true true = omega arith

pub sealed-row : (draft ring out₀ : List ℕ) → (file_sealing draft ring out₀).answer.row ≤ 512
unfolding file_sealing seal_answer set_from retired_from
sealed-row draft ring out₀ =
    let lent = lent_answer (length draft) (length ring) (length out₀) in
    let retired = retired_from draft (count_of draft) 0 in
    let set = set_from draft (count_of draft) 0 in
    then_row (check_as draft_edition draft) (and_then set (and_then retired lent)) 512 (check_row draft_edition draft_edition draft)
    (λ z. then_row set (and_then retired lent) 512
    (omega (arith, (passes draft_edition draft_edition draft z).head.few, first_row (tag_set draft) (λ j. 33) (answer 0 0) (count_of draft) (omega arith)))
    (λ y. then_row retired lent 512
    (omega (arith, (passes draft_edition draft_edition draft z).head.few, first_row (row_retired draft) (λ j. 10) (answer 0 0) (count_of draft) (omega arith)))
    (λ x. lent_row (length draft) (length ring) (length out₀))))

pub unsealed-row : (file ring out₀ : List ℕ) → (file_unsealing file ring out₀).answer.row ≤ 512
unfolding file_unsealing unseal_answer open_answer wrong_from
unsealed-row file ring out₀ =
    let lent = lent_answer (length file) (length ring) (length out₀) in
    then_row (and_then (check_as first_edition file) lent) (wrong_from file ring (count_of file) 0) 512
    (then_row (check_as first_edition file) lent 512 (check_row first_edition first_edition file) (λ z. lent_row (length file) (length ring) (length out₀)))
    (λ z. omega (
      arith,
      (passes first_edition first_edition file (both_zero (check_as first_edition file) lent z).0).head.few,
      first_row (λ j. not (tag_right file ring j)) (λ j. 8) (answer 0 0) (count_of file) (omega arith),
    ))

-- the reseal pass's
pub resealed_row : (file ring out₀ : List ℕ) → (file_resealing file ring out₀).answer.row ≤ 512
unfolding file_resealing reseal_answer take_answer seen_from wrong_again_from
resealed_row file ring out₀ =
    let lent = lent_answer (length file) (length ring) (length out₀) in
    let seen = seen_from (retabled file) (count_of file) 0 in
    then_row (and_then (check_as first_edition file) (and_then seen lent)) (wrong_again_from file ring (count_of file) 0) 512
    (then_row (check_as first_edition file) (and_then seen lent) 512 (check_row first_edition first_edition file)
    (λ z. then_row seen lent 512
    (omega (
      arith,
      (passes first_edition first_edition file z).head.few,
      first_row (nonce_seen (row_size_of (retabled file)) (retabled file)) (λ j. 29) (answer 0 0)
          (count_of file) (omega arith),
    ))
    (λ y. lent_row (length file) (length ring) (length out₀))))
    (λ z. omega (
      arith,
      (passes first_edition first_edition file (both_zero (check_as first_edition file) (and_then seen lent) z).0).head.few,
      first_row (wrong_again file ring) (λ j. 8) (answer 0 0) (count_of file) (omega arith),
    ))

-- the moves' answers
length-row : (new out : ℕ) → (length_answer new out).row ≤ 512
unfolding length_answer
length-row new out = go (ltb 1048576 new) (eqb out new)
  where
    go : (a b : Bool) → (cond a (answer 20 0) (cond (not b) (answer 6 0) (answer 0 0))).row ≤ 512
    go true b = omega arith
    go false true = omega arith
    go false false = omega arith

pub up_row : (file out₀ : List ℕ) → (to_edition2_of file out₀).answer.row ≤ 512
unfolding to_edition2_of up_answer
up_row file out₀ =
    let new = length_answer (length (moved newest file)) (length out₀) in
    then_row (check_as first_edition file) new 512 (check_row first_edition first_edition file) (λ z. length-row (length (moved newest file)) (length out₀))

pub back_row : (file out₀ : List ℕ) → (to_edition1_of file out₀).answer.row ≤ 512
unfolding to_edition1_of back_answer stations_from
back_row file out₀ =
    let new = length_answer (length (moved first_edition file)) (length out₀) in
    then_row (check_as newest file) (and_then (stations_from file (count_of file) 0) new) 512 (check_row newest newest file)
    (λ z. then_row (stations_from file (count_of file) 0) new 512
    (omega (arith, (passes newest newest file z).head.few, first_row (λ j. not (eqb (station_of file j) 0)) (λ j. 35) (answer 0 0) (count_of file) (omega arith)))
    (λ y. length-row (length (moved first_edition file)) (length out₀)))
