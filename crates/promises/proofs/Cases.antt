-- Read `Tables` first: a test *tells* a proposition when it is true exactly where the proposition holds, and a ladder of tests
-- that tell their lines gives the table's numbers. Here each definition is such a ladder: the tests before an outcome say when
-- it is reached, and so give its case.
use mathlib.Core.Path.{◌≡◌, refl, sym, ap, ◌∙◌}
use mathlib.Core.Logic.{◌⊎◌, ⊎_elim}
use mathlib.Core.Bool.{Bool, true, false, cond, not, ◌||◌, true≢false}
use Prim.Native.Nat.{ℕ, ◌<◌}
use native.Mathlib.Omega.{arith}
use mathlib.Core.List.{List}
use lib.ListN.{length}
use lib.Dec.{eqb, ltb}
use borrow.Author.Tests.{eqb-true, eqb-false, eq-eqb, ne_eqb, lt-ltb, le-ltb}
use Rattle.cipher.specs.Cipher.{Seals}
use Rattle.shift_format.specs.Format.{count_of, first_edition, newest, row_size_of, row_of, tag_of, station_of}
use Rattle.status.specs.declared.checked.Answer.{Answer}
use Rattle.status.specs.Answers.{answer}
use Rattle.shift_check.specs.Check.{nonce_seen, head_number, and_then, check_as, check_file}
use Rattle.shift_format.specs.Inside.{EntryIn}
use Rattle.shift_check.proofs.Searches.{first-at, first-none}
use Rattle.shift_lookup.specs.Lookup.{lookup_job}
use Rattle.shift_jobs.specs.Opening.{entry_opening, JobOpened, left, row_opening, job_opening}
use Rattle.shift_lookup.proofs.Lookups.{found_in}
use Rattle.shift_lookup.proofs.Finding.{finds}
use Rattle.shift_lookup.specs.Halving.{Walk, ends, halving, jobs_of}
use Rattle.shift_search.specs.Searching.{searching}
use Rattle.shift_lookup.proofs.Halves.{halved_number}
use Rattle.shift_draft.specs.Files.{entry_tag}
use Rattle.shift_draft.specs.Answers.{tag_set, row_retired, tag_right, set_from, retired_from, wrong_from, lent_answer, seal_answer, open_answer, unseal_answer}
use Rattle.shift_draft.specs.Answers.{file_sealing, file_unsealing}
use Rattle.shift_draft.specs.Promised.{ZeroTag, RightTag}
use Rattle.shift_reseal.specs.Files.{retabled}
use Rattle.shift_reseal.specs.Answers.{seen_from, wrong_again, wrong_again_from, take_answer, reseal_answer, file_resealing}
use Rattle.shift_reseal.specs.Promised.{HasFour}
use Rattle.shift_compare.specs.declared.Finding.{Finding}
use Rattle.shift_compare.specs.Comparing.{only_first, only_second, differing, refused_in, Comparison, stopped, too_long_of, listed, comparison}
use Rattle.shift_editions.specs.Files.{moved}
use Rattle.shift_editions.specs.Answers.{stations_from, length_answer, up_answer, back_answer, to_edition2_of, to_edition1_of}
use Rattle.shift_editions.specs.Promised.{done}
use Rattle.shift_editions.proofs.Promised.{back_short}
use Rattle.shift_report.specs.Reporting.{job_of, tag_number, front, entries, Report, stopped as unreported, longest, reporting}
use Rattle.shift_report.proofs.Tags.{number_is}
use Rattle.promises.specs.Numbers.{head_table}
use Rattle.promises.specs.Cases.{HeadNumbers, LookupCases, JobCases, SearchCases, BothPass, CompareCases, unmoved, UpCases, BackCases, ReportCases}
use Rattle.promises.specs.Cases.{SealOrder, UnsealOrder, ResealOrder, Cases}
use Rattle.promises.proofs.Tables.{Tells, tells_eq, tells_lt, tells_same, tells_not, tells_or, tells_and, tells_true, not_told, ladder, By, lines, table}
use Rattle.promises.proofs.Tables.{answers}
use Rattle.promises.proofs.Checks.{head_rungs, head_is, none-head}
use Rattle.promises.proofs.Orders.{first_row, then-none, order}
use Rattle.promises.proofs.RowCases.{contents-cases}

head_numbers : HeadNumbers
head_numbers low high f = table _ (head_table low high f) (head_rungs low high f) refl (head_is low high f)

lookup_cases : (f : List ℕ) (job : ℕ) → LookupCases f job
unfolding lookup_job
lookup_cases f job = record { checked = λ n. simp (ne_eqb (check_file f).number 0 n); passed = finds f job }

-- ---- the search

module _ (f : List ℕ) (job : ℕ) where
  abbrev H : ℕ
  H = head_number first_edition newest f

  search-stops : (H ≡ 0 → ⊥) → searching f job ≡ ends (answer H 0)
  unfolding searching
  search-stops n = simp (ne_eqb H 0 n)

  search-goes : H ≡ 0 → searching f job ≡ halving (jobs_of (row_size_of f) f) job 0 (count_of f)
  unfolding searching
  search-goes z = simp z

  -- a number that the binary search does not give is the head's
  search-by : (k : ℕ) → (k ≡ 0 → ⊥) → (k ≡ 32 → ⊥) → By (λ j. searching f job ≡ ends (answer j 0)) Unit
      (ladder Unit (head_table first_edition newest f) (head_rungs first_edition newest f)) k
  search-by k n0 n32 = (
    λ e. (tt, sym (head_is first_edition newest f) ∙ on (eqb H 0) refl e),
    λ y.
        let h : H ≡ k = head_is first_edition newest f ∙ y.1 in
        search-stops (λ z. n0 (sym h ∙ z)) ∙ ap (λ (m : ℕ). ends (answer m 0)) h,
  )
    where
      said : Walk → ℕ
      said x = x.says.number

      on : (b : Bool) → eqb H 0 ≡ b → searching f job ≡ ends (answer k 0) → H ≡ k
      on true t e =
          let q = ap said (sym (search-goes (eqb-true H 0 t)) ∙ e) in
          absurd (⊎_elim (λ z. n0 (sym q ∙ z)) (λ z. n32 (sym q ∙ z)) (halved_number (jobs_of (row_size_of f) f) job (count_of f) 0 (count_of f) (omega arith)))
      on false t e = ap said (sym (search-stops (eqb-false H 0 t)) ∙ e)

  search-cases : SearchCases f job
  search-cases = record {
    head = lines (λ k. searching f job ≡ ends (answer k 0)) Unit (head_table first_edition newest f) (head_rungs first_edition newest f) refl (
      search-by 20 (λ e. omega arith) (λ e. omega arith),
      (
        search-by 21 (λ e. omega arith) (λ e. omega arith),
        (
          search-by 22 (λ e. omega arith) (λ e. omega arith),
          (
            search-by 23 (λ e. omega arith) (λ e. omega arith),
            (search-by 24 (λ e. omega arith) (λ e. omega arith), tt),
          ),
        ),
      ),
    );
    halved = λ h. search-goes ((none-head first_edition newest f).1 h);
  }

-- ---- compare

module _ (f g x y z : List ℕ) where
  -- a list that is longer than its buffer
  abbrev Longer : Type 0
  Longer = (length x < length (only_first f g)) ⊎ ((length y < length (only_second f g)) ⊎ (length z < length (differing f g)))

  tells-longer : Tells (too_long_of f g x y z) Longer
  tells-longer = tells_or (tells_lt _ _) (tells_or (tells_lt _ _) (tells_lt _ _))

  in_first : ((check_file f).number ≡ 0 → ⊥) → comparison f g x y z ≡ stopped (refused_in 1 (check_file f)) x y z
  unfolding comparison
  in_first n = simp (ne_eqb (check_file f).number 0 n)

  in_second : (check_file f).number ≡ 0 → ((check_file g).number ≡ 0 → ⊥) → comparison f g x y z ≡ stopped (refused_in 2 (check_file g)) x y z
  unfolding comparison
  in_second p n = simp (p, ne_eqb (check_file g).number 0 n)

  past : (b : Bool) → BothPass f g → too_long_of f g x y z ≡ b → comparison f g x y z ≡ cond b (stopped (refused_in 0 (answer 36 0)) x y z) (listed f g x y z)
  unfolding comparison
  past b h t = simp (h.0, h.1, t)

  -- one of four things happened
  compare-by : (P : Type 0)
      → (((check_file f).number ≡ 0 → ⊥) → comparison f g x y z ≡ stopped (refused_in 1 (check_file f)) x y z → P)
      → (((check_file g).number ≡ 0 → ⊥) → comparison f g x y z ≡ stopped (refused_in 2 (check_file g)) x y z → P)
      → (BothPass f g → Longer → comparison f g x y z ≡ stopped (refused_in 0 (answer 36 0)) x y z → P)
      → (BothPass f g → (Longer → ⊥) → comparison f g x y z ≡ listed f g x y z → P)
      → P
  compare-by P a b c d = on (eqb (check_file f).number 0) (eqb (check_file g).number 0) (too_long_of f g x y z) refl refl refl
    where
      on : (r s t : Bool) → eqb (check_file f).number 0 ≡ r → eqb (check_file g).number 0 ≡ s → too_long_of f g x y z ≡ t → P
      on false s t p q l = let n = eqb-false (check_file f).number 0 p in a n (in_first n)
      on true false t p q l = let n = eqb-false (check_file g).number 0 q in b n (in_second (eqb-true (check_file f).number 0 p) n)
      on true true true p q l =
          let h : BothPass f g = (eqb-true (check_file f).number 0 p, eqb-true (check_file g).number 0 q) in c h (tells-longer.0 l) (past true h l)
      on true true false p q l =
          let h : BothPass f g = (eqb-true (check_file f).number 0 p, eqb-true (check_file g).number 0 q) in d h (λ w. true≢false (sym (tells-longer.1 w) ∙ l))
          (past false h l)

  abbrev told : Comparison → Finding
  told c = c.finding

  compare-cases : CompareCases f g x y z
  compare-cases =
      record {
        room-number = (
          (
            λ e. compare-by _
                (λ n s. absurd (one-zero (ap (λ (t : Finding). t.file) (sym (ap told s) ∙ e))))
                (λ n s. absurd (two-zero (ap (λ (t : Finding). t.file) (sym (ap told s) ∙ e))))
                (λ h w s. (h, w))
                (λ h w s. absurd (zero_room (ap (λ (t : Finding). t.number) (sym (ap told s) ∙ e)))),
            λ h. ap told (past true h.0 (tells-longer.1 h.1)),
          ),
          tt,
        );
        success = (
          λ e. compare-by _
              (λ n s. absurd (n (ap (λ (t : Comparison). t.finding.number) (sym s) ∙ e)))
              (λ n s. absurd (n (ap (λ (t : Comparison). t.finding.number) (sym s) ∙ e)))
              (λ h w s. absurd (zero_room (sym e ∙ ap (λ (t : Comparison). t.finding.number) s)))
              (λ h w s. (h, (w, tt))),
          λ h. ap (λ (t : Comparison). t.finding.number) (past false h.0 (not_told tells-longer h.1.0)),
        );
        first = in_first;
        second = in_second;
        room = λ p q h. past true (p, q) (tells-longer.1 h);
        lists =
            λ p q a b c. past false (p, q) (simp (
              le-ltb (length x) (length (only_first f g)) a,
              le-ltb (length y) (length (only_second f g)) b,
              le-ltb (length z) (length (differing f g)) c,
            ));
      }
    where
      one-zero : ◌≡◌ {A = ℕ} 1 0 → ⊥
      one-zero e = omega arith

      two-zero : ◌≡◌ {A = ℕ} 2 0 → ⊥
      two-zero e = omega arith

      zero_room : ◌≡◌ {A = ℕ} 0 36 → ⊥
      zero_room e = omega arith

-- ---- the moves

-- two tests, one after the other
two_said : (a b : Bool) (k l : ℕ) → cond a (answer k 0) (cond b (answer l 0) (answer 0 0)) ≡ answer (cond a k (cond b l 0)) 0
two_said true b k l = refl
two_said false true k l = refl
two_said false false k l = refl

up_cases : (f out : List ℕ) → UpCases f out
unfolding to_edition2_of up_answer length_answer
up_cases f out =
    record {
      numbers = λ p.
          answers (to_edition2_of f out).answer 0 _ (
            ltb 1048576 (length (moved newest f)),
            λ _. tells_lt _ _,
            (
              not (eqb (length out) (length (moved newest f))),
              λ _. tells_not (tells_eq _ _),
              tt,
            ),
          ) refl (simp p (two_said (ltb 1048576 (length (moved newest f))) (not (eqb (length out) (length (moved newest f)))) 20 6));
      checked = λ n. simp (ne_eqb (check_as first_edition f).number 0 n);
      long = λ p l. simp (p, lt-ltb 1048576 (length (moved newest f)) l);
      room = λ p l n. simp (p, le-ltb 1048576 (length (moved newest f)) l, ne_eqb (length out) (length (moved newest f)) n);
      moves = λ p l e. simp (p, le-ltb 1048576 (length (moved newest f)) l, eq-eqb (length out) (length (moved newest f)) e);
    }

module _ (f out : List ℕ) where
  abbrev AllZero : ℕ → Type 0
  AllZero k = (i : ℕ) → i < k → station_of f i ≡ 0

  back-stops : ((check_as newest f).number ≡ 0 → ⊥) → to_edition1_of f out ≡ record { answer = check_as newest f; out = out }
  unfolding to_edition1_of back_answer
  back-stops n = simp (ne_eqb (check_as newest f).number 0 n)

  back-station : (check_as newest f).number ≡ 0 → (i : ℕ) → i < count_of f → (station_of f i ≡ 0 → ⊥) → AllZero i → to_edition1_of f out ≡ unmoved 35 i out
  unfolding to_edition1_of back_answer stations_from
  back-station p i l n q =
      simp (p, first-at (λ j. not (eqb (station_of f j) 0)) (answer 35) (answer 0 0) (count_of f) i l (simp (ne_eqb (station_of f i) 0 n)) (λ j m. simp (q j m)))

  none : AllZero (count_of f) → stations_from f (count_of f) 0 ≡ answer 0 0
  unfolding stations_from
  none q = first-none (λ j. not (eqb (station_of f j) 0)) (answer 35) (answer 0 0) (count_of f) (λ j m. simp (q j m))

  back-past : (b : Bool) → (check_as newest f).number ≡ 0 → AllZero (count_of f) → eqb (length out) (length (moved first_edition f)) ≡ b
      → to_edition1_of f out ≡ cond b (done (moved first_edition f)) (unmoved 6 0 out)
  unfolding to_edition1_of back_answer length_answer
  back-past true p q e = simp (p, none q, le-ltb 1048576 (length (moved first_edition f)) (back_short f p), e)
  back-past false p q e = simp (p, none q, le-ltb 1048576 (length (moved first_edition f)) (back_short f p), e)

  -- 20 cannot come out
  back-climb : (check_as newest f).number ≡ 0 → (to_edition1_of f out).answer
      ≡ and_then (first_row 35 (count_of f) (λ i. not (eqb (station_of f i) 0)))
      (cond (not (eqb (length out) (length (moved first_edition f)))) (answer 6 0) (answer 0 0))
  unfolding to_edition1_of back_answer stations_from length_answer
  back-climb p = simp (p, le-ltb 1048576 (length (moved first_edition f)) (back_short f p))

  back-cases : BackCases f out
  back-cases =
      record {
        numbers = λ p.
            order (to_edition1_of f out).answer _ (
              λ i. not (eqb (station_of f i) 0),
              λ i. tells_not (tells_eq _ 0),
              (
                not (eqb (length out) (length (moved first_edition f))),
                tells_not (tells_eq _ _),
                tt,
              ),
            ) refl (back-climb p);
        checked = back-stops;
        station = back-station;
        room = λ p q n. back-past false p q (ne_eqb (length out) (length (moved first_edition f)) n);
        moves = λ p q e. back-past true p q (eq-eqb (length out) (length (moved first_edition f)) e);
      }

-- ---- the report

report_cases : (f ring jobs numbers : List ℕ) → ReportCases f ring jobs numbers
unfolding reporting
report_cases f ring jobs numbers =
    record {
      numbered = λ l p.
          table _ _ (
            not (eqb (length ring) 256),
            λ _. tells_not (tells_eq _ _),
            (
              ltb (length jobs) (count_of f) || ltb (length numbers) (count_of f),
              λ _. tells_or (tells_lt _ _) (tells_lt _ _),
              tt,
            ),
          ) refl (simp (le-ltb longest (length f) l, p) (said (not (eqb (length ring) 256))
          (ltb (length jobs) (count_of f) || ltb (length numbers) (count_of f))));
      long = λ l. simp (lt-ltb longest (length f) l);
      checked = λ l n. simp (le-ltb longest (length f) l, ne_eqb (check_file f).number 0 n);
      ring-wrong = λ l p n. simp (le-ltb longest (length f) l, p, ne_eqb (length ring) 256 n);
      room = λ l p g h. simp (le-ltb longest (length f) l, p, g, (tells_or (tells_lt (length jobs) (count_of f)) (tells_lt (length numbers) (count_of f))).1 h);
      lines = λ l p g a b. simp (le-ltb longest (length f) l, p, g, le-ltb (length jobs) (count_of f) a, le-ltb (length numbers) (count_of f) b);
    }
  where
    lists : Report
    lists = record { said = entries (count_of f); jobs = front (job_of f) (count_of f) jobs; numbers = front (tag_number f ring) (count_of f) numbers }

    said : (a b : Bool) → (cond a (unreported (answer 2 0) jobs numbers) (cond b (unreported (answer 6 0) jobs numbers) lists)).said.number
        ≡ cond a 2 (cond b 6 0)
    said true b = refl
    said false true = refl
    said false false = refl

-- ---- opening a job

tag_number_lem : (f ring : List ℕ) (i : ℕ) → tag_number f ring i ≡ cond (not (tag_right f ring i)) 8 0
unfolding tag_number
tag_number_lem f ring i = by (tag_right f ring i)
  where
    by : (b : Bool) → ◌≡◌ {A = ℕ} (cond b 0 8) (cond (not b) 8 0)
    by true = refl
    by false = refl

row-said : (f ring : List ℕ) (i : ℕ) (out : List ℕ) → EntryIn (row_size_of f) f i
    → (row_opening f ring i out).answer ≡ answer (cond (not (eqb (length ring) 256)) 2
    (cond (not (eqb (length out) (row_of f i).text_len)) 6 (cond (not (tag_right f ring i)) 8 0))) 0
unfolding row_opening
row-said f ring i out h = by (eqb (length ring) 256) (eqb (length out) (row_of f i).text_len) refl refl
  where
    opened : JobOpened
    opened = left (answer (entry_opening f ring i out).number 0) (entry_opening f ring i out).out

    by : (a b : Bool) → eqb (length ring) 256 ≡ a → eqb (length out) (row_of f i).text_len ≡ b
        → (cond (not a) (left (answer 2 0) out) (cond (not b) (left (answer 6 0) out) opened)).answer
        ≡ answer (cond (not a) 2 (cond (not b) 6 (cond (not (tag_right f ring i)) 8 0))) 0
    by false b p q = refl
    by true false p q = refl
    by true true p q =
        ap (λ (m : ℕ). answer m 0) (number_is f ring i h (eqb-true (length ring) 256 p) _ _ out (eqb-true (length out) (row_of f i).text_len q) refl
        ∙ tag_number_lem f ring i)

tells_tag : (f ring : List ℕ) (i : ℕ) → Tells (tag_right f ring i) (RightTag f ring i)
unfolding tag_right
tells_tag f ring i = tells_same (entry_tag true f ring i) (tag_of f (row_of f i))

job_cases : (f ring : List ℕ) (job : ℕ) (out : List ℕ) → JobCases f ring job out
unfolding job_opening
job_cases f ring job out =
    record {
      checked = λ n. simp (ne_eqb (lookup_job f job).number 0 n);
      found = λ i q.
          answers (job_opening f ring job out).answer 0 _ (
            not (eqb (length ring) 256),
            λ _. tells_not (tells_eq _ _),
            (
              not (eqb (length out) (row_of f i).text_len),
              λ _. tells_not (tells_eq _ _),
              (
                not (tag_right f ring i),
                λ _. tells_not (tells_tag f ring i),
                tt,
              ),
            ),
          ) refl (simp q (row-said f ring i out (found_in f job i q)));
    }

-- ---- the writer and the reseal pass

-- a test after a check that stands, and one after the lengths
then_then : (x y r : Answer) → and_then (and_then x y) r ≡ and_then x (and_then y r)
then_then x y r = by (eqb x.number 0) refl
  where
    by : (b : Bool) → eqb x.number 0 ≡ b → and_then (cond b y x) r ≡ cond b (and_then y r) x
    by true e = refl
    by false e = simp e

lent_then : (a b : Bool) (r : Answer) → and_then (cond a (answer 2 0) (cond b (answer 6 0) (answer 0 0))) r ≡ cond a (answer 2 0) (cond b (answer 6 0) r)
lent_then true b r = refl
lent_then false true r = refl
lent_then false false r = refl

eight : ◌≡◌ {A = ℕ} 8 0 → ⊥
eight e = omega arith

tells_set : (draft : List ℕ) (i : ℕ) → Tells (tag_set draft i) (ZeroTag draft i → ⊥)
unfolding tag_set
tells_set draft i = tells_not (tells_same _ _)

tells_retired : (f : List ℕ) (i : ℕ) → Tells (row_retired f i) (Seals (row_of f i).suite → ⊥)
unfolding row_retired
tells_retired f i = tells_not (tells_true _)

seal_order : SealOrder
unfolding file_sealing seal_answer set_from retired_from lent_answer
seal_order draft ring out p =
    order (file_sealing draft ring out).answer _ (
      tag_set draft,
      tells_set draft,
      (
        row_retired draft,
        tells_retired draft,
        (
          not (eqb (length ring) 256),
          tells_not (tells_eq _ _),
          (
            not (eqb (length out) (length draft)),
            tells_not (tells_eq _ _),
            tt,
          ),
        ),
      ),
    ) refl (simp p)

unseal_order : UnsealOrder
unfolding file_unsealing unseal_answer open_answer lent_answer wrong_from
unseal_order file ring out p =
    let a = not (eqb (length ring) 256) in
    let b = not (eqb (length out) (length file)) in
    let w = first_row 8 (count_of file) (λ j. not (tag_right file ring j)) in
    order (file_unsealing file ring out).answer _ (
      a,
      tells_not (tells_eq _ _),
      (
        b,
        tells_not (tells_eq _ _),
        (
          λ i. not (tag_right file ring i),
          λ i. tells_not (tells_tag file ring i),
          tt,
        ),
      ),
    ) refl
    (simp p (lent_then a b w) ∙ ap (λ (r : Answer). cond a (answer 2 0) (cond b (answer 6 0) r))
    (then-none 8 (count_of file) (λ j. not (tag_right file ring j)) eight))

tells_again : (f ring : List ℕ) (i : ℕ) → Tells (wrong_again f ring i) (HasFour f i × (RightTag f ring i → ⊥))
unfolding wrong_again
tells_again f ring i = tells_and (tells_eq _ _) (tells_not (tells_tag f ring i))

reseal_order : ResealOrder
unfolding file_resealing reseal_answer take_answer seen_from lent_answer wrong_again_from
reseal_order file ring out p =
    let a = not (eqb (length ring) 256) in
    let b = not (eqb (length out) (length file)) in
    let c = first_row 29 (count_of file) (nonce_seen (row_size_of (retabled file)) (retabled file)) in
    let w = first_row 8 (count_of file) (wrong_again file ring) in
    order (file_resealing file ring out).answer _ (
      nonce_seen (row_size_of (retabled file)) (retabled file),
      λ i. tells_true _,
      (
        a,
        tells_not (tells_eq _ _),
        (
          b,
          tells_not (tells_eq _ _),
          (
            wrong_again file ring,
            tells_again file ring,
            tt,
          ),
        ),
      ),
    ) refl
    (simp p (then_then c (cond a (answer 2 0) (cond b (answer 6 0) (answer 0 0))) w)
    ∙ ap (and_then c) (lent_then a b w)
    ∙ ap (λ (r : Answer). and_then c (cond a (answer 2 0) (cond b (answer 6 0) r))) (then-none 8 (count_of file) (wrong_again file ring) eight))

pub cases : Cases
cases = record {
  head = head_numbers;
  lookup = lookup_cases;
  open_job = job_cases;
  search = search-cases;
  compare = compare-cases;
  to_edition2 = up_cases;
  to_edition1 = back-cases;
  report = report_cases;
  contents = contents-cases;
  seal_file = seal_order;
  unseal_file = unseal_order;
  reseal = reseal_order;
}
