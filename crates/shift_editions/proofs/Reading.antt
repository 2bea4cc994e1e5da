-- Two files that pass, with the same rows but for their offsets and the same bodies from there on, read the same; a file and the moved one are such.
use Prim.Native.Nat.{ℕ, ◌+◌, ◌-◌, ◌^◌, ◌≤◌, ◌<◌}
use native.Mathlib.Omega.{arith}
use mathlib.Core.Path.{◌≡◌, refl, sym, ap, ap₂, ◌∙◌}
use mathlib.Core.Bool.{Bool, true, false, cond}
use mathlib.Core.List.{List}
use lib.ListN.{length, take, drop}
use lib.Seq.{drop-drop}
use lib.Dec.{eqb, lit≤}
use borrow.Author.Tests.{eqb-true}
use Rattle.cipher.specs.Cipher.{size_of}
use Rattle.comet.specs.Answers as comet
use Rattle.shift_format.specs.declared.row.Row.{Row}
use Rattle.status.specs.declared.checked.Answer.{Answer}
use Rattle.shift_format.specs.Part.{stretch}
use Rattle.shift_format.specs.Format.{count_of, first_edition, newest, row_size, row_size_of, row_at, nonce_at, nonce_read_at, row_of, data_of, text_of, tag_of, body_end}
use Rattle.status.specs.Answers.{answer}
use Rattle.shift_check.specs.Check.{check_file}
use Rattle.shift_format.proofs.Rows.{row_broad}
use Rattle.shift_check.proofs.Passed.{passes}
use Rattle.shift_check.proofs.Kept.{wider}
use Rattle.shift_lookup.specs.Lookup.{lookup_job}
use Rattle.shift_lookup.specs.Entry.{data_start, data_length}
use Rattle.shift_jobs.specs.Opening.{ring_key, nonce_read, entry_opening, left, row_opening, job_opening}
use Rattle.shift_lookup.proofs.Lookups.{holding}
use Rattle.shift_lookup.specs.Halving.{Walk, halving, jobs_of}
use Rattle.shift_search.specs.Searching.{searching}
use Rattle.shift_lookup.proofs.Halves.{jobs_same}
use Rattle.shift_search.proofs.Promised.{goes, same_as_lookup}
use Rattle.shift_editions.specs.Files.{carried, moved}
use Rattle.shift_editions.specs.Answers.{to_edition2_of, to_edition1_of}
use Rattle.shift_editions.specs.Promised.{RowKept, UpKeeps, BackKeeps, SameRead, UpReads, BackReads}
use Rattle.shift_editions.proofs.Laid.{file-long}
use Rattle.shift_editions.proofs.Kept.{body-from}
use Rattle.shift_editions.proofs.Passing.{low, row, nonce, reads}
use Rattle.shift_editions.proofs.Done.{Goes, NoStation, up_goes, back_goes, up_is, back_is}
use Rattle.shift_editions.proofs.Promised.{new-row-size, new-count, new_none, new-passes, one, two, one_none, out_of}

-- a row, its body carried
abbrev carried_row : ℕ → ℕ → ℕ → Row → Row
carried_row w v n r =
    record { job = r.job; suite = r.suite; key = r.key; ad_len = r.ad_len; ad_at = carried w v n r.ad_at; text_len = r.text_len }

-- both pass, and every row of g is that of f, but for where its body lies
pub record Alike (f g : List ℕ) : Type 0 where
  pub old : (check_file f).number ≡ 0
  pub new : (check_file g).number ≡ 0
  pub count : count_of g ≡ count_of f
  pub job : (i : ℕ) → i < count_of f → (row_of g i).job ≡ (row_of f i).job
  pub suite : (i : ℕ) → i < count_of f → (row_of g i).suite ≡ (row_of f i).suite
  pub key : (i : ℕ) → i < count_of f → (row_of g i).key ≡ (row_of f i).key
  pub extra : (i : ℕ) → i < count_of f → (row_of g i).ad_len ≡ (row_of f i).ad_len
  pub len : (i : ℕ) → i < count_of f → (row_of g i).text_len ≡ (row_of f i).text_len
  pub nonce : (i : ℕ) → i < count_of f → nonce_read g i ≡ nonce_read f i
  pub body : (i : ℕ) → i < count_of f → drop (row_of g i).ad_at g ≡ drop (row_of f i).ad_at f

module _ (f g : List ℕ) (h : Alike f g) where
  -- the same rows are looked at
  searched : (job : ℕ) → searching g job ≡ searching f job
  searched job =
      let n = count_of f in
      goes g job (passes first_edition newest g h.new).zero
      ∙ ap (halving (jobs_of (row_size_of g) g) job 0) h.count
      ∙ jobs_same (jobs_of (row_size_of g) g) (jobs_of (row_size_of f) f) job n 0 n (omega arith) (λ i a b. h.job i (omega arith))
      ∙ sym (goes f job (passes first_edition newest f h.old).zero)

  found : (job : ℕ) → lookup_job g job ≡ lookup_job f job
  found job = sym (same_as_lookup g job h.new) ∙ ap (λ (x : Walk). x.says) (searched job) ∙ same_as_lookup f job h.old

  -- a row that was found is one of the table
  within : (job : ℕ) → eqb (lookup_job f job).number 0 ≡ true → (lookup_job f job).row < count_of f
  within job e = let i = (lookup_job f job).row in (holding f job i (ap (λ (m : ℕ). answer m i) (eqb-true _ _ e))).within

  module _ (i : ℕ) (l : i < count_of f) where
    -- k bytes on in the body, m bytes
    part : (k k' m m' : ℕ) → k ≡ k' → m ≡ m' → stretch g ((row_of g i).ad_at + k) m ≡ stretch f ((row_of f i).ad_at + k') m'
    part k k' m m' q r =
        ap (take m) (sym (drop-drop k (row_of g i).ad_at g))
        ∙ (λ t. take (r t) (drop (q t) (h.body i l t)))
        ∙ ap (take m') (drop-drop k' (row_of f i).ad_at f)

    data-same : data_of g (row_of g i) ≡ data_of f (row_of f i)
    data-same = ap₂ take (h.extra i l) (h.body i l)

    text_same : text_of g (row_of g i) ≡ text_of f (row_of f i)
    text_same = part (row_of g i).ad_len (row_of f i).ad_len (row_of g i).text_len (row_of f i).text_len (h.extra i l) (h.len i l)

    tag_same : tag_of g (row_of g i) ≡ tag_of f (row_of f i)
    tag_same =
        let r = row_of g i in
        let s = row_of f i in
        let a : r.ad_at + r.ad_len + r.text_len ≡ r.ad_at + (r.ad_len + r.text_len) = omega arith in
        let b : s.ad_at + (s.ad_len + s.text_len) ≡ s.ad_at + s.ad_len + s.text_len = omega arith in
        ap (λ (k : ℕ). stretch g k (size_of r.suite)) a
        ∙ part (r.ad_len + r.text_len) (s.ad_len + s.text_len) (size_of r.suite) (size_of s.suite)
        (ap₂ (λ (x y : ℕ). x + y) (h.extra i l) (h.len i l)) (ap size_of (h.suite i l))
        ∙ ap (λ (k : ℕ). stretch f k (size_of s.suite)) b

    opener-same : (ring out : List ℕ) → entry_opening g ring i out ≡ entry_opening f ring i out
    unfolding entry_opening
    opener-same ring out =
        λ t. comet.opening (h.suite i l t) (ring_key ring (h.key i l t)) (h.nonce i l t) (data-same t) (text_same t) (tag_same t) out

    row_opened : (ring out : List ℕ) → row_opening g ring i out ≡ row_opening f ring i out
    unfolding row_opening
    row_opened ring out = simp (h.len i l, opener-same ring out)

  associated : (job : ℕ)
      → stretch g (data_start g (lookup_job g job)) (data_length g (lookup_job g job)) ≡ stretch f (data_start f (lookup_job f job)) (data_length f (lookup_job f job))
  unfolding data_start data_length
  associated job =
      let x = lookup_job f job in
      ap (λ (y : Answer). stretch g (data_start g y) (data_length g y)) (found job) ∙ data-case (eqb x.number 0) refl
    where
      i : ℕ
      i = (lookup_job f job).row

      data-case : (b : Bool) → eqb (lookup_job f job).number 0 ≡ b
          → stretch g (cond b (row_of g i).ad_at 0) (cond b (row_of g i).ad_len 0)
          ≡ stretch f (cond b (row_of f i).ad_at 0) (cond b (row_of f i).ad_len 0)
      data-case true e = data-same i (within job e)
      data-case false e = refl

  opened : (ring : List ℕ) (job : ℕ) (out : List ℕ) → job_opening g ring job out ≡ job_opening f ring job out
  unfolding job_opening
  opened ring job out =
      ap (λ (y : Answer). cond (eqb y.number 0) (row_opening g ring y.row out) (left y out)) (found job) ∙ row-case (eqb (lookup_job f job).number 0) refl
    where
      row-case : (b : Bool) → eqb (lookup_job f job).number 0 ≡ b
          → cond b (row_opening g ring (lookup_job f job).row out) (left (lookup_job f job) out)
          ≡ cond b (row_opening f ring (lookup_job f job).row out) (left (lookup_job f job) out)
      row-case true e = row_opened (lookup_job f job).row (within job e) ring out
      row-case false e = refl

  same_read : SameRead f g
  same_read = record { found = found; searched = searched; associated = associated; opened = opened }

-- ---- the moved file

module _ (a b : ℕ) (la : first_edition ≤ a) (ma : a ≤ newest) (lb : first_edition ≤ b) (mb : b ≤ newest) (f : List ℕ) (out : ℕ) (x : Answer)
    (d : Goes a b f out x) where
  wa : a < 256 ^ 2
  wa = omega arith

  wb : b < 256 ^ 2
  wb = omega arith

  abbrev w : ℕ
  w = row_size_of f

  abbrev v : ℕ
  v = row_size b

  abbrev n : ℕ
  n = count_of f

  abbrev g : List ℕ
  g = moved b f

  small_is : carried w v n (length f) < 256 ^ 4
  small_is = omega (arith, file-long w v f n (passes a a f d.passed).head.table (row_broad b) b, d.room.short)

  alike : Alike f g
  unfolding carried
  alike =
      let p = passes a a f d.passed in
      let t = p.head.table in
      let broad = row_broad b in
      let small = small_is in
      let wide = new-row-size a b wa wb f d.passed in
      let is : (i : ℕ) → i < n → row_of g i ≡ row_at v g i = λ i l. ap (λ (k : ℕ). row_at k g i) wide in
      let carries : (i : ℕ) → i < n → row_of g i ≡ carried_row w v n (row_of f i) = λ i l. is i l ∙ row b w v f n t broad p.walk small i l in
      record {
        old = wider a f la ma d.passed;
        new = wider b g lb mb (ap (λ (y : Answer). y.number) (new-passes a b wa wb f d.passed d.room.short));
        count = new-count a b wa wb f d.passed;
        job = λ i l. ap (λ (r : Row). r.job) (carries i l);
        suite = λ i l. ap (λ (r : Row). r.suite) (carries i l);
        key = λ i l. ap (λ (r : Row). r.key) (carries i l);
        extra = λ i l. ap (λ (r : Row). r.ad_len) (carries i l);
        len = λ i l. ap (λ (r : Row). r.text_len) (carries i l);
        nonce = λ i l. ap (λ (k : ℕ). nonce_read_at k g i) wide ∙ reads b w v f n t broad p.walk small i l;
        body = λ i l. ap (λ (r : Row). drop r.ad_at g) (carries i l)
            ∙ body-from b w v f n t broad (row_at w f i).ad_at (low b w v f n t broad p.walk small i l);
      }

  -- and row by row, stations and whole nonces too
  rows-kept : NoStation f → NoStation g → (i : ℕ) → i < n → RowKept f g i
  unfolding body_end
  rows-kept none none' i l =
      let p = passes a a f d.passed in
      let h = alike in
      let small : carried w v n (length f) < 256 ^ 4 = small_is in
      let r = row_of g i in
      let s = row_of f i in
      let long : body_end r - r.ad_at ≡ body_end s - s.ad_at = omega (arith, h.extra i l, h.len i l, ap size_of (h.suite i l)) in
      record {
        job = h.job i l;
        suite = h.suite i l;
        key = h.key i l;
        ad-len = h.extra i l;
        text-len = h.len i l;
        nonce = ap (λ (k : ℕ). nonce_at k g i) (new-row-size a b wa wb f d.passed) ∙ nonce b w v f n p.head.table (row_broad b) p.walk small i l;
        station = none' i (omega (arith, l, h.count)) ∙ sym (none i l);
        body = ap₂ take long (h.body i l);
      }

pub up_keeps : UpKeeps
unfolding to_edition2_of
up_keeps f out₀ z =
    let d = up_goes f (length out₀) z in
    rw (ap out_of (up_is f out₀ d.zero))
    (rows-kept first_edition newest (lit≤ tt) (lit≤ tt) (lit≤ tt) (lit≤ tt) f (length out₀) _ d (one_none f d.passed)
    (new_none first_edition newest one two f d.passed))

pub back_keeps : BackKeeps
unfolding to_edition1_of
back_keeps f out₀ z =
    let b = back_goes f (length out₀) z in
    let d = b.0 in
    rw (ap out_of (back_is f out₀ d.zero))
    (rows-kept newest first_edition (lit≤ tt) (lit≤ tt) (lit≤ tt) (lit≤ tt) f (length out₀) _ d b.1 (new_none newest first_edition two one f d.passed))

pub up_reads : UpReads
unfolding to_edition2_of
up_reads f out₀ z =
    let d = up_goes f (length out₀) z in
    rw (ap out_of (up_is f out₀ d.zero)) (same_read f (moved newest f)
    (alike first_edition newest (lit≤ tt) (lit≤ tt) (lit≤ tt) (lit≤ tt) f (length out₀) _ d))

pub back_reads : BackReads
unfolding to_edition1_of
back_reads f out₀ z =
    let d = (back_goes f (length out₀) z).0 in
    rw (ap out_of (back_is f out₀ d.zero)) (same_read f (moved first_edition f)
    (alike newest first_edition (lit≤ tt) (lit≤ tt) (lit≤ tt) (lit≤ tt) f (length out₀) _ d))
