-- The functions of crate `snoekeldraf`, which C calls by the exports of `snoekeldraf_c` under the same contracts: each has no precondition
-- and one outcome, which is the definition's value.
use Rattle.std.specs.Prelude.{◌≡◌, ℕ, ◌+◌, ◌≤◌, ◌<◌, List, [], ◌∷◌, length, get_or, replicate}
use contract.Lifetimes.{Lfts}
use Rattle.std.specs.Borrow.{Bor, MutBor}
use Rattle.comet.specs.Answers.{Sealed, sealing, Opened, opening, verifying}
use Rattle.comet.specs.Counted.{Counting, sealing_counted, opening_counted}
use Rattle.session.specs.Value.{starting, data_part, text_part, ending}
use Rattle.session.specs.Calls.{Shut}
use Rattle.status.specs.Answers.{answer}
use Rattle.shift_format.specs.Format.{edition_of, count_of, row_size_of, nonce_start, row_of, station_of}
use Rattle.shift_check.specs.Check.{check_file}
use Rattle.shift_lookup.specs.Lookup.{lookup_job}
use Rattle.shift_lookup.specs.Entry.{Entry, entry_of}
use Rattle.shift_jobs.specs.Opening.{left, job_opening}
use Rattle.shift_jobs.specs.Genuine.{Genuine, job_verifying}
use Rattle.shift_search.specs.Searching.{searching}
use Rattle.shift_draft.specs.Answers.{writes, file_sealing, file_unsealing}
use Rattle.shift_reseal.specs.Answers.{file_resealing}
use Rattle.shift_amend.specs.Amending.{AmendedOpening, amended_opening}
use Rattle.shift_editions.specs.Answers.{moved_length_of, FileMoved, to_edition2_of, to_edition1_of}
use Rattle.shift_compare.specs.Comparing.{Comparison, comparison}
use Rattle.shift_report.specs.Reporting.{Report, reporting}
use Rattle.shift_reader.specs.Contents.{HeaderFields, header_answer, row_answer}
use Rattle.session_words.specs.Words.{Nine, of_words, words_of, after, in_words}
use Rattle.snoekeldraf.specs.Located.{Located, locating}
use Rattle.snoekeldraf.specs.Amended.{Placed, placing}
use Rattle.snoekeldraf.specs.Fields.{InFields, in_fields}
use Rattle.promises.specs.Signatures as the
use Rattle.promises.specs.Demand1.{Answers, Gave}

pub record CInterface : Type 0 where
  pub comet_seal : Answers the.comet_seal
  pub comet_open : Answers the.comet_open
  pub comet_seal_in_place : Answers the.comet_seal_in_place
  pub comet_open_in_place : Answers the.comet_open_in_place
  pub comet_verify : Answers the.comet_verify
  pub comet_seal_counted : Answers the.comet_seal_counted
  pub comet_open_counted : Answers the.comet_open_counted
  pub comet_session_start : Answers the.comet_session_start
  pub comet_session_data : Answers the.comet_session_data
  pub comet_session_part : Answers the.comet_session_part
  pub comet_session_end : Answers the.comet_session_end
  pub comet_session_wipe : Answers the.comet_session_wipe
  pub shift_check : Answers the.shift_check
  pub shift_lookup : Answers the.shift_lookup
  pub shift_associated : Answers the.shift_associated
  pub shift_entry : Answers the.shift_entry
  pub shift_open_job : Answers the.shift_open_job
  pub shift_verified : Answers the.shift_verified
  pub shift_search : Answers the.shift_search
  pub shift_seal_file : Answers the.shift_seal_file
  pub shift_unseal_file : Answers the.shift_unseal_file
  pub shift_reseal : Answers the.shift_reseal
  pub shift_amended : Answers the.shift_amended
  pub shift_open_amended : Answers the.shift_open_amended
  pub shift_moved_length : Answers the.shift_moved_length
  pub shift_to_edition2 : Answers the.shift_to_edition2
  pub shift_to_edition1 : Answers the.shift_to_edition1
  pub shift_compare : Answers the.shift_compare
  pub shift_report : Answers the.shift_report
  pub shift_rows : Answers the.shift_rows
  pub shift_row : Answers the.shift_row

pub record CRoutines : Type 0 where
  -- sealer and opener; in place; the verifier; with their cipher calls
  pub comet_seal : (κs : Lfts 6) (suite : ℕ) (key nonce ad msg : Bor (List ℕ)) (out tag : MutBor (List ℕ))
      (x : Gave the.comet_seal κs (suite, (key, (nonce, (ad, (msg, (out, (tag, tt)))))))) →
      let (_, (_, (_, (_, (_, (out', (tag', _))))))) = x.last in
      ◌≡◌ {A = Sealed} (record { number = x.result; out = out'; tag = tag' }) (sealing suite key.now nonce.now ad.now msg.now out.now tag.now)
  pub comet_open : (κs : Lfts 6) (suite : ℕ) (key nonce ad text tag : Bor (List ℕ)) (out : MutBor (List ℕ))
      (x : Gave the.comet_open κs (suite, (key, (nonce, (ad, (text, (tag, (out, tt)))))))) →
      let (_, (_, (_, (_, (_, (_, (out', _))))))) = x.last in
      ◌≡◌ {A = Opened} (record { number = x.result; out = out' }) (opening suite key.now nonce.now ad.now text.now tag.now out.now)
  pub comet_seal_in_place : (κs : Lfts 5) (suite : ℕ) (key nonce ad : Bor (List ℕ)) (text tag : MutBor (List ℕ))
      (x : Gave the.comet_seal_in_place κs (suite, (key, (nonce, (ad, (text, (tag, tt))))))) →
      let (_, (_, (_, (_, (text', (tag', _)))))) = x.last in
      ◌≡◌ {A = Sealed} (record { number = x.result; out = text'; tag = tag' }) (sealing suite key.now nonce.now ad.now text.now text.now tag.now)
  pub comet_open_in_place : (κs : Lfts 5) (suite : ℕ) (key nonce ad : Bor (List ℕ)) (text : MutBor (List ℕ)) (tag : Bor (List ℕ))
      (x : Gave the.comet_open_in_place κs (suite, (key, (nonce, (ad, (text, (tag, tt))))))) →
      let (_, (_, (_, (_, (text', _))))) = x.last in
      ◌≡◌ {A = Opened} (record { number = x.result; out = text' }) (opening suite key.now nonce.now ad.now text.now tag.now text.now)
  pub comet_verify : (κs : Lfts 5) (suite : ℕ) (key nonce ad text tag : Bor (List ℕ))
      (x : Gave the.comet_verify κs (suite, (key, (nonce, (ad, (text, (tag, tt))))))) →
      x.result ≡ verifying suite key.now nonce.now ad.now text.now tag.now
  pub comet_seal_counted : (κs : Lfts 7) (suite : ℕ) (key nonce ad msg : Bor (List ℕ)) (out tag : MutBor (List ℕ)) (calls : MutBor ℕ)
      (x : Gave the.comet_seal_counted κs (suite, (key, (nonce, (ad, (msg, (out, (tag, (calls, tt))))))))) →
      let (_, (_, (_, (_, (_, (out', (tag', (calls', _)))))))) = x.last in
      ◌≡◌ {A = Counting Sealed} (record { leaves = record { number = x.result; out = out'; tag = tag' }; calls = calls' })
      (sealing_counted suite key.now nonce.now ad.now msg.now out.now tag.now)
  pub comet_open_counted : (κs : Lfts 7) (suite : ℕ) (key nonce ad text tag : Bor (List ℕ)) (out : MutBor (List ℕ)) (calls : MutBor ℕ)
      (x : Gave the.comet_open_counted κs (suite, (key, (nonce, (ad, (text, (tag, (out, (calls, tt))))))))) →
      let (_, (_, (_, (_, (_, (_, (out', (calls', _)))))))) = x.last in
      ◌≡◌ {A = Counting Opened} (record { leaves = record { number = x.result; out = out' }; calls = calls' })
      (opening_counted suite key.now nonce.now ad.now text.now tag.now out.now)
  -- a session's calls, on the value that its nine words stand for; after each, the words are the next session's own and stand for it; and the wipe
  pub comet_session_start : (κs : Lfts 3) (state : MutBor (List ℕ)) (suite : ℕ) (key nonce : Bor (List ℕ))
      (x : Gave the.comet_session_start κs (state, (suite, (key, (nonce, tt))))) →
      let (state', _) = x.last in
      after x.result 0 state' [] [] ≡ in_words (starting suite key.now nonce.now)
  pub comet_session_data : (κs : Lfts 2) (state : MutBor (List ℕ)) (part : Bor (List ℕ)) (x : Gave the.comet_session_data κs (state, (part, tt))) →
      let (state', _) = x.last in
      after x.result 0 state' [] [] ≡ in_words (data_part (of_words state.now) part.now)
  pub comet_session_part : (κs : Lfts 4) (state : MutBor (List ℕ)) (part : Bor (List ℕ)) (out : MutBor (List ℕ)) (count : MutBor ℕ)
      (x : Gave the.comet_session_part κs (state, (part, (out, (count, tt))))) →
      let (state', (_, (out', (count', _)))) = x.last in
      after x.result count' state' out' [] ≡ in_words (text_part (of_words state.now) part.now out.now)
  pub comet_session_end : (κs : Lfts 4) (state out tag : MutBor (List ℕ)) (count : MutBor ℕ)
      (x : Gave the.comet_session_end κs (state, (out, (tag, (count, tt))))) →
      let (state', (out', (tag', (count', _)))) = x.last in
      after x.result count' state' out' tag' ≡ in_words (ending (of_words state.now) out.now tag.now)
  pub comet_session_wipe : (κs : Lfts 1) (state : MutBor (List ℕ)) (x : Gave the.comet_session_wipe κs (state, tt)) →
      let (state', _) = x.last in
      state' ≡ replicate 9 0
  -- the shift file; the search
  pub shift_check : (κs : Lfts 2) (file : Bor (List ℕ)) (row : MutBor ℕ) (x : Gave the.shift_check κs (file, (row, tt))) →
      let (_, (row', _)) = x.last in
      answer x.result row' ≡ check_file file.now
  pub shift_lookup : (κs : Lfts 2) (file : Bor (List ℕ)) (job : ℕ) (row : MutBor ℕ) (x : Gave the.shift_lookup κs (file, (job, (row, tt)))) →
      let (_, (_, (row', _))) = x.last in
      answer x.result row' ≡ lookup_job file.now job
  pub shift_associated : (κs : Lfts 3) (file : Bor (List ℕ)) (job : ℕ) (at len : MutBor ℕ) (x : Gave the.shift_associated κs (file, (job, (at, (len, tt))))) →
      let (_, (_, (at', (len', _)))) = x.last in
      ◌≡◌ {A = Located} (record { number = x.result; at = at'; len = len' }) (locating file.now job)
  pub shift_entry : (κs : Lfts 6) (file : Bor (List ℕ)) (job : ℕ) (row ad-at ad-len text-at text-len : MutBor ℕ)
      (x : Gave the.shift_entry κs (file, (job, (row, (ad-at, (ad-len, (text-at, (text-len, tt)))))))) →
      let (_, (_, (row', (ad-at', (ad-len', (text-at', (text-len', _))))))) = x.last in
      ◌≡◌ {A = Entry} (record { number = x.result; row = row'; ad_at = ad-at'; ad_len = ad-len'; text_at = text-at'; text_len = text-len' })
      (entry_of file.now job)
  pub shift_open_job : (κs : Lfts 4) (file ring : Bor (List ℕ)) (job : ℕ) (out : MutBor (List ℕ)) (row : MutBor ℕ)
      (x : Gave the.shift_open_job κs (file, (ring, (job, (out, (row, tt)))))) →
      let (_, (_, (_, (out', (row', _))))) = x.last in
      left (answer x.result row') out' ≡ job_opening file.now ring.now job out.now
  pub shift_verified : (κs : Lfts 5) (file ring : Bor (List ℕ)) (job : ℕ) (row at len : MutBor ℕ)
      (x : Gave the.shift_verified κs (file, (ring, (job, (row, (at, (len, tt))))))) →
      let (_, (_, (_, (row', (at', (len', _)))))) = x.last in
      ◌≡◌ {A = Genuine} (record { number = x.result; row = row'; ad_at = at'; ad_len = len' }) (job_verifying file.now ring.now job)
  pub shift_search : (κs : Lfts 3) (file : Bor (List ℕ)) (job : ℕ) (row looked : MutBor ℕ) (x : Gave the.shift_search κs (file, (job, (row, (looked, tt))))) →
      let (_, (_, (row', (looked', _)))) = x.last in
      (answer x.result row' ≡ (searching file.now job).says) × (looked' ≡ length (searching file.now job).rows)
  -- the writer; the reseal pass
  pub shift_seal_file : (κs : Lfts 4) (draft ring : Bor (List ℕ)) (out : MutBor (List ℕ)) (row : MutBor ℕ) (x : Gave the.shift_seal_file κs (draft, (ring, (out, (row, tt))))) →
      let (_, (_, (out', (row', _)))) = x.last in
      writes (answer x.result row') out' ≡ file_sealing draft.now ring.now out.now
  pub shift_unseal_file : (κs : Lfts 4) (file ring : Bor (List ℕ)) (out : MutBor (List ℕ)) (row : MutBor ℕ) (x : Gave the.shift_unseal_file κs (file, (ring, (out, (row, tt))))) →
      let (_, (_, (out', (row', _)))) = x.last in
      writes (answer x.result row') out' ≡ file_unsealing file.now ring.now out.now
  pub shift_reseal : (κs : Lfts 4) (file ring : Bor (List ℕ)) (out : MutBor (List ℕ)) (row : MutBor ℕ) (x : Gave the.shift_reseal κs (file, (ring, (out, (row, tt))))) →
      let (_, (_, (out', (row', _)))) = x.last in
      writes (answer x.result row') out' ≡ file_resealing file.now ring.now out.now
  -- amendments
  pub shift_amended : (κs : Lfts 6) (amendment day : Bor (List ℕ)) (job : ℕ) (file row at len : MutBor ℕ)
      (x : Gave the.shift_amended κs (amendment, (day, (job, (file, (row, (at, (len, tt)))))))) →
      let (_, (_, (_, (file', (row', (at', (len', _))))))) = x.last in
      ◌≡◌ {A = Placed} (record { number = x.result; file = file'; row = row'; at = at'; len = len' }) (placing amendment.now day.now job)
  pub shift_open_amended : (κs : Lfts 6) (amendment day ring : Bor (List ℕ)) (job : ℕ) (out : MutBor (List ℕ)) (file row : MutBor ℕ)
      (x : Gave the.shift_open_amended κs (amendment, (day, (ring, (job, (out, (file, (row, tt)))))))) →
      let (_, (_, (_, (_, (out', (file', (row', _))))))) = x.last in
      ◌≡◌ {A = AmendedOpening} (record { file = file'; answer = answer x.result row'; out = out' })
      (amended_opening amendment.now day.now ring.now job out.now)
  -- the length of a moved file, and the moves
  pub shift_moved_length : (κs : Lfts 1) (file : Bor (List ℕ)) (x : Gave the.shift_moved_length κs (file, tt)) →
      x.result ≡ moved_length_of file.now
  pub shift_to_edition2 : (κs : Lfts 3) (file : Bor (List ℕ)) (out : MutBor (List ℕ)) (row : MutBor ℕ) (x : Gave the.shift_to_edition2 κs (file, (out, (row, tt)))) →
      let (_, (out', (row', _))) = x.last in
      ◌≡◌ {A = FileMoved} (record { answer = answer x.result row'; out = out' }) (to_edition2_of file.now out.now)
  pub shift_to_edition1 : (κs : Lfts 3) (file : Bor (List ℕ)) (out : MutBor (List ℕ)) (row : MutBor ℕ) (x : Gave the.shift_to_edition1 κs (file, (out, (row, tt)))) →
      let (_, (out', (row', _))) = x.last in
      ◌≡◌ {A = FileMoved} (record { answer = answer x.result row'; out = out' }) (to_edition1_of file.now out.now)
  -- compare; the report
  pub shift_compare : (κs : Lfts 10) (f g : Bor (List ℕ)) (first second differ : MutBor (List ℕ)) (n-first n-second n-differ file row : MutBor ℕ)
      (x : Gave the.shift_compare κs (f, (g, (first, (second, (differ, (n-first, (n-second, (n-differ, (file, (row, tt))))))))))) →
      let (_, (_, (first', (second', (differ', (n-first', (n-second', (n-differ', (file', (row', _)))))))))) = x.last in
      ◌≡◌ {A = Comparison} (record {
        finding = record { number = x.result; file = file'; row = row'; first = n-first'; second = n-second'; differ = n-differ' };
        first = first';
        second = second';
        differ = differ';
      })
      (comparison f.now g.now first.now second.now differ.now)
  pub shift_report : (κs : Lfts 6) (file ring : Bor (List ℕ)) (jobs numbers : MutBor (List ℕ)) (count row : MutBor ℕ)
      (x : Gave the.shift_report κs (file, (ring, (jobs, (numbers, (count, (row, tt))))))) →
      let (_, (_, (jobs', (numbers', (count', (row', _)))))) = x.last in
      ◌≡◌ {A = Report} (record { said = record { number = x.result; row = row'; count = count' }; jobs = jobs'; numbers = numbers' })
      (reporting file.now ring.now jobs.now numbers.now)
  -- the table of contents by row number
  pub shift_rows : (κs : Lfts 3) (file : Bor (List ℕ)) (edition count : MutBor ℕ) (x : Gave the.shift_rows κs (file, (edition, (count, tt)))) →
      let (_, (edition', (count', _))) = x.last in
      ◌≡◌ {A = HeaderFields} (record { status = x.result; edition = edition'; count = count' }) (header_answer file.now)
  pub shift_row : (κs : Lfts 2) (file : Bor (List ℕ)) (row : ℕ) (fields : MutBor (List ℕ)) (x : Gave the.shift_row κs (file, (row, (fields, tt)))) →
      let (_, (_, (fields', _))) = x.last in
      ◌≡◌ {A = InFields} (record { status = x.result; fields = fields' }) (in_fields (row_answer file.now row))

-- what C gets of the rows of a file that passes the check
pub record CRows : Type 0 where
  -- the edition and the row count
  pub counted : (κs : Lfts 3) (file : Bor (List ℕ)) (edition count : MutBor ℕ) (x : Gave the.shift_rows κs (file, (edition, (count, tt))))
      → (check_file file.now).number ≡ 0 →
      let (_, (edition', (count', _))) = x.last in
      (x.result ≡ 0) × (edition' ≡ edition_of file.now) × (count' ≡ count_of file.now)
  -- of each row its nine fields: the text follows the associated data, and its offset does not wrap
  pub given : (κs : Lfts 2) (file : Bor (List ℕ)) (i : ℕ) (fields : MutBor (List ℕ))
      (x : Gave the.shift_row κs (file, (i, (fields, tt)))) → (check_file file.now).number ≡ 0 → i < count_of file.now →
      let (_, (_, (fields', _))) = x.last in
      let r = row_of file.now i in
      (x.result ≡ 0)
      × (fields' ≡ r.job ∷ station_of file.now i ∷ r.suite ∷ r.key ∷ nonce_start (row_size_of file.now) i
      ∷ r.ad_at ∷ r.ad_len ∷ (r.ad_at + r.ad_len) ∷ r.text_len ∷ [])
  -- past the rows 32, and nine zeros
  pub past : (κs : Lfts 2) (file : Bor (List ℕ)) (i : ℕ) (fields : MutBor (List ℕ))
      (x : Gave the.shift_row κs (file, (i, (fields, tt)))) → (check_file file.now).number ≡ 0 → count_of file.now ≤ i →
      let (_, (_, (fields', _))) = x.last in
      (x.result ≡ 32) × (fields' ≡ replicate 9 0)

-- what the definitions leave of a session's nine words, whatever they hold
pub record CSessions : Type 0 where
  -- nine words are those of the session that they stand for, so no two stand for one
  pub own : (w : List ℕ) → Nine w → words_of (of_words w) ≡ w
  -- nine zeros are a session that answers 9 to every call; so is a first word over 255
  pub dead : Shut (of_words (replicate 9 0))
  pub no_suite : (w : List ℕ) → 255 < get_or w 0 0 → Shut (of_words w)
  -- a refused start and an accepted end leave nine zeros
  pub start-refused : (suite : ℕ) (key nonce : List ℕ) → ((starting suite key nonce).number ≡ 0 → ⊥) → (in_words (starting suite key nonce)).words ≡ replicate 9 0
  pub ended : (w out tag : List ℕ) → (ending (of_words w) out tag).number ≡ 0 → (in_words (ending (of_words w) out tag)).words ≡ replicate 9 0
  -- any other refused call leaves words, output and tag unchanged, count 0
  pub data_refused : (w p : List ℕ) → Nine w → ((data_part (of_words w) p).number ≡ 0 → ⊥)
      → in_words (data_part (of_words w) p) ≡ after (data_part (of_words w) p).number 0 w [] []
  pub part-refused : (w p out : List ℕ) → Nine w → ((text_part (of_words w) p out).number ≡ 0 → ⊥)
      → in_words (text_part (of_words w) p out) ≡ after (text_part (of_words w) p out).number 0 w out []
  pub end_refused : (w out tag : List ℕ) → Nine w → ((ending (of_words w) out tag).number ≡ 0 → ⊥)
      → in_words (ending (of_words w) out tag) ≡ after (ending (of_words w) out tag).number 0 w out tag
