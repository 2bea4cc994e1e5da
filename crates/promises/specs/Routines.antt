-- The routines compute what the definitions say. Every other promise is about the definitions (`sealing`, `opening`,
-- `check_file`, ..). Here, for each entry point and for every outcome that its contract allows: the status, with the final
-- contents of each `&mut` (out' for out), is the definition's value on the bytes that it borrowed.
use Rattle.std.specs.Prelude.{◌≡◌, ℕ, List, [], length}
use contract.Lifetimes.{Lfts}
use Rattle.std.specs.Borrow.{Bor, MutBor}
use Rattle.status.specs.Verdicts.{number_of}
use Rattle.comet.specs.Answers.{Sealed, sealing, Opened, opening, verifying}
use Rattle.comet.specs.Counted.{Counting, sealing_counted, opening_counted}
use Rattle.session.specs.declared.Session.{Session}
use Rattle.session.specs.Value.{starting, data_part, text_part, ending}
use Rattle.session.specs.Structs.{as_value, gives}
use Rattle.shift_format.specs.Part.{PartOf}
use Rattle.status.specs.Answers.{refusal_answer, checked_answer}
use Rattle.shift_check.specs.Check.{check_file}
use Rattle.shift_lookup.specs.Answers.{lookup_error_answer, found_answer}
use Rattle.shift_jobs.specs.Answers.{opened_answer}
use Rattle.shift_lookup.specs.Lookup.{lookup_job}
use Rattle.shift_lookup.specs.Entry.{data_start, data_length, entry_answer, entry_of}
use Rattle.shift_jobs.specs.Opening.{left, job_opening}
use Rattle.shift_jobs.specs.Genuine.{genuine_answer, job_verifying}
use Rattle.shift_search.specs.Searching.{searching}
use Rattle.shift_draft.specs.Answers.{writes, file_sealing, file_unsealing}
use Rattle.shift_writer.specs.Answers.{written_answer}
use Rattle.shift_reseal.specs.Answers.{file_resealing}
use Rattle.shift_amend.specs.Amending.{amended_answer, amended_entry, CurrentPart, AmendedOpening, amended_opening}
use Rattle.shift_amend.specs.Source.{file_number}
use Rattle.shift_editions.specs.Answers.{moved_answer, moved_length_of, FileMoved, to_edition2_of, to_edition1_of}
use Rattle.shift_compare.specs.Comparing.{finding_of, Comparison, comparison}
use Rattle.shift_reader.specs.declared.cursor.Cursor.{Cursor}
use Rattle.shift_reader.specs.Reading.{start_of, ask_of}
use Rattle.shift_report.specs.Reporting.{said_of, Report, reporting}
use Rattle.shift_reader.specs.Contents.{header_told, header_answer, row_told, row_answer, error_row}
use Rattle.promises.specs.Signatures as the
use Rattle.promises.specs.Demand1.{Gave}

pub record Routines : Type 0 where
  -- document 01: sealer and opener; document 02, W12: with their cipher calls
  pub seal : (κs : Lfts 6) (suite : ℕ) (key nonce ad msg : Bor (List ℕ)) (out tag : MutBor (List ℕ))
      (x : Gave the.seal κs (suite, (key, (nonce, (ad, (msg, (out, (tag, tt)))))))) →
      let (_, (_, (_, (_, (_, (out', (tag', _))))))) = x.last in
      ◌≡◌ {A = Sealed} (record { number = number_of x.result; out = out'; tag = tag' })
      (sealing suite key.now nonce.now ad.now msg.now out.now tag.now)
  pub unseal : (κs : Lfts 6) (suite : ℕ) (key nonce ad text tag : Bor (List ℕ)) (out : MutBor (List ℕ))
      (x : Gave the.unseal κs (suite, (key, (nonce, (ad, (text, (tag, (out, tt)))))))) →
      let (_, (_, (_, (_, (_, (_, (out', _))))))) = x.last in
      ◌≡◌ {A = Opened} (record { number = number_of x.result; out = out' }) (opening suite key.now nonce.now ad.now text.now tag.now out.now)
  pub seal_counted : (κs : Lfts 6) (suite : ℕ) (key nonce ad msg : Bor (List ℕ)) (out tag : MutBor (List ℕ))
      (x : Gave the.seal_counted κs (suite, (key, (nonce, (ad, (msg, (out, (tag, tt)))))))) →
      let (_, (_, (_, (_, (_, (out', (tag', _))))))) = x.last in
      ◌≡◌ {A = Counting Sealed} (record { leaves = record { number = number_of x.result.verdict; out = out'; tag = tag' }; calls = x.result.calls })
      (sealing_counted suite key.now nonce.now ad.now msg.now out.now tag.now)
  pub unseal_counted : (κs : Lfts 6) (suite : ℕ) (key nonce ad text tag : Bor (List ℕ)) (out : MutBor (List ℕ))
      (x : Gave the.unseal_counted κs (suite, (key, (nonce, (ad, (text, (tag, (out, tt)))))))) →
      let (_, (_, (_, (_, (_, (_, (out', _))))))) = x.last in
      ◌≡◌ {A = Counting Opened} (record { leaves = record { number = number_of x.result.verdict; out = out' }; calls = x.result.calls })
      (opening_counted suite key.now nonce.now ad.now text.now tag.now out.now)
  -- in place; and the verifier, which writes nothing
  pub seal_in_place : (κs : Lfts 5) (suite : ℕ) (key nonce ad : Bor (List ℕ)) (text tag : MutBor (List ℕ))
      (x : Gave the.seal_in_place κs (suite, (key, (nonce, (ad, (text, (tag, tt))))))) →
      let (_, (_, (_, (_, (text', (tag', _)))))) = x.last in
      ◌≡◌ {A = Sealed} (record { number = number_of x.result; out = text'; tag = tag' })
      (sealing suite key.now nonce.now ad.now text.now text.now tag.now)
  pub unseal_in_place : (κs : Lfts 5) (suite : ℕ) (key nonce ad : Bor (List ℕ)) (text : MutBor (List ℕ)) (tag : Bor (List ℕ))
      (x : Gave the.unseal_in_place κs (suite, (key, (nonce, (ad, (text, (tag, tt))))))) →
      let (_, (_, (_, (_, (text', _))))) = x.last in
      ◌≡◌ {A = Opened} (record { number = number_of x.result; out = text' }) (opening suite key.now nonce.now ad.now text.now tag.now text.now)
  pub verify : (κs : Lfts 5) (suite : ℕ) (key nonce ad text tag : Bor (List ℕ)) (x : Gave the.verify κs (suite, (key, (nonce, (ad, (text, (tag, tt))))))) →
      number_of x.result ≡ verifying suite key.now nonce.now ad.now text.now tag.now
  -- W2: a session's four calls
  pub session_start : (κs : Lfts 2) (suite : ℕ) (key nonce : Bor (List ℕ)) (x : Gave the.session_start κs (suite, (key, (nonce, tt)))) →
      gives x.result [] [] ≡ starting suite key.now nonce.now
  pub session_data : (κs : Lfts 1) (s : Session) (part : Bor (List ℕ)) (x : Gave the.session_data κs (s, (part, tt))) →
      gives x.result [] [] ≡ data_part (as_value s) part.now
  pub session_part : (κs : Lfts 2) (s : Session) (part : Bor (List ℕ)) (out : MutBor (List ℕ)) (x : Gave the.session_part κs (s, (part, (out, tt)))) →
      let (_, (_, (out', _))) = x.last in
      gives x.result out' [] ≡ text_part (as_value s) part.now out.now
  pub session_end : (κs : Lfts 2) (s : Session) (out tag : MutBor (List ℕ)) (x : Gave the.session_end κs (s, (out, (tag, tt)))) →
      let (_, (out', (tag', _))) = x.last in
      gives x.result out' tag' ≡ ending (as_value s) out.now tag.now
  -- document 01: the shift file; W6: the search
  pub check : (κs : Lfts 1) (file : Bor (List ℕ)) (x : Gave the.check κs (file, tt)) →
      checked_answer x.result ≡ check_file file.now
  pub lookup : (κs : Lfts 1) (file : Bor (List ℕ)) (job : ℕ) (x : Gave the.lookup κs (file, (job, tt))) →
      found_answer x.result ≡ lookup_job file.now job
  pub entry : (κs : Lfts 1) (file : Bor (List ℕ)) (job : ℕ) (x : Gave the.entry κs (file, (job, tt))) →
      entry_answer x.result ≡ entry_of file.now job
  pub associated : (κs : Lfts 1) (file : Bor (List ℕ)) (job : ℕ) (x : Gave the.associated κs (file, (job, tt))) →
      PartOf file x.result (data_start file.now (lookup_job file.now job)) (data_length file.now (lookup_job file.now job))
  pub open_job : (κs : Lfts 3) (file ring : Bor (List ℕ)) (job : ℕ) (out : MutBor (List ℕ)) (x : Gave the.open_job κs (file, (ring, (job, (out, tt))))) →
      let (_, (_, (_, (out', _)))) = x.last in
      left (opened_answer x.result) out' ≡ job_opening file.now ring.now job out.now
  pub verified : (κs : Lfts 2) (file ring : Bor (List ℕ)) (job : ℕ) (x : Gave the.verified κs (file, (ring, (job, tt)))) →
      genuine_answer x.result ≡ job_verifying file.now ring.now job
  pub search : (κs : Lfts 1) (file : Bor (List ℕ)) (job : ℕ) (x : Gave the.search κs (file, (job, tt))) →
      (found_answer x.result.found ≡ (searching file.now job).says) × (x.result.looked ≡ length (searching file.now job).rows)
  -- W4: the writer; W7: the reseal pass
  pub seal_file : (κs : Lfts 3) (draft ring : Bor (List ℕ)) (out : MutBor (List ℕ)) (x : Gave the.seal_file κs (draft, (ring, (out, tt)))) →
      let (_, (_, (out', _))) = x.last in
      writes (written_answer x.result) out' ≡ file_sealing draft.now ring.now out.now
  pub unseal_file : (κs : Lfts 3) (file ring : Bor (List ℕ)) (out : MutBor (List ℕ)) (x : Gave the.unseal_file κs (file, (ring, (out, tt)))) →
      let (_, (_, (out', _))) = x.last in
      writes (written_answer x.result) out' ≡ file_unsealing file.now ring.now out.now
  pub reseal : (κs : Lfts 3) (file ring : Bor (List ℕ)) (out : MutBor (List ℕ)) (x : Gave the.reseal κs (file, (ring, (out, tt)))) →
      let (_, (_, (out', _))) = x.last in
      writes (written_answer x.result) out' ≡ file_resealing file.now ring.now out.now
  -- W11: amendments
  pub locate : (κs : Lfts 2) (amendment day : Bor (List ℕ)) (job : ℕ) (x : Gave the.locate κs (amendment, (day, (job, tt)))) →
      amended_answer x.result ≡ amended_entry amendment.now day.now job
  pub current : (κs : Lfts 1) (amendment day : Bor (List ℕ)) (job : ℕ) (x : Gave the.current κs (amendment, (day, (job, tt)))) →
      CurrentPart amendment day x.result job
  pub open_current : (κs : Lfts 4) (amendment day ring : Bor (List ℕ)) (job : ℕ) (out : MutBor (List ℕ))
      (x : Gave the.open_current κs (amendment, (day, (ring, (job, (out, tt)))))) →
      let (_, (_, (_, (_, (out', _))))) = x.last in
      ◌≡◌ {A = AmendedOpening} (record { file = file_number x.result.file; answer = opened_answer x.result.opened; out = out' })
      (amended_opening amendment.now day.now ring.now job out.now)
  -- W10: the length of a moved file, and the moves
  pub moved_length : (κs : Lfts 1) (file : Bor (List ℕ)) (x : Gave the.moved_length κs (file, tt)) →
      x.result ≡ moved_length_of file.now
  pub to_edition2 : (κs : Lfts 2) (file : Bor (List ℕ)) (out : MutBor (List ℕ)) (x : Gave the.to_edition2 κs (file, (out, tt))) →
      let (_, (out', _)) = x.last in
      ◌≡◌ {A = FileMoved} (record { answer = moved_answer x.result; out = out' }) (to_edition2_of file.now out.now)
  pub to_edition1 : (κs : Lfts 2) (file : Bor (List ℕ)) (out : MutBor (List ℕ)) (x : Gave the.to_edition1 κs (file, (out, tt))) →
      let (_, (out', _)) = x.last in
      ◌≡◌ {A = FileMoved} (record { answer = moved_answer x.result; out = out' }) (to_edition1_of file.now out.now)
  -- W8: compare
  pub compare : (κs : Lfts 5) (f g : Bor (List ℕ)) (first second differ : MutBor (List ℕ)) (x : Gave the.compare κs (f, (g, (first, (second, (differ, tt)))))) →
      let (_, (_, (first', (second', (differ', _))))) = x.last in
      ◌≡◌ {A = Comparison} (record { finding = finding_of x.result; first = first'; second = second'; differ = differ' })
      (comparison f.now g.now first.now second.now differ.now)
  -- W14: the cursor and the report; the reader's own three are in `Readers.antt`
  pub start : (κs : Lfts 1) (file : Bor (List ℕ)) (x : Gave the.start κs (file, tt)) →
      x.result ≡ start_of file.now
  pub ask : (κs : Lfts 1) (c : Cursor) (file : Bor (List ℕ)) (x : Gave the.ask κs (c, (file, tt))) →
      x.result ≡ ask_of c file.now
  pub report : (κs : Lfts 4) (file ring : Bor (List ℕ)) (jobs numbers : MutBor (List ℕ)) (x : Gave the.report κs (file, (ring, (jobs, (numbers, tt))))) →
      let (_, (_, (jobs', (numbers', _)))) = x.last in
      ◌≡◌ {A = Report} (record { said = said_of x.result; jobs = jobs'; numbers = numbers' }) (reporting file.now ring.now jobs.now numbers.now)
  -- the table of contents by row number
  pub header : (κs : Lfts 1) (file : Bor (List ℕ)) (x : Gave the.header κs (file, tt)) →
      (header_told x.result ≡ header_answer file.now) × (error_row refusal_answer x.result ≡ 0)
  pub row : (κs : Lfts 1) (file : Bor (List ℕ)) (i : ℕ) (x : Gave the.row κs (file, (i, tt))) →
      (row_told x.result ≡ row_answer file.now i) × (error_row lookup_error_answer x.result ≡ 0)
