-- One outcome for each input: a contract fixes the status and every borrowed output, so any two outcomes that it allows are equal.
use mathlib.Core.Path.{refl, sym, ap, ap₂, ◌∙◌}
use Prim.Native.Nat.{ℕ}
use mathlib.Core.List.{List}
use Rattle.block.specs.Outcome.{OneOutcome}
use Rattle.comet.specs.Answers.{Sealed, Opened}
use Rattle.comet.specs.Counted.{Counting}
use Rattle.status.specs.declared.checked.Answer.{Answer}
use Rattle.shift_lookup.specs.Entry.{Entry}
use Rattle.shift_jobs.specs.Genuine.{Genuine}
use Rattle.shift_jobs.specs.Opening.{JobOpened}
use Rattle.snoekeldraf.specs.Located.{Located}
use Rattle.session_words.specs.Words.{InWords}
use Rattle.snoekeldraf.proofs.record.comet_seal.Kinds as seal-kinds
use Rattle.snoekeldraf.proofs.record.comet_seal.Reads as seal-reads
use Rattle.snoekeldraf.proofs.record.comet_open.Kinds as open-kinds
use Rattle.snoekeldraf.proofs.record.comet_open.Reads as open-reads
use Rattle.snoekeldraf.proofs.record.comet_seal_in_place.Kinds as seal-in-place-kinds
use Rattle.snoekeldraf.proofs.record.comet_seal_in_place.Reads as seal-in-place-reads
use Rattle.snoekeldraf.proofs.record.comet_open_in_place.Kinds as open-in-place-kinds
use Rattle.snoekeldraf.proofs.record.comet_open_in_place.Reads as open-in-place-reads
use Rattle.snoekeldraf.proofs.record.comet_verify.Kinds as verify-kinds
use Rattle.snoekeldraf.proofs.record.comet_verify.Reads as verify-reads
use Rattle.snoekeldraf.proofs.counting.comet_seal_counted.Kinds as seal-counted-kinds
use Rattle.snoekeldraf.proofs.counting.comet_seal_counted.Reads as seal-counted-reads
use Rattle.snoekeldraf.proofs.counting.comet_open_counted.Kinds as open-counted-kinds
use Rattle.snoekeldraf.proofs.counting.comet_open_counted.Reads as open-counted-reads
use Rattle.snoekeldraf.proofs.sessions.comet_session_start.Kinds as session-start-kinds
use Rattle.snoekeldraf.proofs.sessions.comet_session_start.Reads as session-start-reads
use Rattle.snoekeldraf.proofs.sessions.comet_session_data.Kinds as session-data-kinds
use Rattle.snoekeldraf.proofs.sessions.comet_session_data.Reads as session-data-reads
use Rattle.snoekeldraf.proofs.sessions.comet_session_part.Kinds as session-part-kinds
use Rattle.snoekeldraf.proofs.sessions.comet_session_part.Reads as session-part-reads
use Rattle.snoekeldraf.proofs.sessions.comet_session_end.Kinds as session-end-kinds
use Rattle.snoekeldraf.proofs.sessions.comet_session_end.Reads as session-end-reads
use Rattle.snoekeldraf.proofs.sessions.comet_session_wipe.Kinds as session-wipe-kinds
use Rattle.snoekeldraf.proofs.sessions.comet_session_wipe.Reads as session-wipe-reads
use Rattle.snoekeldraf.proofs.file.shift_check.Kinds as check-kinds
use Rattle.snoekeldraf.proofs.file.shift_check.Reads as check-reads
use Rattle.snoekeldraf.proofs.file.shift_lookup.Kinds as lookup-kinds
use Rattle.snoekeldraf.proofs.file.shift_lookup.Reads as lookup-reads
use Rattle.snoekeldraf.proofs.file.shift_associated.Kinds as associated-kinds
use Rattle.snoekeldraf.proofs.file.shift_associated.Reads as associated-reads
use Rattle.snoekeldraf.proofs.file.shift_entry.Kinds as entry-kinds
use Rattle.snoekeldraf.proofs.file.shift_entry.Reads as entry-reads
use Rattle.snoekeldraf.proofs.file.shift_open_job.Kinds as open-job-kinds
use Rattle.snoekeldraf.proofs.file.shift_open_job.Reads as open-job-reads
use Rattle.snoekeldraf.proofs.file.shift_verified.Kinds as verified-kinds
use Rattle.snoekeldraf.proofs.file.shift_verified.Reads as verified-reads
use Rattle.shift_editions.specs.Answers.{FileMoved}
use Rattle.shift_draft.specs.Answers.{FileWritten}
use Rattle.snoekeldraf.proofs.writer.shift_seal_file.Kinds as seal-file-kinds
use Rattle.snoekeldraf.proofs.writer.shift_seal_file.Reads as seal-file-reads
use Rattle.snoekeldraf.proofs.writer.shift_unseal_file.Kinds as unseal-file-kinds
use Rattle.snoekeldraf.proofs.writer.shift_unseal_file.Reads as unseal-file-reads
use Rattle.snoekeldraf.proofs.editions.shift_moved_length.Kinds as moved-length-kinds
use Rattle.snoekeldraf.proofs.editions.shift_moved_length.Reads as moved-length-reads
use Rattle.snoekeldraf.proofs.editions.shift_to_edition2.Kinds as to-edition2-kinds
use Rattle.snoekeldraf.proofs.editions.shift_to_edition2.Reads as to-edition2-reads
use Rattle.snoekeldraf.proofs.editions.shift_to_edition1.Kinds as to-edition1-kinds
use Rattle.snoekeldraf.proofs.editions.shift_to_edition1.Reads as to-edition1-reads
use Rattle.snoekeldraf.proofs.reseal.shift_reseal.Kinds as reseal-kinds
use Rattle.snoekeldraf.proofs.reseal.shift_reseal.Reads as reseal-reads
use Rattle.snoekeldraf.proofs.search.shift_search.Kinds as search-kinds
use Rattle.snoekeldraf.proofs.search.shift_search.Reads as search-reads
use Rattle.shift_amend.specs.Amending.{AmendedOpening}
use Rattle.snoekeldraf.specs.Amended.{Placed}
use Rattle.snoekeldraf.proofs.amending.shift_amended.Kinds as amended-kinds
use Rattle.snoekeldraf.proofs.amending.shift_amended.Reads as amended-reads
use Rattle.snoekeldraf.proofs.amending.shift_open_amended.Kinds as open-amended-kinds
use Rattle.snoekeldraf.proofs.amending.shift_open_amended.Reads as open-amended-reads
use Rattle.shift_compare.specs.Comparing.{Comparison}
use Rattle.snoekeldraf.proofs.compare.shift_compare.Kinds as compare-kinds
use Rattle.snoekeldraf.proofs.compare.shift_compare.Reads as compare-reads
use Rattle.shift_report.specs.Reporting.{Report}
use Rattle.snoekeldraf.proofs.reporting.shift_report.Kinds as report-kinds
use Rattle.snoekeldraf.proofs.reporting.shift_report.Reads as report-reads
use Rattle.shift_reader.specs.Contents.{HeaderFields}
use Rattle.snoekeldraf.specs.Fields.{InFields}
use Rattle.snoekeldraf.proofs.contents.shift_rows.Kinds as rows_kinds
use Rattle.snoekeldraf.proofs.contents.shift_rows.Reads as rows-reads
use Rattle.snoekeldraf.proofs.contents.shift_row.Kinds as row-kinds
use Rattle.snoekeldraf.proofs.contents.shift_row.Reads as row_reads

pub comet_seal : OneOutcome seal-kinds.ps seal-kinds.r seal-reads.Pre seal-reads.Post
comet_seal κs a h x y =
    let e = x.ensures ∙ sym y.ensures in
    (ap (λ (w : Sealed). w.number) e, ap (λ (w : Sealed). (tt, (tt, (tt, (tt, (tt, (w.out, (w.tag, tt)))))))) e)

pub comet_open : OneOutcome open-kinds.ps open-kinds.r open-reads.Pre open-reads.Post
comet_open κs a h x y =
    let e = x.ensures ∙ sym y.ensures in
    (ap (λ (w : Opened). w.number) e, ap (λ (w : Opened). (tt, (tt, (tt, (tt, (tt, (tt, (w.out, tt)))))))) e)

pub comet_seal_in_place : OneOutcome seal-in-place-kinds.ps seal-in-place-kinds.r seal-in-place-reads.Pre seal-in-place-reads.Post
comet_seal_in_place κs a h x y =
    let e = x.ensures ∙ sym y.ensures in
    (ap (λ (w : Sealed). w.number) e, ap (λ (w : Sealed). (tt, (tt, (tt, (tt, (w.out, (w.tag, tt))))))) e)

pub comet_open_in_place : OneOutcome open-in-place-kinds.ps open-in-place-kinds.r open-in-place-reads.Pre open-in-place-reads.Post
comet_open_in_place κs a h x y =
    let e = x.ensures ∙ sym y.ensures in
    (ap (λ (w : Opened). w.number) e, ap (λ (w : Opened). (tt, (tt, (tt, (tt, (w.out, (tt, tt))))))) e)

pub comet_verify : OneOutcome verify-kinds.ps verify-kinds.r verify-reads.Pre verify-reads.Post
comet_verify κs a h x y = (x.ensures ∙ sym y.ensures, refl)

pub comet_seal_counted : OneOutcome seal-counted-kinds.ps seal-counted-kinds.r seal-counted-reads.Pre seal-counted-reads.Post
comet_seal_counted κs a h x y =
    let e = x.ensures ∙ sym y.ensures in (
      ap (λ (w : Counting Sealed). w.leaves.number) e,
      ap (λ (w : Counting Sealed). (tt, (tt, (tt, (tt, (tt, (w.leaves.out, (w.leaves.tag, (w.calls, tt))))))))) e,
    )

pub comet_open_counted : OneOutcome open-counted-kinds.ps open-counted-kinds.r open-counted-reads.Pre open-counted-reads.Post
comet_open_counted κs a h x y =
    let e = x.ensures ∙ sym y.ensures in
    (ap (λ (w : Counting Opened). w.leaves.number) e, ap (λ (w : Counting Opened). (tt, (tt, (tt, (tt, (tt, (tt, (w.leaves.out, (w.calls, tt))))))))) e)

pub shift_check : OneOutcome check-kinds.ps check-kinds.r check-reads.Pre check-reads.Post
shift_check κs a h x y =
    let e = x.ensures ∙ sym y.ensures in
    (ap (λ (w : Answer). w.number) e, ap (λ (w : Answer). (tt, (w.row, tt))) e)

pub shift_lookup : OneOutcome lookup-kinds.ps lookup-kinds.r lookup-reads.Pre lookup-reads.Post
shift_lookup κs a h x y =
    let e = x.ensures ∙ sym y.ensures in
    (ap (λ (w : Answer). w.number) e, ap (λ (w : Answer). (tt, (tt, (w.row, tt)))) e)

pub shift_associated : OneOutcome associated-kinds.ps associated-kinds.r associated-reads.Pre associated-reads.Post
shift_associated κs a h x y =
    let e = x.ensures ∙ sym y.ensures in
    (ap (λ (w : Located). w.number) e, ap (λ (w : Located). (tt, (tt, (w.at, (w.len, tt))))) e)

pub shift_entry : OneOutcome entry-kinds.ps entry-kinds.r entry-reads.Pre entry-reads.Post
shift_entry κs a h x y =
    let e = x.ensures ∙ sym y.ensures in
    (ap (λ (w : Entry). w.number) e, ap (λ (w : Entry). (tt, (tt, (w.row, (w.ad_at, (w.ad_len, (w.text_at, (w.text_len, tt)))))))) e)

pub shift_open_job : OneOutcome open-job-kinds.ps open-job-kinds.r open-job-reads.Pre open-job-reads.Post
shift_open_job κs a h x y =
    let e = x.ensures ∙ sym y.ensures in
    (ap (λ (w : JobOpened). w.answer.number) e, ap (λ (w : JobOpened). (tt, (tt, (tt, (w.out, (w.answer.row, tt)))))) e)

pub shift_verified : OneOutcome verified-kinds.ps verified-kinds.r verified-reads.Pre verified-reads.Post
shift_verified κs a h x y =
    let e = x.ensures ∙ sym y.ensures in
    (ap (λ (w : Genuine). w.number) e, ap (λ (w : Genuine). (tt, (tt, (tt, (w.row, (w.ad_at, (w.ad_len, tt))))))) e)

pub comet_session_start : OneOutcome session-start-kinds.ps session-start-kinds.r session-start-reads.Pre session-start-reads.Post
comet_session_start κs a h x y =
    let e = x.ensures ∙ sym y.ensures in
    (ap (λ (w : InWords). w.given.number) e, ap (λ (w : InWords). (w.words, (tt, (tt, (tt, tt))))) e)

pub comet_session_data : OneOutcome session-data-kinds.ps session-data-kinds.r session-data-reads.Pre session-data-reads.Post
comet_session_data κs a h x y =
    let e = x.ensures ∙ sym y.ensures in
    (ap (λ (w : InWords). w.given.number) e, ap (λ (w : InWords). (w.words, (tt, tt))) e)

pub comet_session_part : OneOutcome session-part-kinds.ps session-part-kinds.r session-part-reads.Pre session-part-reads.Post
comet_session_part κs a h x y =
    let e = x.ensures ∙ sym y.ensures in
    (ap (λ (w : InWords). w.given.number) e, ap (λ (w : InWords). (w.words, (tt, (w.given.out, (w.given.count, tt))))) e)

pub comet_session_end : OneOutcome session-end-kinds.ps session-end-kinds.r session-end-reads.Pre session-end-reads.Post
comet_session_end κs a h x y =
    let e = x.ensures ∙ sym y.ensures in
    (ap (λ (w : InWords). w.given.number) e, ap (λ (w : InWords). (w.words, (w.given.out, (w.given.tag, (w.given.count, tt))))) e)

pub comet_session_wipe : OneOutcome session-wipe-kinds.ps session-wipe-kinds.r session-wipe-reads.Pre session-wipe-reads.Post
comet_session_wipe κs a h x y = (refl, ap (λ (w : List ℕ). (w, tt)) (x.ensures ∙ sym y.ensures))

pub shift_seal_file : OneOutcome seal-file-kinds.ps seal-file-kinds.r seal-file-reads.Pre seal-file-reads.Post
shift_seal_file κs a h x y =
    let e = x.ensures ∙ sym y.ensures in
    (ap (λ (w : FileWritten). w.answer.number) e, ap (λ (w : FileWritten). (tt, (tt, (w.out, (w.answer.row, tt))))) e)

pub shift_unseal_file : OneOutcome unseal-file-kinds.ps unseal-file-kinds.r unseal-file-reads.Pre unseal-file-reads.Post
shift_unseal_file κs a h x y =
    let e = x.ensures ∙ sym y.ensures in
    (ap (λ (w : FileWritten). w.answer.number) e, ap (λ (w : FileWritten). (tt, (tt, (w.out, (w.answer.row, tt))))) e)

pub shift_reseal : OneOutcome reseal-kinds.ps reseal-kinds.r reseal-reads.Pre reseal-reads.Post
shift_reseal κs a h x y =
    let e = x.ensures ∙ sym y.ensures in
    (ap (λ (w : FileWritten). w.answer.number) e, ap (λ (w : FileWritten). (tt, (tt, (w.out, (w.answer.row, tt))))) e)

pub shift_search : OneOutcome search-kinds.ps search-kinds.r search-reads.Pre search-reads.Post
shift_search κs a h x y =
    let e = x.ensures.0 ∙ sym y.ensures.0 in
    (ap (λ (w : Answer). w.number) e, ap₂ (λ (w : Answer) (l : ℕ). (tt, (tt, (w.row, (l, tt))))) e (x.ensures.1 ∙ sym y.ensures.1))

pub shift_amended : OneOutcome amended-kinds.ps amended-kinds.r amended-reads.Pre amended-reads.Post
shift_amended κs a h x y =
    let e = x.ensures ∙ sym y.ensures in
    (ap (λ (w : Placed). w.number) e, ap (λ (w : Placed). (tt, (tt, (tt, (w.file, (w.row, (w.at, (w.len, tt)))))))) e)

pub shift_open_amended : OneOutcome open-amended-kinds.ps open-amended-kinds.r open-amended-reads.Pre open-amended-reads.Post
shift_open_amended κs a h x y =
    let e = x.ensures ∙ sym y.ensures in
    (ap (λ (w : AmendedOpening). w.answer.number) e, ap (λ (w : AmendedOpening). (tt, (tt, (tt, (tt, (w.out, (w.file, (w.answer.row, tt)))))))) e)

pub shift_moved_length : OneOutcome moved-length-kinds.ps moved-length-kinds.r moved-length-reads.Pre moved-length-reads.Post
shift_moved_length κs a h x y = (x.ensures ∙ sym y.ensures, refl)

pub shift_to_edition2 : OneOutcome to-edition2-kinds.ps to-edition2-kinds.r to-edition2-reads.Pre to-edition2-reads.Post
shift_to_edition2 κs a h x y =
    let e = x.ensures ∙ sym y.ensures in
    (ap (λ (w : FileMoved). w.answer.number) e, ap (λ (w : FileMoved). (tt, (w.out, (w.answer.row, tt)))) e)

pub shift_to_edition1 : OneOutcome to-edition1-kinds.ps to-edition1-kinds.r to-edition1-reads.Pre to-edition1-reads.Post
shift_to_edition1 κs a h x y =
    let e = x.ensures ∙ sym y.ensures in
    (ap (λ (w : FileMoved). w.answer.number) e, ap (λ (w : FileMoved). (tt, (w.out, (w.answer.row, tt)))) e)

pub shift_compare : OneOutcome compare-kinds.ps compare-kinds.r compare-reads.Pre compare-reads.Post
shift_compare κs a h x y =
    let e = x.ensures ∙ sym y.ensures in (
      ap (λ (w : Comparison). w.finding.number) e,
      ap (λ (w : Comparison). (
        tt,
        (
          tt,
          (
            w.first,
            (w.second, (w.differ, (w.finding.first, (w.finding.second, (w.finding.differ, (w.finding.file, (w.finding.row, tt))))))),
          ),
        ),
      )) e,
    )

pub shift_report : OneOutcome report-kinds.ps report-kinds.r report-reads.Pre report-reads.Post
shift_report κs a h x y =
    let e = x.ensures ∙ sym y.ensures in
    (ap (λ (w : Report). w.said.number) e, ap (λ (w : Report). (tt, (tt, (w.jobs, (w.numbers, (w.said.count, (w.said.row, tt))))))) e)

pub shift_rows : OneOutcome rows_kinds.ps rows_kinds.r rows-reads.Pre rows-reads.Post
shift_rows κs a h x y =
    let e = x.ensures ∙ sym y.ensures in
    (ap (λ (w : HeaderFields). w.status) e, ap (λ (w : HeaderFields). (tt, (w.edition, (w.count, tt)))) e)

pub shift_row : OneOutcome row-kinds.ps row-kinds.r row_reads.Pre row_reads.Post
shift_row κs a h x y =
    let e = x.ensures ∙ sym y.ensures in
    (ap (λ (w : InFields). w.status) e, ap (λ (w : InFields). (tt, (tt, (w.fields, tt)))) e)
