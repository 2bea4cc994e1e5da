-- The entry points and the C functions, each by its own signature and contract, as the compiler reads them off the code (`Kinds`, `Reads`).
use Rattle.std.specs.Prelude.{ℕ, List}
use borrow.Fn.Kinds.{ParamKind, ResultKind, In, Out}
use Rattle.comet.proofs.seal.Kinds as seal-kinds
use Rattle.comet.proofs.seal.Reads as seal-reads
use Rattle.comet.proofs.unseal.Kinds as unseal-kinds
use Rattle.comet.proofs.unseal.Reads as unseal-reads
use Rattle.comet.proofs.seal_counted.Kinds as seal-counted-kinds
use Rattle.comet.proofs.seal_counted.Reads as seal-counted-reads
use Rattle.comet.proofs.unseal_counted.Kinds as unseal-counted-kinds
use Rattle.comet.proofs.unseal_counted.Reads as unseal-counted-reads
use Rattle.comet.proofs.seal_in_place.Kinds as seal-in-place-kinds
use Rattle.comet.proofs.seal_in_place.Reads as seal-in-place-reads
use Rattle.comet.proofs.unseal_in_place.Kinds as unseal-in-place-kinds
use Rattle.comet.proofs.unseal_in_place.Reads as unseal-in-place-reads
use Rattle.comet.proofs.verify.Kinds as verify-kinds
use Rattle.comet.proofs.verify.Reads as verify-reads
use Rattle.session.proofs.Session.start.Kinds as session-start-kinds
use Rattle.session.proofs.Session.start.Reads as session-start-reads
use Rattle.session.proofs.Session.associated.Kinds as session-data-kinds
use Rattle.session.proofs.Session.associated.Reads as session-data-reads
use Rattle.session.proofs.Session.message.Kinds as session-part-kinds
use Rattle.session.proofs.Session.message.Reads as session-part-reads
use Rattle.session.proofs.Session.finish.Kinds as session-end-kinds
use Rattle.session.proofs.Session.finish.Reads as session-end-reads
use Rattle.shift_check.proofs.check.Kinds as check-kinds
use Rattle.shift_check.proofs.check.Reads as check-reads
use Rattle.shift_lookup.proofs.lookup.Kinds as lookup-kinds
use Rattle.shift_lookup.proofs.lookup.Reads as lookup-reads
use Rattle.shift_lookup.proofs.entry.Kinds as entry-kinds
use Rattle.shift_lookup.proofs.entry.Reads as entry-reads
use Rattle.shift_lookup.proofs.associated.Kinds as associated-kinds
use Rattle.shift_lookup.proofs.associated.Reads as associated-reads
use Rattle.shift_jobs.proofs.open_job.Kinds as open-job-kinds
use Rattle.shift_jobs.proofs.open_job.Reads as open-job-reads
use Rattle.shift_jobs.proofs.verified.Kinds as verified-kinds
use Rattle.shift_jobs.proofs.verified.Reads as verified-reads
use Rattle.shift_search.proofs.search.Kinds as search-kinds
use Rattle.shift_search.proofs.search.Reads as search-reads
use Rattle.shift_writer.proofs.seal_file.Kinds as seal-file-kinds
use Rattle.shift_writer.proofs.seal_file.Reads as seal-file-reads
use Rattle.shift_writer.proofs.unseal_file.Kinds as unseal-file-kinds
use Rattle.shift_writer.proofs.unseal_file.Reads as unseal-file-reads
use Rattle.shift_reseal.proofs.reseal.Kinds as reseal-kinds
use Rattle.shift_reseal.proofs.reseal.Reads as reseal-reads
use Rattle.shift_amend.proofs.locate.Kinds as locate-kinds
use Rattle.shift_amend.proofs.locate.Reads as locate-reads
use Rattle.shift_amend.proofs.current.Kinds as current-kinds
use Rattle.shift_amend.proofs.current.Reads as current-reads
use Rattle.shift_amend.proofs.open_current.Kinds as open-current-kinds
use Rattle.shift_amend.proofs.open_current.Reads as open-current-reads
use Rattle.shift_editions.proofs.moved_length.Kinds as moved-length-kinds
use Rattle.shift_editions.proofs.moved_length.Reads as moved-length-reads
use Rattle.shift_editions.proofs.to_edition2.Kinds as to-edition2-kinds
use Rattle.shift_editions.proofs.to_edition2.Reads as to-edition2-reads
use Rattle.shift_editions.proofs.to_edition1.Kinds as to-edition1-kinds
use Rattle.shift_editions.proofs.to_edition1.Reads as to-edition1-reads
use Rattle.shift_compare.proofs.compare.Kinds as compare-kinds
use Rattle.shift_compare.proofs.compare.Reads as compare-reads
use Rattle.shift_reader.proofs.cursor.start.Kinds as start-kinds
use Rattle.shift_reader.proofs.cursor.start.Reads as start-reads
use Rattle.shift_reader.proofs.cursor.ask.Kinds as ask-kinds
use Rattle.shift_reader.proofs.cursor.ask.Reads as ask-reads
use Rattle.shift_reader.proofs.contents.header.Kinds as header-kinds
use Rattle.shift_reader.proofs.contents.header.Reads as header-reads
use Rattle.shift_reader.proofs.contents.row.Kinds as row-kinds
use Rattle.shift_reader.proofs.contents.row.Reads as row_reads
use Rattle.shift_report.proofs.report.Kinds as report-kinds
use Rattle.shift_report.proofs.report.Reads as report-reads
use Rattle.snoekeldraf.proofs.record.comet_seal.Kinds as comet-seal-kinds
use Rattle.snoekeldraf.proofs.record.comet_seal.Reads as comet-seal-reads
use Rattle.snoekeldraf.proofs.record.comet_open.Kinds as comet-open-kinds
use Rattle.snoekeldraf.proofs.record.comet_open.Reads as comet-open-reads
use Rattle.snoekeldraf.proofs.record.comet_seal_in_place.Kinds as comet-seal-in-place-kinds
use Rattle.snoekeldraf.proofs.record.comet_seal_in_place.Reads as comet-seal-in-place-reads
use Rattle.snoekeldraf.proofs.record.comet_open_in_place.Kinds as comet-open-in-place-kinds
use Rattle.snoekeldraf.proofs.record.comet_open_in_place.Reads as comet-open-in-place-reads
use Rattle.snoekeldraf.proofs.record.comet_verify.Kinds as comet-verify-kinds
use Rattle.snoekeldraf.proofs.record.comet_verify.Reads as comet-verify-reads
use Rattle.snoekeldraf.proofs.counting.comet_seal_counted.Kinds as comet-seal-counted-kinds
use Rattle.snoekeldraf.proofs.counting.comet_seal_counted.Reads as comet-seal-counted-reads
use Rattle.snoekeldraf.proofs.counting.comet_open_counted.Kinds as comet-open-counted-kinds
use Rattle.snoekeldraf.proofs.counting.comet_open_counted.Reads as comet-open-counted-reads
use Rattle.snoekeldraf.proofs.sessions.comet_session_start.Kinds as comet-session-start-kinds
use Rattle.snoekeldraf.proofs.sessions.comet_session_start.Reads as comet-session-start-reads
use Rattle.snoekeldraf.proofs.sessions.comet_session_data.Kinds as comet-session-data-kinds
use Rattle.snoekeldraf.proofs.sessions.comet_session_data.Reads as comet-session-data-reads
use Rattle.snoekeldraf.proofs.sessions.comet_session_part.Kinds as comet-session-part-kinds
use Rattle.snoekeldraf.proofs.sessions.comet_session_part.Reads as comet-session-part-reads
use Rattle.snoekeldraf.proofs.sessions.comet_session_end.Kinds as comet-session-end-kinds
use Rattle.snoekeldraf.proofs.sessions.comet_session_end.Reads as comet-session-end-reads
use Rattle.snoekeldraf.proofs.sessions.comet_session_wipe.Kinds as comet-session-wipe-kinds
use Rattle.snoekeldraf.proofs.sessions.comet_session_wipe.Reads as comet-session-wipe-reads
use Rattle.snoekeldraf.proofs.file.shift_check.Kinds as shift-check-kinds
use Rattle.snoekeldraf.proofs.file.shift_check.Reads as shift-check-reads
use Rattle.snoekeldraf.proofs.file.shift_lookup.Kinds as shift-lookup-kinds
use Rattle.snoekeldraf.proofs.file.shift_lookup.Reads as shift-lookup-reads
use Rattle.snoekeldraf.proofs.file.shift_associated.Kinds as shift-associated-kinds
use Rattle.snoekeldraf.proofs.file.shift_associated.Reads as shift-associated-reads
use Rattle.snoekeldraf.proofs.file.shift_entry.Kinds as shift-entry-kinds
use Rattle.snoekeldraf.proofs.file.shift_entry.Reads as shift-entry-reads
use Rattle.snoekeldraf.proofs.file.shift_open_job.Kinds as shift-open-job-kinds
use Rattle.snoekeldraf.proofs.file.shift_open_job.Reads as shift-open-job-reads
use Rattle.snoekeldraf.proofs.file.shift_verified.Kinds as shift-verified-kinds
use Rattle.snoekeldraf.proofs.file.shift_verified.Reads as shift-verified-reads
use Rattle.snoekeldraf.proofs.search.shift_search.Kinds as shift-search-kinds
use Rattle.snoekeldraf.proofs.search.shift_search.Reads as shift-search-reads
use Rattle.snoekeldraf.proofs.writer.shift_seal_file.Kinds as shift-seal-file-kinds
use Rattle.snoekeldraf.proofs.writer.shift_seal_file.Reads as shift-seal-file-reads
use Rattle.snoekeldraf.proofs.writer.shift_unseal_file.Kinds as shift-unseal-file-kinds
use Rattle.snoekeldraf.proofs.writer.shift_unseal_file.Reads as shift-unseal-file-reads
use Rattle.snoekeldraf.proofs.reseal.shift_reseal.Kinds as shift-reseal-kinds
use Rattle.snoekeldraf.proofs.reseal.shift_reseal.Reads as shift-reseal-reads
use Rattle.snoekeldraf.proofs.amending.shift_amended.Kinds as shift-amended-kinds
use Rattle.snoekeldraf.proofs.amending.shift_amended.Reads as shift-amended-reads
use Rattle.snoekeldraf.proofs.amending.shift_open_amended.Kinds as shift-open-amended-kinds
use Rattle.snoekeldraf.proofs.amending.shift_open_amended.Reads as shift-open-amended-reads
use Rattle.snoekeldraf.proofs.editions.shift_moved_length.Kinds as shift-moved-length-kinds
use Rattle.snoekeldraf.proofs.editions.shift_moved_length.Reads as shift-moved-length-reads
use Rattle.snoekeldraf.proofs.editions.shift_to_edition2.Kinds as shift-to-edition2-kinds
use Rattle.snoekeldraf.proofs.editions.shift_to_edition2.Reads as shift-to-edition2-reads
use Rattle.snoekeldraf.proofs.editions.shift_to_edition1.Kinds as shift-to-edition1-kinds
use Rattle.snoekeldraf.proofs.editions.shift_to_edition1.Reads as shift-to-edition1-reads
use Rattle.snoekeldraf.proofs.compare.shift_compare.Kinds as shift-compare-kinds
use Rattle.snoekeldraf.proofs.compare.shift_compare.Reads as shift-compare-reads
use Rattle.snoekeldraf.proofs.reporting.shift_report.Kinds as shift-report-kinds
use Rattle.snoekeldraf.proofs.reporting.shift_report.Reads as shift-report-reads
use Rattle.snoekeldraf.proofs.contents.shift_rows.Kinds as shift-rows-kinds
use Rattle.snoekeldraf.proofs.contents.shift_rows.Reads as shift-rows-reads
use Rattle.snoekeldraf.proofs.contents.shift_row.Kinds as shift-row-kinds
use Rattle.snoekeldraf.proofs.contents.shift_row.Reads as shift-row-reads

-- what a routine takes and gives, what it requires of its arguments, and what it ensures
pub record Contract : Type 3 where
  pub lifetimes : ℕ
  pub params : List (ParamKind lifetimes)
  pub result : ResultKind lifetimes
  pub Pre : In lifetimes params
  pub Post : Out lifetimes params result

abbrev pub seal : Contract
seal = record { lifetimes = 6; params = seal-kinds.ps; result = seal-kinds.r; Pre = seal-reads.Pre; Post = seal-reads.Post }

abbrev pub unseal : Contract
unseal = record { lifetimes = 6; params = unseal-kinds.ps; result = unseal-kinds.r; Pre = unseal-reads.Pre; Post = unseal-reads.Post }

abbrev pub seal_counted : Contract
seal_counted =
    record { lifetimes = 6; params = seal-counted-kinds.ps; result = seal-counted-kinds.r; Pre = seal-counted-reads.Pre; Post = seal-counted-reads.Post }

abbrev pub unseal_counted : Contract
unseal_counted =
    record {
      lifetimes = 6;
      params = unseal-counted-kinds.ps;
      result = unseal-counted-kinds.r;
      Pre = unseal-counted-reads.Pre;
      Post = unseal-counted-reads.Post;
    }

abbrev pub seal_in_place : Contract
seal_in_place =
    record { lifetimes = 5; params = seal-in-place-kinds.ps; result = seal-in-place-kinds.r; Pre = seal-in-place-reads.Pre; Post = seal-in-place-reads.Post }

abbrev pub unseal_in_place : Contract
unseal_in_place =
    record {
      lifetimes = 5;
      params = unseal-in-place-kinds.ps;
      result = unseal-in-place-kinds.r;
      Pre = unseal-in-place-reads.Pre;
      Post = unseal-in-place-reads.Post;
    }

abbrev pub verify : Contract
verify = record { lifetimes = 5; params = verify-kinds.ps; result = verify-kinds.r; Pre = verify-reads.Pre; Post = verify-reads.Post }

abbrev pub session_start : Contract
session_start =
    record { lifetimes = 2; params = session-start-kinds.ps; result = session-start-kinds.r; Pre = session-start-reads.Pre; Post = session-start-reads.Post }

abbrev pub session_data : Contract
session_data =
    record { lifetimes = 1; params = session-data-kinds.ps; result = session-data-kinds.r; Pre = session-data-reads.Pre; Post = session-data-reads.Post }

abbrev pub session_part : Contract
session_part =
    record { lifetimes = 2; params = session-part-kinds.ps; result = session-part-kinds.r; Pre = session-part-reads.Pre; Post = session-part-reads.Post }

abbrev pub session_end : Contract
session_end = record { lifetimes = 2; params = session-end-kinds.ps; result = session-end-kinds.r; Pre = session-end-reads.Pre; Post = session-end-reads.Post }

abbrev pub check : Contract
check = record { lifetimes = 1; params = check-kinds.ps; result = check-kinds.r; Pre = check-reads.Pre; Post = check-reads.Post }

abbrev pub lookup : Contract
lookup = record { lifetimes = 1; params = lookup-kinds.ps; result = lookup-kinds.r; Pre = lookup-reads.Pre; Post = lookup-reads.Post }

abbrev pub entry : Contract
entry = record { lifetimes = 1; params = entry-kinds.ps; result = entry-kinds.r; Pre = entry-reads.Pre; Post = entry-reads.Post }

abbrev pub associated : Contract
associated = record { lifetimes = 1; params = associated-kinds.ps; result = associated-kinds.r; Pre = associated-reads.Pre; Post = associated-reads.Post }

abbrev pub open_job : Contract
open_job = record { lifetimes = 3; params = open-job-kinds.ps; result = open-job-kinds.r; Pre = open-job-reads.Pre; Post = open-job-reads.Post }

abbrev pub verified : Contract
verified = record { lifetimes = 2; params = verified-kinds.ps; result = verified-kinds.r; Pre = verified-reads.Pre; Post = verified-reads.Post }

abbrev pub search : Contract
search = record { lifetimes = 1; params = search-kinds.ps; result = search-kinds.r; Pre = search-reads.Pre; Post = search-reads.Post }

abbrev pub seal_file : Contract
seal_file = record { lifetimes = 3; params = seal-file-kinds.ps; result = seal-file-kinds.r; Pre = seal-file-reads.Pre; Post = seal-file-reads.Post }

abbrev pub unseal_file : Contract
unseal_file = record { lifetimes = 3; params = unseal-file-kinds.ps; result = unseal-file-kinds.r; Pre = unseal-file-reads.Pre; Post = unseal-file-reads.Post }

abbrev pub reseal : Contract
reseal = record { lifetimes = 3; params = reseal-kinds.ps; result = reseal-kinds.r; Pre = reseal-reads.Pre; Post = reseal-reads.Post }

abbrev pub locate : Contract
locate = record { lifetimes = 2; params = locate-kinds.ps; result = locate-kinds.r; Pre = locate-reads.Pre; Post = locate-reads.Post }

abbrev pub current : Contract
current = record { lifetimes = 1; params = current-kinds.ps; result = current-kinds.r; Pre = current-reads.Pre; Post = current-reads.Post }

abbrev pub open_current : Contract
open_current =
    record { lifetimes = 4; params = open-current-kinds.ps; result = open-current-kinds.r; Pre = open-current-reads.Pre; Post = open-current-reads.Post }

abbrev pub moved_length : Contract
moved_length =
    record { lifetimes = 1; params = moved-length-kinds.ps; result = moved-length-kinds.r; Pre = moved-length-reads.Pre; Post = moved-length-reads.Post }

abbrev pub to_edition2 : Contract
to_edition2 = record { lifetimes = 2; params = to-edition2-kinds.ps; result = to-edition2-kinds.r; Pre = to-edition2-reads.Pre; Post = to-edition2-reads.Post }

abbrev pub to_edition1 : Contract
to_edition1 = record { lifetimes = 2; params = to-edition1-kinds.ps; result = to-edition1-kinds.r; Pre = to-edition1-reads.Pre; Post = to-edition1-reads.Post }

abbrev pub compare : Contract
compare = record { lifetimes = 5; params = compare-kinds.ps; result = compare-kinds.r; Pre = compare-reads.Pre; Post = compare-reads.Post }

abbrev pub start : Contract
start = record { lifetimes = 1; params = start-kinds.ps; result = start-kinds.r; Pre = start-reads.Pre; Post = start-reads.Post }

abbrev pub ask : Contract
ask = record { lifetimes = 1; params = ask-kinds.ps; result = ask-kinds.r; Pre = ask-reads.Pre; Post = ask-reads.Post }

abbrev pub header : Contract
header = record { lifetimes = 1; params = header-kinds.ps; result = header-kinds.r; Pre = header-reads.Pre; Post = header-reads.Post }

abbrev pub row : Contract
row = record { lifetimes = 1; params = row-kinds.ps; result = row-kinds.r; Pre = row_reads.Pre; Post = row_reads.Post }

abbrev pub report : Contract
report = record { lifetimes = 4; params = report-kinds.ps; result = report-kinds.r; Pre = report-reads.Pre; Post = report-reads.Post }

-- ---- for C

abbrev pub comet_seal : Contract
comet_seal = record { lifetimes = 6; params = comet-seal-kinds.ps; result = comet-seal-kinds.r; Pre = comet-seal-reads.Pre; Post = comet-seal-reads.Post }

abbrev pub comet_open : Contract
comet_open = record { lifetimes = 6; params = comet-open-kinds.ps; result = comet-open-kinds.r; Pre = comet-open-reads.Pre; Post = comet-open-reads.Post }

abbrev pub comet_seal_in_place : Contract
comet_seal_in_place =
    record {
      lifetimes = 5;
      params = comet-seal-in-place-kinds.ps;
      result = comet-seal-in-place-kinds.r;
      Pre = comet-seal-in-place-reads.Pre;
      Post = comet-seal-in-place-reads.Post;
    }

abbrev pub comet_open_in_place : Contract
comet_open_in_place =
    record {
      lifetimes = 5;
      params = comet-open-in-place-kinds.ps;
      result = comet-open-in-place-kinds.r;
      Pre = comet-open-in-place-reads.Pre;
      Post = comet-open-in-place-reads.Post;
    }

abbrev pub comet_verify : Contract
comet_verify =
    record { lifetimes = 5; params = comet-verify-kinds.ps; result = comet-verify-kinds.r; Pre = comet-verify-reads.Pre; Post = comet-verify-reads.Post }

abbrev pub comet_seal_counted : Contract
comet_seal_counted =
    record {
      lifetimes = 7;
      params = comet-seal-counted-kinds.ps;
      result = comet-seal-counted-kinds.r;
      Pre = comet-seal-counted-reads.Pre;
      Post = comet-seal-counted-reads.Post;
    }

abbrev pub comet_open_counted : Contract
comet_open_counted =
    record {
      lifetimes = 7;
      params = comet-open-counted-kinds.ps;
      result = comet-open-counted-kinds.r;
      Pre = comet-open-counted-reads.Pre;
      Post = comet-open-counted-reads.Post;
    }

abbrev pub comet_session_start : Contract
comet_session_start =
    record {
      lifetimes = 3;
      params = comet-session-start-kinds.ps;
      result = comet-session-start-kinds.r;
      Pre = comet-session-start-reads.Pre;
      Post = comet-session-start-reads.Post;
    }

abbrev pub comet_session_data : Contract
comet_session_data =
    record {
      lifetimes = 2;
      params = comet-session-data-kinds.ps;
      result = comet-session-data-kinds.r;
      Pre = comet-session-data-reads.Pre;
      Post = comet-session-data-reads.Post;
    }

abbrev pub comet_session_part : Contract
comet_session_part =
    record {
      lifetimes = 4;
      params = comet-session-part-kinds.ps;
      result = comet-session-part-kinds.r;
      Pre = comet-session-part-reads.Pre;
      Post = comet-session-part-reads.Post;
    }

abbrev pub comet_session_end : Contract
comet_session_end =
    record {
      lifetimes = 4;
      params = comet-session-end-kinds.ps;
      result = comet-session-end-kinds.r;
      Pre = comet-session-end-reads.Pre;
      Post = comet-session-end-reads.Post;
    }

abbrev pub comet_session_wipe : Contract
comet_session_wipe =
    record {
      lifetimes = 1;
      params = comet-session-wipe-kinds.ps;
      result = comet-session-wipe-kinds.r;
      Pre = comet-session-wipe-reads.Pre;
      Post = comet-session-wipe-reads.Post;
    }

abbrev pub shift_check : Contract
shift_check = record { lifetimes = 2; params = shift-check-kinds.ps; result = shift-check-kinds.r; Pre = shift-check-reads.Pre; Post = shift-check-reads.Post }

abbrev pub shift_lookup : Contract
shift_lookup =
    record { lifetimes = 2; params = shift-lookup-kinds.ps; result = shift-lookup-kinds.r; Pre = shift-lookup-reads.Pre; Post = shift-lookup-reads.Post }

abbrev pub shift_associated : Contract
shift_associated =
    record {
      lifetimes = 3;
      params = shift-associated-kinds.ps;
      result = shift-associated-kinds.r;
      Pre = shift-associated-reads.Pre;
      Post = shift-associated-reads.Post;
    }

abbrev pub shift_entry : Contract
shift_entry = record { lifetimes = 6; params = shift-entry-kinds.ps; result = shift-entry-kinds.r; Pre = shift-entry-reads.Pre; Post = shift-entry-reads.Post }

abbrev pub shift_open_job : Contract
shift_open_job =
    record {
      lifetimes = 4;
      params = shift-open-job-kinds.ps;
      result = shift-open-job-kinds.r;
      Pre = shift-open-job-reads.Pre;
      Post = shift-open-job-reads.Post;
    }

abbrev pub shift_verified : Contract
shift_verified =
    record {
      lifetimes = 5;
      params = shift-verified-kinds.ps;
      result = shift-verified-kinds.r;
      Pre = shift-verified-reads.Pre;
      Post = shift-verified-reads.Post;
    }

abbrev pub shift_search : Contract
shift_search =
    record { lifetimes = 3; params = shift-search-kinds.ps; result = shift-search-kinds.r; Pre = shift-search-reads.Pre; Post = shift-search-reads.Post }

abbrev pub shift_seal_file : Contract
shift_seal_file =
    record {
      lifetimes = 4;
      params = shift-seal-file-kinds.ps;
      result = shift-seal-file-kinds.r;
      Pre = shift-seal-file-reads.Pre;
      Post = shift-seal-file-reads.Post;
    }

abbrev pub shift_unseal_file : Contract
shift_unseal_file =
    record {
      lifetimes = 4;
      params = shift-unseal-file-kinds.ps;
      result = shift-unseal-file-kinds.r;
      Pre = shift-unseal-file-reads.Pre;
      Post = shift-unseal-file-reads.Post;
    }

abbrev pub shift_reseal : Contract
shift_reseal =
    record { lifetimes = 4; params = shift-reseal-kinds.ps; result = shift-reseal-kinds.r; Pre = shift-reseal-reads.Pre; Post = shift-reseal-reads.Post }

abbrev pub shift_amended : Contract
shift_amended =
    record { lifetimes = 6; params = shift-amended-kinds.ps; result = shift-amended-kinds.r; Pre = shift-amended-reads.Pre; Post = shift-amended-reads.Post }

abbrev pub shift_open_amended : Contract
shift_open_amended =
    record {
      lifetimes = 6;
      params = shift-open-amended-kinds.ps;
      result = shift-open-amended-kinds.r;
      Pre = shift-open-amended-reads.Pre;
      Post = shift-open-amended-reads.Post;
    }

abbrev pub shift_moved_length : Contract
shift_moved_length =
    record {
      lifetimes = 1;
      params = shift-moved-length-kinds.ps;
      result = shift-moved-length-kinds.r;
      Pre = shift-moved-length-reads.Pre;
      Post = shift-moved-length-reads.Post;
    }

abbrev pub shift_to_edition2 : Contract
shift_to_edition2 =
    record {
      lifetimes = 3;
      params = shift-to-edition2-kinds.ps;
      result = shift-to-edition2-kinds.r;
      Pre = shift-to-edition2-reads.Pre;
      Post = shift-to-edition2-reads.Post;
    }

abbrev pub shift_to_edition1 : Contract
shift_to_edition1 =
    record {
      lifetimes = 3;
      params = shift-to-edition1-kinds.ps;
      result = shift-to-edition1-kinds.r;
      Pre = shift-to-edition1-reads.Pre;
      Post = shift-to-edition1-reads.Post;
    }

abbrev pub shift_compare : Contract
shift_compare =
    record { lifetimes = 10; params = shift-compare-kinds.ps; result = shift-compare-kinds.r; Pre = shift-compare-reads.Pre; Post = shift-compare-reads.Post }

abbrev pub shift_report : Contract
shift_report =
    record { lifetimes = 6; params = shift-report-kinds.ps; result = shift-report-kinds.r; Pre = shift-report-reads.Pre; Post = shift-report-reads.Post }

abbrev pub shift_rows : Contract
shift_rows = record { lifetimes = 3; params = shift-rows-kinds.ps; result = shift-rows-kinds.r; Pre = shift-rows-reads.Pre; Post = shift-rows-reads.Post }

abbrev pub shift_row : Contract
shift_row = record { lifetimes = 2; params = shift-row-kinds.ps; result = shift-row-kinds.r; Pre = shift-row-reads.Pre; Post = shift-row-reads.Post }
