-- The refusals in their order, and then all entries.
use mathlib.Core.Path.{sym, ap, ◌∙◌}
use Rattle.std.proofs.lemmas.Result.{err_from_is_err_and}
use Rattle.shift_format.specs.Format.{first_edition, newest}
use Rattle.status.specs.Answers.{checked_answer}
use Rattle.shift_check.proofs.Passed.{passed_zero, passes}
use Rattle.shift_report.proofs.Fronts.{too_long, file-refused, ring-wrong, jobs-short, numbers-short, all_listed}
use Rattle.shift_report.proofs.report.Goals as goal

pub returns-then-file-gt-MAX_REPORT : goal.returns-then-file-gt-MAX_REPORT
returns-then-file-gt-MAX_REPORT c = sym (too_long _ _ _ _ c.if-file-gt-MAX_REPORT.true)

pub returns-in_err-check : goal.returns-in_err-check
returns-in_err-check c =
    let p = err_from_is_err_and c.from_residual.result c.from_residual.ensures.1 in
    rw (p.1, p.2) (sym (file-refused _ _ _ _ c.if-file-gt-MAX_REPORT.false _ (sym c.check.ensures ∙ ap checked_answer c.in_err-check.was)))

pub returns-then-ring-ne-RING_LEN : goal.returns-then-ring-ne-RING_LEN
returns-then-ring-ne-RING_LEN c =
    sym (ring-wrong _ _ _ _ c.if-file-gt-MAX_REPORT.false (passed_zero _ _ c.in_ok-check.was c.check.ensures)
    c.if-ring-ne-RING_LEN.true)

pub count-n-requires : goal.count-n-requires
count-n-requires c =
    (passes first_edition newest c.args.file.now
    (passed_zero _ _ c.in_ok-check.was c.check.ensures)).head.long

pub returns-then-jobs-n : goal.returns-then-jobs-n
returns-then-jobs-n c =
    sym (jobs-short _ _ _ _ c.if-file-gt-MAX_REPORT.false (passed_zero _ _ c.in_ok-check.was c.check.ensures)
    c.if-ring-ne-RING_LEN.false (rw c.count-n.ensures at c.if-jobs-n.true))

pub returns-then-numbers-n : goal.returns-then-numbers-n
returns-then-numbers-n c =
    sym (numbers-short _ _ _ _ c.if-file-gt-MAX_REPORT.false (passed_zero _ _ c.in_ok-check.was c.check.ensures)
    c.if-ring-ne-RING_LEN.false (rw c.count-n.ensures at c.if-numbers-n.true))

pub list_all-requires : goal.list_all-requires
list_all-requires c =
    record {
      passed = passed_zero _ _ c.in_ok-check.was c.check.ensures;
      all = c.count-n.ensures;
      ring_long = c.if-ring-ne-RING_LEN.false;
      jobs-room = c.if-jobs-n.false;
      numbers-room = c.if-numbers-n.false;
    }

pub returns : goal.returns
returns c =
    all_listed _ _ _ _ c.if-file-gt-MAX_REPORT.false (passed_zero _ _ c.in_ok-check.was c.check.ensures)
    c.if-ring-ne-RING_LEN.false _ _ _ c.count-n.ensures c.if-jobs-n.false c.if-numbers-n.false
    c.list_all.ensures.0 c.list_all.ensures.1
