-- A refused file stops the comparison, the first before the second; two files that pass are listed.
use mathlib.Core.Path.{sym, ap, ◌∙◌}
use Rattle.std.proofs.lemmas.Result.{err_from_is_err_and}
use Rattle.status.specs.Answers.{checked_answer}
use Rattle.shift_compare.proofs.Cases.{first-refused, second-refused}
use Rattle.shift_compare.proofs.Checked.{file_passed, file_refused}
use Rattle.shift_compare.proofs.compare.Goals as goal

pub returns-in_err-map_err : goal.returns-in_err-map_err
returns-in_err-map_err c =
    let p = err_from_is_err_and c.from_residual.result c.from_residual.ensures.1 in
    let t = file_refused c.check.result c.map_err.result _ _ c.map_err.ensures.cases c.in_err-map_err.was in
    rw (p.1, p.2, t.2) (sym (first-refused _ _ _ _ _ t.0 (sym c.check.ensures ∙ ap checked_answer t.1)))

pub returns-in_err-map_err-2 : goal.returns-in_err-map_err-2
returns-in_err-map_err-2 c =
    let p = err_from_is_err_and c.from_residual-in_err-map_err-2.result c.from_residual-in_err-map_err-2.ensures.1 in
    let z = file_passed c.check.result c.map_err.result _ c.map_err.ensures.variant c.in_ok-map_err.was c.check.ensures in
    let t = file_refused c.check-2.result c.map_err-2.result _ _ c.map_err-2.ensures.cases c.in_err-map_err-2.was in
    rw (p.1, p.2, t.2) (sym (second-refused _ _ _ _ _ t.0 z (sym c.check-2.ensures ∙ ap checked_answer t.1)))

pub lists-requires : goal.lists-requires
lists-requires c =
    record {
      first = file_passed c.check.result c.map_err.result _ c.map_err.ensures.variant c.in_ok-map_err.was c.check.ensures;
      second = file_passed c.check-2.result c.map_err-2.result _ c.map_err-2.ensures.variant c.in_ok-map_err-2.was c.check-2.ensures;
    }
