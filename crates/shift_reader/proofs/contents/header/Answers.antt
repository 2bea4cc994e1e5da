-- A refused header stands; else edition and row count are the header's.
use Rattle.std.proofs.Common.{◌≤◌, sym, refl, ap, ◌∙◌, arith}
use Rattle.std.proofs.lemmas.Result.{err_from_is_err_and}
use Rattle.shift_format.specs.Format.{first_edition, newest}
use Rattle.status.specs.Answers.{checked_answer}
use Rattle.shift_check.proofs.Sound.{headed}
use Rattle.shift_check.proofs.Passed.{passed_zero}
use Rattle.shift_reader.specs.Contents.{no_header}
use Rattle.shift_reader.proofs.ByRow.{header-goes, header-stops, refused-head}
use Rattle.shift_reader.proofs.contents.header.Goals as goal

pub returns-in_err-check_head : goal.returns-in_err-check_head
returns-in_err-check_head c =
    let f = c.args.file.now in
    let p = err_from_is_err_and c.from_residual.result c.from_residual.ensures.1 in
    let r = refused-head f c.in_err-check_head.field-0.0 (sym c.check_head.ensures ∙ ap checked_answer c.in_err-check_head.was) in
    rw (p.1, p.2) (sym (header-stops f r.1 ∙ ap no_header r.0), r.2)

pub get16-requires : goal.get16-requires
get16-requires c =
    let long = (headed first_edition newest c.args.file.now (passed_zero _ _ c.in_ok-check_head.was c.check_head.ensures)).long in
    omega (arith, long)

pub count-requires : goal.count-requires
count-requires c =
    (headed first_edition newest c.args.file.now (passed_zero _ _ c.in_ok-check_head.was c.check_head.ensures)).long

pub overflow_cast-result-2 : goal.overflow_cast-result-2
overflow_cast-result-2 c =
    let few = (headed first_edition newest c.args.file.now (passed_zero _ _ c.in_ok-check_head.was c.check_head.ensures)).few in
    let low : c.count.result ≤ 512 = rw c.count.ensures few in
    omega (arith, low)

pub returns : goal.returns
returns c =
    let g = header-goes c.args.file.now (passed_zero _ _ c.in_ok-check_head.was c.check_head.ensures) in
    rw (g, c.count.ensures, c.get16.ensures) (refl, refl)
