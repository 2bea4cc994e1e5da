-- A refused check stands; then the first clash of the table as it would be; then the lengths.
use mathlib.Core.Path.{◌≡◌, sym, ◌∙◌}
use native.Mathlib.Omega.{arith}
use Rattle.std.proofs.lemmas.Result.{err_from_is_err_and}
use Rattle.shift_format.specs.Format.{count_of, first_edition}
use Rattle.status.specs.Answers.{answer}
use Rattle.shift_check.proofs.Passed.{passed_zero, refused_stands}
use Rattle.shift_draft.proofs.Back.{plain_file}
use Rattle.shift_writer.proofs.Done.{header-in}
use Rattle.shift_reseal.specs.Files.{retabled}
use Rattle.shift_reseal.specs.Answers.{seen_from, take_answer}
use Rattle.shift_reseal.proofs.Answers.{take-seen, take-lent}
use Rattle.shift_reseal.proofs.refused.Goals as goal

pub returns-in_err-check_as : goal.returns-in_err-check_as
unfolding take_answer
returns-in_err-check_as c =
    let p = err_from_is_err_and c.from_residual.result c.from_residual.ensures.1 in
    rw (p.1, p.2) (sym (refused_stands _ _ _ _ c.in_err-check_as.was c.check_as.ensures))

pub count-rows-requires : goal.count-rows-requires
count-rows-requires c =
    header-in first_edition c.args.file.now plain_file
    (passed_zero _ _ c.in_ok-check_as.was c.check_as.ensures)

pub first_clash-requires : goal.first_clash-requires
first_clash-requires c =
    record { passed = passed_zero _ _ c.in_ok-check_as.was c.check_as.ensures; rows = c.count-rows.ensures }

pub returns-in-Some : goal.returns-in-Some
returns-in-Some c =
    let z = passed_zero _ _ c.in_ok-check_as.was c.check_as.ensures in
    take-seen c.args.file.now c.args.ring c.args.out z _ (rw c.count-rows.ensures at c.in-Some.ensures) (λ q. omega arith)

pub returns : goal.returns
returns c =
    let f = c.args.file.now in
    let z = passed_zero _ _ c.in_ok-check_as.was c.check_as.ensures in
    let none : seen_from (retabled f) (count_of f) 0 ≡ answer 0 0 = sym (rw c.count-rows.ensures at c.in_default.ensures) in
    c.lent_refused.ensures ∙ take-lent f c.args.ring c.args.out z none
