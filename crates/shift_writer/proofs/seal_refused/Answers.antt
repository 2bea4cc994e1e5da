-- A refused check stands; then the first tag that is set; then the first suite that is retired; then the lengths.
use mathlib.Core.Path.{◌≡◌, sym, ◌∙◌}
use native.Mathlib.Omega.{arith}
use Prim.Native.Nat.{ℕ}
use Rattle.std.proofs.lemmas.Result.{err_from_is_err_and}
use Rattle.status.specs.Answers.{answer}
use Rattle.shift_format.specs.Format.{count_of}
use Rattle.shift_check.proofs.Passed.{passed_zero, refused_stands}
use Rattle.shift_draft.specs.Files.{draft_edition}
use Rattle.shift_draft.specs.Answers.{seal_answer, set_from, retired_from}
use Rattle.shift_draft.proofs.Answers.{seal-set, seal-retired, seal-lent}
use Rattle.shift_draft.proofs.Back.{plain_draft}
use Rattle.shift_writer.proofs.Done.{header-in, rows_in}
use Rattle.shift_writer.proofs.seal_refused.Goals as goal

pub returns-in_err-check_as : goal.returns-in_err-check_as
unfolding seal_answer
returns-in_err-check_as c =
    let p = err_from_is_err_and c.from_residual.result c.from_residual.ensures.1 in
    rw (p.1, p.2) (sym (refused_stands _ _ _ _ c.in_err-check_as.was c.check_as.ensures))

pub count-n-requires : goal.count-n-requires
count-n-requires c =
    header-in draft_edition c.args.draft.now plain_draft
    (passed_zero _ _ c.in_ok-check_as.was c.check_as.ensures)

pub first_set-requires : goal.first_set-requires
first_set-requires c =
    rw c.count-n.ensures (rows_in draft_edition c.args.draft.now plain_draft
    (passed_zero _ _ c.in_ok-check_as.was c.check_as.ensures))

pub returns-in-Some : goal.returns-in-Some
returns-in-Some c =
    let z = passed_zero _ _ c.in_ok-check_as.was c.check_as.ensures in
    seal-set c.args.draft.now c.args.ring c.args.out z _ (rw c.count-n.ensures at c.in-Some.ensures) (λ q. omega arith)

pub first_retired-requires : goal.first_retired-requires
first_retired-requires c =
    rw c.count-n.ensures (rows_in draft_edition
    c.args.draft.now plain_draft
    (passed_zero _ _ c.in_ok-check_as.was c.check_as.ensures))

pub returns-in-Some-first_retired : goal.returns-in-Some-first_retired
returns-in-Some-first_retired c =
    let z = passed_zero _ _ c.in_ok-check_as.was c.check_as.ensures in
    let none : set_from c.args.draft.now (count_of c.args.draft.now) 0 ≡ answer 0 0 = sym (rw c.count-n.ensures at c.in_default.ensures) in
    seal-retired c.args.draft.now c.args.ring c.args.out z none _ (rw c.count-n.ensures at c.in-Some-first_retired.ensures) (λ q. omega arith)

pub returns : goal.returns
returns c =
    let z = passed_zero _ _ c.in_ok-check_as.was c.check_as.ensures in
    let none : set_from c.args.draft.now (count_of c.args.draft.now) 0 ≡ answer 0 0 = sym (rw c.count-n.ensures at c.in_default.ensures) in
    let still : retired_from c.args.draft.now (count_of c.args.draft.now) 0 ≡ answer 0 0 = sym (rw c.count-n.ensures at c.in_default-first_retired.ensures) in
    c.lent_refused.ensures ∙ seal-lent c.args.draft.now c.args.ring c.args.out z none still
