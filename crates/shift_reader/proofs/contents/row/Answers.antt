-- A refused header stands; a number past the rows is 32; else the row lies in the file and is listed as it stands there.
use Rattle.std.proofs.Common.{◌<◌, ◌≤◌, sym, refl, ap, ◌∙◌, subst, arith}
use Rattle.std.proofs.lemmas.Result.{err_from_is_err_and}
use Rattle.shift_format.specs.Format.{first_edition, newest, count_of}
use Rattle.shift_format.proofs.Rows.{row_in}
use Rattle.status.specs.Answers.{checked_answer}
use Rattle.shift_check.proofs.Sound.{headed}
use Rattle.shift_check.proofs.Passed.{passed_zero}
use Rattle.shift_reader.specs.declared.cursor.Listed.{Listed}
use Rattle.shift_reader.specs.Contents.{no_fields, fields_of}
use Rattle.shift_reader.proofs.ByRow.{refused-head, row_goes, row-past, row-stops, nonce-low}
use Rattle.shift_reader.proofs.contents.row.Goals as goal

pub returns-in_err-check_head : goal.returns-in_err-check_head
returns-in_err-check_head c =
    let p = err_from_is_err_and c.from_residual.result c.from_residual.ensures.1 in
    let r = refused-head c.args.file.now c.in_err-check_head.field-0.0 (sym c.check_head.ensures ∙ ap checked_answer c.in_err-check_head.was) in
    rw (p.1, p.2) (sym (row-stops c.args.file.now c.args.index r.1 ∙ ap no_fields r.0), r.2)

pub count-requires : goal.count-requires
count-requires c =
    (headed first_edition newest c.args.file.now (passed_zero _ _ c.in_ok-check_head.was c.check_head.ensures)).long

pub returns-then-count-at : goal.returns-then-count-at
returns-then-count-at c =
    let z = passed_zero _ _ c.in_ok-check_head.was c.check_head.ensures in
    let l : count_of c.args.file.now ≤ c.args.index = omega (arith, c.count.ensures) in
    (sym (row-past c.args.file.now c.args.index z l), refl)

pub listed_at-requires : goal.listed_at-requires
listed_at-requires c =
    let p = headed first_edition newest c.args.file.now (passed_zero _ _ c.in_ok-check_head.was c.check_head.ensures) in
    row_in _ c.args.file.now (count_of c.args.file.now) _ p.table (rw c.count.ensures at c.if-count-at.false)

pub fields_of-requires : goal.fields_of-requires
fields_of-requires c =
    let z = passed_zero _ _ c.in_ok-check_head.was c.check_head.ensures in
    let l : c.args.index < count_of c.args.file.now = rw c.count.ensures at c.if-count-at.false in
    subst (λ (x : Listed). x.nonce < 0x1_0000_0000) (sym c.listed_at.ensures) (nonce-low c.args.file.now c.args.index z l)

pub returns : goal.returns
returns c =
    let z = passed_zero _ _ c.in_ok-check_head.was c.check_head.ensures in
    let l : c.args.index < count_of c.args.file.now = rw c.count.ensures at c.if-count-at.false in
    (c.fields_of.ensures ∙ ap fields_of c.listed_at.ensures ∙ sym (row_goes c.args.file.now c.args.index z l), refl)
