-- A refused header has no length; else it is that in the other edition, which the row's size tells.
use mathlib.Core.Path.{sym, ◌∙◌}
use Rattle.shift_format.specs.Format.{first_edition, newest}
use Rattle.shift_editions.proofs.Done.{tabled, length_none, head_passed, length_back, length_up}
use Rattle.shift_editions.proofs.moved_length.Goals as goal

pub returns-then-is_err : goal.returns-then-is_err
returns-then-is_err c = length_none c.args.file.now c.check_head.result (sym c.is_err.ensures.value ∙ c.if-is_err.true) c.check_head.ensures

pub row_size_of-requires : goal.row_size_of-requires
row_size_of-requires c =
    (tabled first_edition newest c.args.file.now (head_passed c.check_head.result _ (sym c.is_err.ensures.value ∙ c.if-is_err.false) c.check_head.ensures)).long

pub length_in-requires : goal.length_in-requires
length_in-requires c =
    tabled first_edition newest c.args.file.now (head_passed c.check_head.result _ (sym c.is_err.ensures.value ∙ c.if-is_err.false) c.check_head.ensures)

pub returns-then-row_size_of-row_size : goal.returns-then-row_size_of-row_size
returns-then-row_size_of-row_size c =
    let z = head_passed c.check_head.result _ (sym c.is_err.ensures.value ∙ c.if-is_err.false) c.check_head.ensures in
    c.length_in.ensures ∙ sym (length_back _ z (sym c.row_size_of.ensures ∙ c.if-row_size_of-row_size.true ∙ c.row_size.ensures))

pub length_in-requires-2 : goal.length_in-requires-2
length_in-requires-2 c =
    tabled first_edition newest c.args.file.now (head_passed c.check_head.result _ (sym c.is_err.ensures.value ∙ c.if-is_err.false) c.check_head.ensures)

pub returns : goal.returns
returns c =
    let z = head_passed c.check_head.result _ (sym c.is_err.ensures.value ∙ c.if-is_err.false) c.check_head.ensures in
    c.length_in-2.ensures ∙ sym (length_up _ z (λ e. c.if-row_size_of-row_size.false (c.row_size_of.ensures ∙ e ∙ sym c.row_size.ensures)))
