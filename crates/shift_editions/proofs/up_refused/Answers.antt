-- A refused check stands; then the lengths.
use mathlib.Core.Path.{sym, ap, ◌∙◌}
use Prim.Native.Nat.{ℕ}
use Rattle.std.proofs.lemmas.Result.{err_from_is_err_and}
use Rattle.shift_format.specs.Format.{first_edition}
use Rattle.shift_check.proofs.Passed.{passed_zero, refused_stands}
use Rattle.shift_editions.specs.Answers.{length_answer, up_answer}
use Rattle.shift_editions.proofs.Done.{source}
use Rattle.shift_editions.proofs.up_refused.Goals as goal

pub returns-in_err-check_as : goal.returns-in_err-check_as
unfolding up_answer
returns-in_err-check_as c =
    let p = err_from_is_err_and c.from_residual.result c.from_residual.ensures.1 in
    rw (p.1, p.2) (sym (refused_stands _ _ _ _ c.in_err-check_as.was c.check_as.ensures))

pub length_in-requires : goal.length_in-requires
length_in-requires c =
    (source first_edition c.args.file.now
    (passed_zero _ _ c.in_ok-check_as.was c.check_as.ensures)).tabled

pub returns : goal.returns
unfolding up_answer
returns c =
    let z = passed_zero _ _ c.in_ok-check_as.was c.check_as.ensures in
    simp z (c.length_refused.ensures ∙ ap (λ (k : ℕ). length_answer k c.args.out) c.length_in.ensures)
