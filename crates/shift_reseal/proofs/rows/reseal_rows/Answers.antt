-- A turn of the loop and both its ends are laws of the invariant `Filling`.
use mathlib.Core.Bool.{true, not}
use mathlib.Core.Path.{◌≡◌, sym, ap, ◌∙◌}
use native.Mathlib.Omega.{arith}
use Rattle.std.specs.Result.{is_ok}
use Rattle.shift_reseal.specs.Answers.{wrong_again_from}
use Rattle.shift_draft.proofs.RowLoop.{filling-start, filling-more, filling-wrong, filling-end}
use Rattle.shift_reseal.proofs.rows.reseal_rows.Goals as goal

pub loop-i-init : goal.loop-i-init
loop-i-init c = filling-start

pub reseal_row-requires : goal.reseal_row-requires
reseal_row-requires c =
    record { entry = c.requires.entries _ c.loop-i-test.true; ring_long = c.requires.ring_long; out-long = c.loop-i.invariant.long ∙ c.requires.out-long }

pub returns-then-is_err : goal.returns-then-is_err
unfolding wrong_again_from
returns-then-is_err c =
    filling-wrong c.loop-i.invariant c.loop-i-test.true
    (sym c.reseal_row.ensures.right ∙ ap not (c.is_err.ensures.negation ∙ ap not c.if-is_err.true)) c.reseal_row.auto.out c.wipe.ensures

pub loop-i-preserved : goal.loop-i-preserved
loop-i-preserved c =
    let e : is_ok c.reseal_row.result ≡ true = c.is_err.ensures.negation ∙ ap not c.if-is_err.false in
    filling-more c.loop-i.invariant c.loop-i-test.true
    (sym c.reseal_row.ensures.right ∙ ap not e) c.reseal_row.auto.out (c.reseal_row.ensures.text e)

pub returns : goal.returns
unfolding wrong_again_from
returns c = filling-end c.loop-i.invariant (omega arith)
