use Rattle.std.proofs.Common.{ℕ, suc, ◌<◌, length, drop, sym, ap, ◌∙◌}
use native.Mathlib.Omega.{arith}
use native.Mathlib.Numerals.{add-one}
use lib.ListN.{drop_of_length-le}
use lib.Seq.{drop-cons}
use Rattle.program_text.specs.Fold.{fold_from}
use Rattle.program_text.proofs.fold.Fold.bytes.Goals as goal

pub loop-byte-preserved : goal.loop-byte-preserved
unfolding fold_from
loop-byte-preserved c =
    let at = c.loop-byte in
    let b = c.args.bytes.now in
    let h : at.byte-index < length b = omega arith in
    rw add-one (ap (λ (v : ℕ). fold_from v (drop (suc at.byte-index) b)) c.byte-fold.ensures ∙ sym (ap (fold_from at.fold.value) (drop-cons b at.byte-index 0 h))
    ∙ at.invariant)

pub returns : goal.returns
unfolding fold_from
returns c =
    let at = c.loop-byte in
    sym (ap (fold_from at.fold.value) (drop_of_length-le c.args.bytes.now {i = at.byte-index} (omega arith))) ∙ at.invariant
