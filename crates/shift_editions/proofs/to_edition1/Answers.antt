-- A refusal leaves the output; else the file is written.
use mathlib.Core.Path.{sym, ap, ◌∙◌}
use lib.ListN.{length}
use Rattle.std.proofs.lemmas.Result.{err_from_is_err_and}
use Rattle.shift_format.specs.Format.{first_edition, newest}
use Rattle.shift_editions.specs.Files.{moved}
use Rattle.shift_editions.specs.Answers.{to_edition1_of}
use Rattle.shift_editions.specs.Promised.{done}
use Rattle.shift_editions.proofs.Done.{refusal_some, told_zero, refused-moves, back_goes, source, back_is}
use Rattle.shift_editions.proofs.to_edition1.Goals as goal

pub returns-in_err-back_refused : goal.returns-in_err-back_refused
unfolding to_edition1_of
returns-in_err-back_refused c =
    let p = err_from_is_err_and c.from_residual.result c.from_residual.ensures.1 in
    rw (p.1, p.2) (refused-moves _ _ (moved first_edition c.args.file.now) c.args.out.now (rw c.in_err-back_refused.was at c.back_refused.ensures) (refusal_some _))

pub write-requires : goal.write-requires
write-requires c =
    let d = (back_goes c.args.file.now (length c.args.out.now) (told_zero _ _ c.back_refused.ensures c.in_ok-back_refused.was)).0 in
    (source newest c.args.file.now d.passed, d.room)

pub returns : goal.returns
returns c =
    let d = (back_goes c.args.file.now (length c.args.out.now) (told_zero _ _ c.back_refused.ensures c.in_ok-back_refused.was)).0 in
    ap done c.write.ensures ∙ sym (back_is c.args.file.now c.args.out.now d.zero)
