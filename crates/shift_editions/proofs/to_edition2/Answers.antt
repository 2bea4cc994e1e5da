-- A refusal leaves the output; else the file is written.
use mathlib.Core.Path.{sym, ap, ◌∙◌}
use lib.ListN.{length}
use Rattle.std.proofs.lemmas.Result.{err_from_is_err_and}
use Rattle.shift_format.specs.Format.{first_edition, newest}
use Rattle.shift_editions.specs.Files.{moved}
use Rattle.shift_editions.specs.Answers.{to_edition2_of}
use Rattle.shift_editions.specs.Promised.{done}
use Rattle.shift_editions.proofs.Done.{refusal_some, told_zero, refused-moves, up_goes, source, up_is}
use Rattle.shift_editions.proofs.to_edition2.Goals as goal

pub returns-in_err-up_refused : goal.returns-in_err-up_refused
unfolding to_edition2_of
returns-in_err-up_refused c =
    let p = err_from_is_err_and c.from_residual.result c.from_residual.ensures.1 in
    rw (p.1, p.2) (refused-moves _ _ (moved newest c.args.file.now) c.args.out.now (rw c.in_err-up_refused.was at c.up_refused.ensures) (refusal_some _))

pub write-requires : goal.write-requires
write-requires c =
    let d = up_goes c.args.file.now (length c.args.out.now) (told_zero _ _ c.up_refused.ensures c.in_ok-up_refused.was) in
    (source first_edition c.args.file.now d.passed, d.room)

pub returns : goal.returns
returns c =
    let d = up_goes c.args.file.now (length c.args.out.now) (told_zero _ _ c.up_refused.ensures c.in_ok-up_refused.was) in
    ap done c.write.ensures ∙ sym (up_is c.args.file.now c.args.out.now d.zero)
