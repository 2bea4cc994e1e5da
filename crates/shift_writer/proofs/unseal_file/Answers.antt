-- A refusal leaves the output; else the file is copied, its edition changed, and each row opened.
use mathlib.Core.Path.{sym, ap, ◌∙◌}
use native.Mathlib.Omega.{arith}
use Rattle.status.specs.declared.checked.Answer.{Answer}
use Rattle.std.proofs.lemmas.Result.{err_from_is_err_and}
use Rattle.shift_format.specs.Format.{first_edition}
use Rattle.shift_draft.specs.Put.{put_all}
use Rattle.shift_draft.specs.Files.{draft_edition, in_edition, piece_start, draft_piece, draft_file}
use Rattle.shift_draft.specs.Answers.{wrong_from, leaves}
use Rattle.shift_draft.proofs.Answers.{wrong-leaves, unsealing-kept, unsealing-tags}
use Rattle.shift_draft.proofs.Back.{plain_file}
use Rattle.shift_writer.specs.Answers.{written_answer}
use Rattle.shift_writer.proofs.Done.{write_some, open_can, header-in, writable}
use Rattle.shift_writer.proofs.unseal_file.Goals as goal

pub returns-in_err-unseal_refused : goal.returns-in_err-unseal_refused
returns-in_err-unseal_refused c =
    let p = err_from_is_err_and c.from_residual.result c.from_residual.ensures.1 in
    rw (p.1, p.2)
    (sym (unsealing-kept c.args.file.now c.args.ring.now c.args.out.now _ (rw c.in_err-unseal_refused.was at c.unseal_refused.ensures) (write_some _)))

-- nothing was refused
pub copy-requires : goal.copy-requires
copy-requires c = (open_can _ _ _ _ c.unseal_refused.ensures c.in_ok-unseal_refused.was).room.out-long

pub put_edition-requires : goal.put_edition-requires
put_edition-requires c =
    let can = open_can _ _ _ _ c.unseal_refused.ensures c.in_ok-unseal_refused.was in
    omega (arith, c.copy.auto.to, can.room.out-long, header-in first_edition c.args.file.now plain_file can.passed)

pub count-requires : goal.count-requires
count-requires c =
    header-in first_edition c.args.file.now plain_file (open_can _ _ _ _ c.unseal_refused.ensures c.in_ok-unseal_refused.was).passed

pub unseal_rows-requires : goal.unseal_rows-requires
unseal_rows-requires c =
    let can = open_can _ _ _ _ c.unseal_refused.ensures c.in_ok-unseal_refused.was in
    let long = c.put_edition.auto.out ∙ c.copy.auto.to ∙ can.room.out-long in
    writable first_edition c.args.file.now plain_file can.passed _ _ _ c.count.ensures can.room.ring_long long

pub returns : goal.returns
unfolding draft_file
returns c =
    let f = c.args.file.now in
    let ring = c.args.ring.now in
    let mid = c.put_edition.new.out in
    let zero = sym (ap (λ (x : Answer). x.number) (sym (ap written_answer c.in_ok-unseal_refused.was) ∙ c.unseal_refused.ensures)) in
    let edited = c.put_edition.ensures ∙ ap (in_edition draft_edition) c.copy.ensures in
    c.unseal_rows.ensures
    ∙ (λ j. leaves (wrong_from f ring (c.count.ensures j) 0) (put_all (piece_start f) (draft_piece f ring) (c.count.ensures j) (edited j)) mid)
    ∙ wrong-leaves f ring (draft_file f ring) mid c.args.out.now (c.put_edition.auto.out ∙ c.copy.auto.to)
    ∙ sym (unsealing-tags f ring c.args.out.now zero)
