-- A refusal leaves the output; else the file is copied, its suites changed, and each suite 4 entry resealed.
use mathlib.Core.Path.{sym, ap, ap₂, ◌∙◌}
use Rattle.status.specs.declared.checked.Answer.{Answer}
use Rattle.std.proofs.lemmas.Result.{err_from_is_err_and}
use Rattle.shift_format.specs.Format.{first_edition}
use Rattle.shift_draft.specs.Put.{put_all}
use Rattle.shift_draft.specs.Files.{piece_start}
use Rattle.shift_draft.specs.Answers.{leaves}
use Rattle.shift_draft.proofs.Back.{plain_file}
use Rattle.shift_writer.specs.Answers.{written_answer}
use Rattle.shift_writer.proofs.Done.{write_some, header-in, writable}
use Rattle.shift_reseal.specs.Files.{resuited, again_piece, resealed_file}
use Rattle.shift_reseal.specs.Answers.{wrong_again_from}
use Rattle.shift_reseal.proofs.Answers.{again-leaves, resealing-kept, resealing-tags}
use Rattle.shift_reseal.proofs.Lending.{take_can, both_tables}
use Rattle.shift_reseal.proofs.reseal.Goals as goal

pub returns-in_err-refused : goal.returns-in_err-refused
returns-in_err-refused c =
    let p = err_from_is_err_and c.from_residual.result c.from_residual.ensures.1 in
    rw (p.1, p.2)
    (sym (resealing-kept c.args.file.now c.args.ring.now c.args.out.now _ (rw c.in_err-refused.was at c.refused.ensures) (write_some _)))

-- nothing was refused
pub copy-requires : goal.copy-requires
copy-requires c = (take_can _ _ _ _ c.refused.ensures c.in_ok-refused.was).room.out-long

pub count-n-requires : goal.count-n-requires
count-n-requires c = header-in first_edition c.args.file.now plain_file (take_can _ _ _ _ c.refused.ensures c.in_ok-refused.was).calm.checked

pub put_suites-requires : goal.put_suites-requires
put_suites-requires c =
    let can = take_can _ _ _ _ c.refused.ensures c.in_ok-refused.was in
    both_tables c.args.file.now _ can.calm.checked c.count-n.ensures _ (c.copy.auto.to ∙ can.room.out-long)

pub reseal_rows-requires : goal.reseal_rows-requires
reseal_rows-requires c =
    let can = take_can _ _ _ _ c.refused.ensures c.in_ok-refused.was in
    let long = c.put_suites.auto.out ∙ c.copy.auto.to ∙ can.room.out-long in
    writable first_edition c.args.file.now plain_file can.calm.checked _ _ _ c.count-n.ensures can.room.ring_long long

pub returns : goal.returns
unfolding resealed_file
returns c =
    let f = c.args.file.now in
    let ring = c.args.ring.now in
    let mid = c.put_suites.new.out in
    let zero = ap (λ (x : Answer). x.number) (sym c.refused.ensures ∙ ap written_answer c.in_ok-refused.was) in
    let suited = c.put_suites.ensures ∙ ap₂ (resuited f) c.count-n.ensures c.copy.ensures in
    c.reseal_rows.ensures
    ∙ (λ j. leaves (wrong_again_from f ring (c.count-n.ensures j) 0) (put_all (piece_start f) (again_piece f ring) (c.count-n.ensures j) (suited j)) mid)
    ∙ again-leaves f ring (resealed_file f ring) mid c.args.out.now (c.put_suites.auto.out ∙ c.copy.auto.to)
    ∙ sym (resealing-tags f ring c.args.out.now zero)
