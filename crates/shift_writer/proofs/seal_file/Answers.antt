-- A refusal leaves the output; else the draft is copied, its edition changed, and each row sealed.
use mathlib.Core.List.{List}
use mathlib.Core.Path.{sym, ap, ap₂, ◌∙◌}
use native.Mathlib.Omega.{arith}
use Prim.Native.Nat.{ℕ}
use Rattle.status.specs.Answers.{answer}
use Rattle.std.proofs.lemmas.Result.{err_from_is_err_and}
use Rattle.shift_format.specs.Format.{first_edition}
use Rattle.shift_draft.specs.Put.{put_all}
use Rattle.shift_draft.specs.Files.{draft_edition, in_edition, piece_start, sealed_piece, sealed_file}
use Rattle.shift_draft.specs.Answers.{writes}
use Rattle.shift_draft.proofs.Answers.{sealing_is, sealing-kept}
use Rattle.shift_draft.proofs.Back.{plain_draft}
use Rattle.shift_writer.specs.Answers.{written_answer}
use Rattle.shift_writer.proofs.Done.{write_some, seal_can, header-in, writable}
use Rattle.shift_writer.proofs.seal_file.Goals as goal

pub returns-in_err-seal_refused : goal.returns-in_err-seal_refused
returns-in_err-seal_refused c =
    let p = err_from_is_err_and c.from_residual.result c.from_residual.ensures.1 in
    rw (p.1, p.2)
    (sym (sealing-kept c.args.draft.now c.args.ring.now c.args.out.now _ (rw c.in_err-seal_refused.was at c.seal_refused.ensures) (write_some _)))

-- nothing was refused
pub copy-requires : goal.copy-requires
copy-requires c = (seal_can _ _ _ _ c.seal_refused.ensures c.in_ok-seal_refused.was).room.out-long

pub put_edition-requires : goal.put_edition-requires
put_edition-requires c =
    let can = seal_can _ _ _ _ c.seal_refused.ensures c.in_ok-seal_refused.was in
    omega (arith, c.copy.auto.to, can.room.out-long, header-in draft_edition c.args.draft.now plain_draft can.passed)

pub count-requires : goal.count-requires
count-requires c =
    header-in draft_edition c.args.draft.now plain_draft (seal_can _ _ _ _ c.seal_refused.ensures c.in_ok-seal_refused.was).passed

pub seal_rows-requires : goal.seal_rows-requires
seal_rows-requires c =
    let can = seal_can _ _ _ _ c.seal_refused.ensures c.in_ok-seal_refused.was in
    let long = c.put_edition.auto.out ∙ c.copy.auto.to ∙ can.room.out-long in (
      writable draft_edition c.args.draft.now plain_draft can.passed _ _ _ c.count.ensures can.room.ring_long long,
      record { still = λ i l. can.all-seal i (rw c.count.ensures at l) },
    )

pub returns : goal.returns
unfolding sealed_file
returns c =
    let f = c.args.draft.now in
    let ring = c.args.ring.now in
    let edited = c.put_edition.ensures ∙ ap (in_edition first_edition) c.copy.ensures in
    let done = sym (ap written_answer c.in_ok-seal_refused.was) ∙ c.seal_refused.ensures in
    ap (writes (answer 0 0))
    (c.seal_rows.ensures ∙ ap₂ (λ (k : ℕ) (l : List ℕ). put_all (piece_start f) (sealed_piece f ring) k l) c.count.ensures edited)
    ∙ sym (sealing_is f ring c.args.out.now (answer 0 0) done)
