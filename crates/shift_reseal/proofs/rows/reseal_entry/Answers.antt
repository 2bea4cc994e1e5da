-- The entry is opened to its own offset in the output; if its tag is right, the text is sealed there under the new suite.
use mathlib.Core.Bool.{false, true≢false}
use Rattle.std.specs.Result.{is_ok}
use Rattle.std.proofs.lemmas.Result.{err_from_is_err_and}
use mathlib.Core.Path.{◌≡◌, sym, ap, ap₂, ◌∙◌}
use native.Mathlib.Omega.{arith}
use Prim.Native.Nat.{◌+◌, ◌-◌}
use borrow.Rule.Slice.PartMut.{put_mid, same_len_mid}
use Rattle.status.specs.Verdicts.{number_of}
use Rattle.status.proofs.Refuse.{error-some}
use Rattle.shift_draft.specs.Put.{put}
use Rattle.shift_piece.proofs.Lending.{open_told, put-over}
use Rattle.shift_reseal.proofs.Lending.{piece-in, text_in, text-own, opened-long, opened_in, piece-long, opened-is, can-seal, piece-four}
use Rattle.shift_reseal.proofs.rows.reseal_entry.Goals as goal

pub slice_bounds-open-end : goal.slice_bounds-open-end
slice_bounds-open-end c = text_in c.args.lent.now.file.now c.args.lent.now.index c.args.lent.now.row c.args.lent.now.ring.now c.args.out.now c.requires _ c.text_start-start.ensures

pub returns-in_err-open : goal.returns-in_err-open
returns-in_err-open c =
    let lo = text-own c.args.lent.now.file.now c.args.lent.now.index c.args.lent.now.row c.args.lent.now.ring.now c.args.out.now c.requires _ c.text_start-start.ensures in
    let t = open_told c.args.lent.now.file.now c.args.lent.now.ring.now c.args.lent.now.index c.requires.row.entry c.requires.row.ring_long _ _ _ lo c.open.ensures in
    let p = err_from_is_err_and c.from_residual.result c.from_residual.ensures.1 in
    let w : is_ok c.from_residual.result ≡ false = ap is_ok p.1 in
    record { right = w ∙ t.wrong (rw c.in_err-open.was (error-some _)); text = λ e. absurd (true≢false (sym e ∙ w)) }

pub slice_bounds-seal_into-end : goal.slice_bounds-seal_into-end
slice_bounds-seal_into-end c =
    omega (
      arith,
      opened_in c.args.lent.now.file.now c.args.lent.now.index c.args.lent.now.row c.args.lent.now.ring.now c.args.out.now c.requires _ c.text_start-start.ensures c.open.new.out c.open.auto.out _ c.size_of.ensures.is,
    )

pub seal_into-requires : goal.seal_into-requires
seal_into-requires c =
    can-seal c.args.lent.now.file.now c.args.lent.now.index c.args.lent.now.row c.args.lent.now.ring.now c.args.out.now c.requires _ c.text_start-start.ensures
    c.open.new.out c.open.auto.out _ c.size_of.ensures.is

pub shape_of-out : goal.shape_of-out
shape_of-out c =
    let b = c.text_start-start.result + c.args.lent.now.row.text_len in
    let e = c.text_start-start.result + (c.args.lent.now.row.text_len + c.size_of.result) in
    let out = c.args.out.now in
    let x = c.open.new.out in
    same_len_mid c.text_start-start.result (e - c.text_start-start.result) (put_mid c.text_start-start.result (b - c.text_start-start.result) out x) c.seal_into.new.out c.seal_into.auto.out
    ∙ same_len_mid c.text_start-start.result (b - c.text_start-start.result) out x c.open.auto.out

pub returns : goal.returns
returns c =
    let f = c.args.lent.now.file.now in
    let ring = c.args.lent.now.ring.now in
    let out = c.args.out.now in
    let x = c.open.new.out in
    let k = c.open.auto.out in
    let y = c.seal_into.new.out in
    let ly = c.seal_into.auto.out ∙ piece-long f c.args.lent.now.index c.args.lent.now.row ring out c.requires c.text_start-start.result c.text_start-start.ensures x k c.size_of.result c.size_of.ensures.is in
    let t = (open_told f ring c.args.lent.now.index c.requires.row.entry c.requires.row.ring_long _ _ _ (text-own f c.args.lent.now.index c.args.lent.now.row ring out c.requires c.text_start-start.result c.text_start-start.ensures) c.open.ensures).done
    (ap number_of c.in_ok-open.was) in record {
      right = t.0;
      text = λ e.
          put-over out x y c.text_start-start.result (c.text_start-start.result + c.args.lent.now.row.text_len) (c.text_start-start.result + (c.args.lent.now.row.text_len + c.size_of.result)) (omega arith) (omega arith)
          (piece-in f c.args.lent.now.index c.args.lent.now.row ring out c.requires c.text_start-start.result c.size_of.result c.text_start-start.ensures c.size_of.ensures.is) (opened-long f c.args.lent.now.index c.args.lent.now.row ring out c.requires c.text_start-start.result c.text_start-start.ensures x k) ly
          ∙ ap₂ (put out) c.text_start-start.ensures c.seal_into.ensures
          ∙ piece-four f ring c.args.lent.now.index c.args.lent.now.row c.requires.is_row c.requires.four _ out (opened-is f c.args.lent.now.index c.args.lent.now.row ring out c.requires c.text_start-start.result c.text_start-start.ensures x k c.size_of.result c.size_of.ensures.is ∙ t.1);
    }
