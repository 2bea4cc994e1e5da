-- `session::work::seal_in`: the callees give the states before the part, the mark, and the sealed blocks with the buffered
-- rest. `part-given` shows that together they are the session that the definition gives after the part.
use lib.ListN.{length}
use mathlib.Core.List.{[]}
use mathlib.Core.Path.{refl, sym, ◌∙◌, subst}
use native.Mathlib.Nat.{mod-lt}
use native.Mathlib.Omega.{arith}
use Prim.Native.Nat.{ℕ, ◌%◌, ◌<◌}
use Rattle.block_state.specs.Two.{two_of}
use Rattle.session.specs.Value.{text_number, text_done, text_part}
use Rattle.session.specs.Structs.{as_value}
use Rattle.session_ladder.proofs.Rungs.{text-passed}
use Rattle.session.proofs.Refuse.{answer-done}
use Rattle.session.proofs.Parts.{part-given, done_more}
use Rattle.session.proofs.work.seal_in.Goals as goal

pub going-two-requires : goal.going-two-requires
going-two-requires c =
    (text-passed c.args.session.suite c.args.session.ad_total c.args.session.text_total (length c.args.part.now) (length c.args.out.now) c.requires.0).0.known

pub crypt_part-sealed-requires : goal.crypt_part-sealed-requires
crypt_part-sealed-requires c =
    let p = text-passed c.args.session.suite c.args.session.ad_total c.args.session.text_total (length c.args.part.now) (length c.args.out.now) c.requires.0 in
    (p.0.known, subst (λ (k : ℕ). c.args.session.text_total % c.size_of-n.result < k) c.size_of-n.ensures.is (mod-lt c.args.session.text_total c.size_of-n.ensures.bounds.0), p.2)

pub overflow_add-session : goal.overflow_add-session
overflow_add-session c =
    let s = c.args.session in
    let p = text-passed s.suite s.ad_total s.text_total (length c.args.part.now) (length c.args.out.now) c.requires.0 in
    omega (arith, p.0.text-most, p.1)

pub returns : goal.returns
unfolding text_part
returns c =
    let v = as_value c.args.session in
    let p = c.args.part.now in
    let o = c.args.out.now in
    part-given v (two_of c.args.session.suite c.going-two.result) c.size_of-n.result c.first_mark-mark.result c.going-two.ensures c.size_of-n.ensures.is c.first_mark-mark.ensures p o _ c.crypt_part-sealed.result.count _
    (two_of c.args.session.suite c.crypt_part-sealed.result.s) c.crypt_part-sealed.result.held c.crypt_part-sealed.ensures.text c.crypt_part-sealed.ensures.count c.packed-next.ensures c.crypt_part-sealed.ensures.states c.crypt_part-sealed.ensures.held
    ∙ done_more v p o (λ e. omega (arith, c.requires.1))
    ∙ answer-done 0 (text_number v.suite v.ad_total v.text_total (length p) (length o)) (text_done v p o) v o [] refl (sym c.requires.0)
