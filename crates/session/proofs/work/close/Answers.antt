-- `session::work::close`: after `begin` the buffered bytes are the message's last block, one short block or none. Sealing it
-- ends the walk over the message, and the tag of the last state is the definition's tag.
use lib.ListN.{length, take}
use mathlib.Core.Path.{refl, sym, ap, ◌∙◌, subst}
use native.Mathlib.Nat.{mod-lt}
use native.Mathlib.Omega.{arith}
use Prim.Native.Nat.{ℕ, ◌%◌, ◌<◌}
use Rattle.block.specs.Blocks.{wide}
use Rattle.cipher.proofs.Suites.{size_most}
use Rattle.block_state.specs.Two.{two_of}
use Rattle.session.specs.Value.{end_number, end_done, ending}
use Rattle.session.specs.Structs.{as_value}
use Rattle.session_ladder.proofs.Rungs.{end-passed}
use Rattle.session.proofs.Refuse.{answer-done}
use Rattle.session.proofs.Parts.{end-given}
use Rattle.session.proofs.work.close.Goals as goal

pub invariant_of-engine : goal.invariant_of-engine
invariant_of-engine c =
    let s = c.args.session in
    let p = end-passed s.suite s.ad_total s.text_total (length c.args.out.now) (length c.args.tag.now) c.requires.1 in
    record { known = p.0.known; fitted = c.requires.0 }

pub begin-two-requires : goal.begin-two-requires
begin-two-requires c =
    (end-passed c.args.session.suite c.args.session.ad_total c.args.session.text_total (length c.args.out.now) (length c.args.tag.now) c.requires.1).0.known

pub last_in-state-requires : goal.last_in-state-requires
last_in-state-requires c =
    let s = c.args.session in
    let p = end-passed s.suite s.ad_total s.text_total (length c.args.out.now) (length c.args.tag.now) c.requires.1 in
    (subst (λ (k : ℕ). s.text_total % c.size-n.result < k) c.size-n.ensures.is (mod-lt s.text_total c.size-n.ensures.bounds.0), p.1)

pub put-requires : goal.put-requires
put-requires c =
    let p = end-passed c.args.session.suite c.args.session.ad_total c.args.session.text_total (length c.args.out.now) (length c.args.tag.now) c.requires.1 in
    omega (arith, p.2, size_most c.args.session.suite)

pub returns : goal.returns
unfolding ending
returns c =
    let v = as_value c.args.session in
    let o = c.args.out.now in
    let t = c.args.tag.now in
    let p = end-passed c.args.session.suite c.args.session.ad_total c.args.session.text_total (length o) (length t) c.requires.1 in
    end-given v (two_of c.args.session.suite c.begin-two.result) c.size-n.result c.first_mark-mark.result c.begin-two.ensures c.size-n.ensures.is c.first_mark-mark.ensures o _ _ _ _ (two_of c.args.session.suite c.last_in-state.result)
    c.last_in-state.ensures.text c.last_in-state.ensures.count c.default.ensures c.last_in-state.ensures.state
    (c.put.ensures ∙ ap (λ (k : ℕ). take k (wide c.tag_of-last.result.tag)) p.2 ∙ c.tag_of-last.ensures.tag)
    ∙ answer-done 0 (end_number v.suite v.ad_total v.text_total (length o) (length t)) (end_done v o) v o t refl (sym c.requires.1)
