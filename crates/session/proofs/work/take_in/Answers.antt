-- `session::work::take_in`: the buffered bytes and the part of associated data are absorbed. The session's new fields are
-- those that the definition gives for the longer associated data.
use lib.ListN.{length, take}
use mathlib.Core.Bool.{false}
use mathlib.Core.List.{List, [], ◌++◌}
use mathlib.Core.Path.{refl, sym, ap, ap₂, ◌∙◌, subst}
use native.Mathlib.Nat.{mod-lt}
use native.Mathlib.Omega.{arith}
use Prim.Native.Nat.{ℕ, ◌+◌, ◌%◌, ◌<◌}
use Rattle.block.specs.Blocks.{filled}
use Rattle.cipher.specs.Cipher.{size_of, cipher_of}
use Rattle.mode.specs.Blocks.{blocks}
use Rattle.mode.specs.Walk.{States, whole, rest, walked}
use Rattle.session.specs.Value.{Value, value_of, gave, states, data_number, data_states, data_in, data_part}
use Rattle.session.specs.Structs.{as_value}
use Rattle.session_ladder.proofs.Rungs.{data_passed}
use Rattle.session.proofs.Refuse.{answer-done}
use Rattle.session.proofs.work.take_in.Goals as goal

pub absorb_part-absorbed-requires : goal.absorb_part-absorbed-requires
absorb_part-absorbed-requires c =
    let p = data_passed c.args.session.suite c.args.session.ad_total c.args.session.text_total (length c.args.part.now) c.requires in
    (p.0.known, subst (λ (k : ℕ). c.args.session.ad_total % c.size_of-n.result < k) c.size_of-n.ensures.is (mod-lt c.args.session.ad_total c.size_of-n.ensures.bounds.0))

pub overflow_add-session : goal.overflow_add-session
overflow_add-session c =
    let s = c.args.session in
    let p = data_passed s.suite s.ad_total s.text_total (length c.args.part.now) c.requires in
    omega (arith, p.0.data-most, p.2)

pub returns : goal.returns
unfolding data_in data_states data_part
returns c =
    let v = as_value c.args.session in
    let k = cipher_of c.args.session.suite in
    let n = size_of c.args.session.suite in
    let p = c.args.part.now in
    let x : ℕ → List ℕ = λ j. take (v.ad_total % j) v.held ++ p in
    let es = c.absorb_part-absorbed.ensures.states
    ∙ ap₂ (λ (m j : ℕ). walked k false m 0x10 (states k v) (blocks n (whole n (x j)))) c.first_mark-mark.ensures c.size_of-n.ensures.is in
    let eh = c.absorb_part-absorbed.ensures.held ∙ ap (λ (j : ℕ). filled (rest n (x j))) c.size_of-n.ensures.is in
    ap (λ (w : Value). gave 0 0 w [] [])
    (c.packed-next.ensures ∙ ap₂ (λ (s : States) (h : List ℕ). value_of v.suite s h (v.ad_total + length p) v.text_total) es eh)
    ∙ answer-done 0 (data_number v.suite v.ad_total v.text_total (length p)) (gave 0 0 (data_in k v p) [] []) v [] [] refl (sym c.requires)
