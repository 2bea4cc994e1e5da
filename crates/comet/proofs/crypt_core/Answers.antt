-- `comet::crypt_core` meets its contract: the steps are the walk over the whole record, which `text-walk` and `tag-walk` equate with the
-- definition; the calls add up by `count-all`.
use mathlib.Core.Path.{◌≡◌, sym, ap, ◌∙◌, subst}
use lib.ListN.{length}
use native.Mathlib.Nat.{mod-lt}
use native.Mathlib.Omega.{arith}
use Prim.Native.Nat.{ℕ, ◌+◌, ◌^◌, ◌≤◌, ◌<◌}
use Rattle.block.specs.Words.{add}
use Rattle.block.proofs.Lists.{nil_of}
use Rattle.cipher.specs.Cipher.{size_of, cipher_of}
use Rattle.cipher.proofs.Lawful.{lawful}
use Rattle.mode.specs.Blocks.{blocks}
use Rattle.mode.specs.Walk.{States, walked, covered, tagged}
use Rattle.mode.proofs.Chain.{some}
use Rattle.mode.proofs.Walk.{text-walk, tag-walk}
use Rattle.mode.proofs.Calls.{calls_count}
use Rattle.block_walk.proofs.Front.{walk_none, cover-none}
use Rattle.block_state.specs.declared.State.{State}
use Rattle.block_state.specs.Two.{two_of}
use Rattle.comet.proofs.Counts.{count_most, count_all}
use Rattle.comet_text.proofs.Turns.{empty-count}
use Rattle.comet.proofs.crypt_core.Goals.{then-text-gt0, else-text-gt0, Joined-text-gt0}
use Rattle.comet.proofs.crypt_core.Goals as goal

-- what is not longer than nothing is empty
none : (n : ℕ) → n ≤ 0 → n ≡ 0
none n h = omega arith

-- a sum in 64 bits fits
small : (x a b : ℕ) → x ≡ add 64 a b → x < 2 ^ 64
small x a b e = subst (λ (n : ℕ). n < 2 ^ 64) (sym e) (mod-lt (a + b) (omega arith))

-- where the ways meet after the text: it was walked, or there was none
module _ (k : Joined-text-gt0) where
  pub done-is : (k.if-text-gt0.text
      ≡ covered (cipher_of k.args.header.suite) k.args.opening 0x20 0x40 (two_of k.args.header.suite k.data_core-state.result)
      (blocks (size_of k.args.header.suite) k.args.text.now))
      × (two_of k.args.header.suite k.if-text-gt0.state
      ≡ walked (cipher_of k.args.header.suite) k.args.opening 0x20 0x40 (two_of k.args.header.suite k.data_core-state.result)
      (blocks (size_of k.args.header.suite) k.args.text.now))
      × (k.if-text-gt0.state.calls ≡ add 64 k.data_core-state.result.calls (length (blocks (size_of k.args.header.suite) k.args.text.now)))
      × (length k.if-text-gt0.text ≡ length k.args.text.now)
  done-is =
      let suite = k.args.header.suite in
      let κ = cipher_of suite in
      let d = k.args.opening in
      let text = k.args.text.now in
      let r = k.data_core-state.result in
      let pos = some κ (lawful suite) in
      elim k.if-text-gt0.branch [
        | then-text-gt0 w ↦ (
          w.text-is ∙ w.crypt_all-state.ensures.text,
          ap (two_of suite) w.state-is ∙ w.crypt_all-state.ensures.state.0,
          ap (λ (s : State). s.calls) w.state-is ∙ w.crypt_all-state.ensures.state.1.made,
          ap length w.text-is ∙ w.crypt_all-state.auto.text,
        )
        | else-text-gt0 w ↦
            let empty = none (length text) w.if-text-gt0.false in (
              w.text-is ∙ nil_of text empty ∙ sym (cover-none κ pos d 0x40 0x20 (two_of suite r) text empty),
              ap (two_of suite) w.state-is ∙ sym (walk_none κ pos d 0x40 0x20 (two_of suite r) text empty),
              ap (λ (s : State). s.calls) w.state-is ∙ empty-count (size_of suite) pos text r.calls empty (small _ _ _ k.data_core-state.ensures.calls),
              ap length w.text-is,
            )
      ]

pub shape_of-text : goal.shape_of-text
shape_of-text c = (done-is (goal.at.shape_of-text c).Joined-text-gt0).3

pub returns : goal.returns
returns c =
    let h = c.args.header in
    let n = size_of h.suite in
    let κ = cipher_of h.suite in
    let d = c.args.opening in
    let text = c.args.text.now in
    let r = c.data_core-state in
    let done = done-is (goal.at.returns c).Joined-text-gt0 in
    let pos = some κ (lawful h.suite) in
    record {
      text =
          done.0 ∙ ap (λ (s : States). covered κ d 0x20 0x40 s (blocks n text)) r.ensures.two
          ∙ sym (text-walk κ pos h.key.now h.nonce.now h.ad.now text d);
      tag =
          record {
            is =
                c.tag_of.ensures.tag ∙ ap (tagged κ) (done.1 ∙ ap (λ (s : States). walked κ d 0x20 0x40 s (blocks n text)) r.ensures.two)
                ∙ sym (tag-walk κ pos h.key.now h.nonce.now h.ad.now text d);
            clean = c.tag_of.ensures.rest.0;
          };
      calls =
          count_all (length (blocks n h.ad.now)) (length (blocks n text)) r.result.calls c.if-text-gt0.state.calls _
          (omega (arith, count_most n pos h.ad.now, h.ad_length)) (omega (arith, count_most n pos text, c.requires.1))
          r.ensures.calls done.2 c.tag_of.ensures.rest.1
          ∙ sym (calls_count κ d h.key.now h.nonce.now h.ad.now text);
    }
