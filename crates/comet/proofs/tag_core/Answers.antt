-- `comet::tag_core` meets its contract: the states are walked from the start to the tag as in opening, and the walk is the chain.
use mathlib.Core.Bool.{true}
use mathlib.Core.Path.{◌≡◌, sym, ap, ◌∙◌}
use Rattle.cipher.specs.Cipher.{size_of, cipher_of}
use Rattle.cipher.proofs.Lawful.{lawful}
use Rattle.mode.specs.Blocks.{blocks}
use Rattle.mode.specs.Walk.{States, walked, tagged}
use Rattle.mode.proofs.Chain.{some}
use Rattle.mode.proofs.Walk.{tag-walk}
use Rattle.block_walk.proofs.Front.{walk_none}
use Rattle.block_state.specs.Two.{two_of}
use Rattle.comet.proofs.tag_core.Goals.{then-text-ne0, else-text-ne0}
use Rattle.comet.proofs.tag_core.Goals as goal

pub returns : goal.returns
returns c =
    let h = c.args.header in
    let n = size_of h.suite in
    let κ = cipher_of h.suite in
    let pos = some κ (lawful h.suite) in
    let text = c.args.text.now in
    let r = c.data_core-state in
    let done : two_of h.suite c.if-text-ne0.state ≡ walked κ true 0x20 0x40 (two_of h.suite r.result) (blocks n text) =
    elim c.if-text-ne0.branch [
      | then-text-ne0 w ↦ ap (two_of h.suite) w.state-is ∙ w.absorb_all-state.ensures.state
      | else-text-ne0 w ↦ ap (two_of h.suite) w.state-is ∙ sym (walk_none κ pos true 0x40 0x20 (two_of h.suite r.result) text w.if-text-ne0.false)
    ] in
    record {
      is =
          c.tag_of-last.ensures.tag ∙ ap (tagged κ) (done ∙ ap (λ (s : States). walked κ true 0x20 0x40 s (blocks n text)) r.ensures.two)
          ∙ sym (tag-walk κ pos h.key.now h.nonce.now h.ad.now text true);
      clean = c.tag_of-last.ensures.rest.0;
    }
