-- `block_step::one_block::absorb_full`, by cases on the direction: a full block is absorbed as it is or, in opening, the output
-- for it (the law `full-turn`, of which the state alone is used).
use mathlib.Core.Bool.{Bool, true, not}
use mathlib.Core.Path.{sym, ap, subst}
use borrow.Author.Tests.{ne_eqb}
use Rattle.cipher.specs.Cipher.{cipher_of}
use Rattle.mode.specs.Walk.{turned, message_of}
use Rattle.block_state.specs.Two.{two_of, Holds, one_more_of}
use Rattle.cipher.proofs.Suites.{full_two}
use Rattle.block_step.proofs.Turns.{full-turn, full_goes, put_in}
use Rattle.block_step.proofs.one_block.absorb_full.Goals as goal

pub whole-given-requires : goal.whole-given-requires
whole-given-requires g c = full_two _ c.args.engine.now.suite c.requires

pub returns-then-this-ne0 : goal.returns-then-this-ne0
returns-then-this-ne0 g c =
    let a = c.args in
    let t = c.turn-enciphered in
    let p = c.whole-given in
    let x = c.shuffled-mask in
    let w = c.xor-message in
    let full =
    full-turn a.engine.now.suite a.mark a.state t.result t.ensures a.block.now p.result x.result w.result p.ensures (x.ensures.is, x.ensures.clean)
    w.ensures
    true c.mix.result c.requires c.mix.ensures.y c.mix.ensures.rest in
    subst (λ (d : Bool). Holds a.engine.now.suite c.mix.result (turned (cipher_of a.engine.now.suite) a.mark (two_of a.engine.now.suite a.state)
    (message_of (cipher_of a.engine.now.suite) d a.mark (two_of a.engine.now.suite a.state) a.block.now)) (one_more_of a.state.calls))
    (sym (ap not (ne_eqb g.row.OPENING 0 c.if-this-ne0.true))) full.1

pub returns : goal.returns
returns g c =
    let a = c.args in
    let t = c.turn-enciphered in
    let p = c.whole-given in
    rw c.if-this-ne0.false
    (put_in a.engine.now.suite a.mark a.state t.result t.ensures a.block.now p.result c.mix-2.result
    (full_goes a.engine.now.suite a.block.now p.result c.requires p.ensures) c.mix-2.ensures.y c.mix-2.ensures.rest)
