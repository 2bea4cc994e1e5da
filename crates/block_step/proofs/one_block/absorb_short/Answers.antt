-- `block_step::one_block::absorb_short` meets its contract: the block that came is absorbed padded or, in opening, the output for it.
use lib.ListN.{length}
use native.Mathlib.Nat.{le_of_lt}
use Rattle.block_step.proofs.Turns.{cut_in, cut_goes, goes-out, put_in}
use Rattle.block_step.proofs.one_block.absorb_short.Goals as goal

pub returns-then-opening : goal.returns-then-opening
returns-then-opening c =
    let a = c.args in
    let b = a.block.now in
    let t = c.turn-enciphered in
    let p = c.filled-given in
    let x = c.shuffled-mask in
    let w = c.xor-message in
    let q = c.padded in
    let out = goes-out a.engine.now.suite a.mark a.state t.result t.ensures b p.result x.result w.result p.ensures (x.ensures.is, x.ensures.clean) w.ensures
    (le_of_lt c.requires) in
    rw c.if-opening.true
    (put_in a.engine.now.suite a.mark a.state t.result t.ensures _ q.result c.mix.result
    (cut_goes a.engine.now.suite _ (length b) w.result q.result out c.requires q.ensures) c.mix.ensures.y c.mix.ensures.rest)

pub returns : goal.returns
returns c =
    let a = c.args in
    let b = a.block.now in
    let t = c.turn-enciphered in
    let p = c.filled-given in
    let q = c.padded-2 in
    rw c.if-opening.false
    (put_in a.engine.now.suite a.mark a.state t.result t.ensures b q.result c.mix-2.result
    (cut_goes a.engine.now.suite b (length b) p.result q.result (cut_in b p.result p.ensures) c.requires q.ensures) c.mix-2.ensures.y
    c.mix-2.ensures.rest)
