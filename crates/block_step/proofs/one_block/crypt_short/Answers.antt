-- `block_step::one_block::crypt_short`: in both directions the output is the XOR with the shuffle of X (`out-is`). By cases on
-- the direction the absorbed bytes are the output (opening) or the input (sealing), each padded.
use lib.ListN.{length, take}
use mathlib.Core.List.{List}
use mathlib.Core.Path.{◌≡◌, ◌∙◌}
use native.Mathlib.Nat.{le_of_lt}
use Prim.Native.Nat.{ℕ}
use Rattle.block.specs.Blocks.{wide}
use Rattle.cipher.specs.Cipher.{cipher_of}
use Rattle.mode.specs.Walk.{hidden}
use Rattle.block_state.specs.Two.{two_of}
use Rattle.block_step.proofs.Turns.{cut_in, cut_goes, goes-out, put_in}
use Rattle.block_step.proofs.one_block.crypt_short.Goals.{After-put}
use Rattle.block_step.proofs.one_block.crypt_short.Goals as goal

module _ (d : After-put) where
  abbrev B : List ℕ
  B = d.args.block.now

  -- the first bytes of `output` overwrite the block
  out-is : take (length B) (wide d.xor-output.result) ≡ hidden (cipher_of d.args.engine.now.suite) d.args.mark
      (two_of d.args.engine.now.suite d.args.state) B
  out-is =
      let t = d.turn-enciphered in
      let p = d.filled-given in
      let x = d.shuffled-mask in
      let w = d.xor-output in
      goes-out d.args.engine.now.suite d.args.mark d.args.state t.result t.ensures B p.result x.result w.result p.ensures (x.ensures.is, x.ensures.clean) w.ensures
      (le_of_lt d.requires)

pub returns-then-opening : goal.returns-then-opening
returns-then-opening c =
    let d = (goal.at.returns-then-opening c).After-put in
    let a = c.args in
    let t = c.turn-enciphered in
    let w = c.xor-output in
    let q = c.padded in
    record {
      text = c.put.ensures ∙ out-is d;
      state =
          rw c.if-opening.true
          (put_in a.engine.now.suite a.mark a.state t.result t.ensures _ q.result c.mix.result
          (cut_goes a.engine.now.suite _ (length (B d)) w.result q.result (out-is d) c.requires q.ensures) c.mix.ensures.y c.mix.ensures.rest);
    }

pub returns : goal.returns
returns c =
    let d = (goal.at.returns c).After-put in
    let a = c.args in
    let t = c.turn-enciphered in
    let p = c.filled-given in
    let q = c.padded-2 in
    record {
      text = c.put.ensures ∙ out-is d;
      state =
          rw c.if-opening.false
          (put_in a.engine.now.suite a.mark a.state t.result t.ensures _ q.result c.mix-2.result
          (cut_goes a.engine.now.suite (B d) (length (B d)) p.result q.result (cut_in (B d) p.result p.ensures) c.requires q.ensures)
          c.mix-2.ensures.y c.mix-2.ensures.rest);
    }
