-- `session_blocks::absorb_past`: the buffered bytes and the first bytes of the part make one whole block. It is absorbed
-- first, then the whole blocks of what is left; the walk over the joined text is these two walks one after the other.
use borrow.Author.Rules.{rules}
use lib.ListN.{length, take}
use lib.Seq.{length-take-le}
use mathlib.Core.List.{List}
use mathlib.Core.Bool.{false}
use mathlib.Core.Path.{◌≡◌, subst}
use native.Mathlib.Omega.{arith}
use Prim.Native.Nat.{ℕ, ◌+◌, ◌-◌, ◌≤◌, ◌<◌}
use Rattle.cipher.specs.Cipher.{size_of, cipher_of}
use Rattle.block_state.specs.Two.{two_of}
use Rattle.block_walk.specs.Counted.{Counted}
use Rattle.block_walk.proofs.Count.{counted_then, counted_passed}
use Rattle.session_blocks.proofs.Hold.{more-walk, more-rest, more-count}
use Rattle.session_blocks.proofs.absorb_past.Goals as goal

pub returns : goal.returns
returns c =
    let suite = c.args.engine.now.suite in
    let count = c.args.count in
    let n = c.size-n.result in
    let en : n ≡ size_of suite = c.size-n.ensures.is in
    let pos : 0 < size_of suite = omega (arith, c.size-n.ensures.bounds.0) in
    let most : size_of suite ≤ 16 = omega (arith, c.size-n.ensures.bounds.1) in
    let x : List ℕ = take count c.args.held in
    let part = c.args.ad.now in
    let lh : length c.args.held ≡ 16 = search rules in
    let hn : count < size_of suite = c.requires.0 in
    let lx : length x ≡ count = length-take-le count c.args.held (omega arith) in
    let need = n - count in
    let ln : count + need ≡ size_of suite = omega arith in
    let lp : need ≤ length part = omega (arith, c.requires.1) in
    let k = cipher_of suite in
    let first = c.joined-first.result in
    let eb = c.joined-first.ensures in record {
      states = more-walk k pos 0x10 x part first count need lx ln lp most eb c.args.mark n (two_of suite c.args.state)
          (two_of suite c.absorb-whole.result.s) _ en (c.absorb-whole.ensures.two 0x10) c.absorb_blocks.ensures.states;
      held = more-rest k pos 0x10 x part first count need lx ln lp most eb _ c.absorb_blocks.ensures.held;
      calls = subst (λ (i : ℕ). Counted suite i c.args.state c.absorb_blocks.result.s)
          (more-count k pos 0x10 x part first count need lx ln lp most eb n en)
          (counted_then suite _ _ c.args.state c.absorb-whole.result.s _
          (counted_passed suite false c.args.mark c.args.state _ c.absorb-whole.result c.absorb-whole.ensures)
          c.absorb_blocks.ensures.calls);
    }
