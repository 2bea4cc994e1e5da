-- `session_blocks::absorb_part` meets its contract: less than a block is buffered; else the cipher borrows the tables that the suite needs, or none.
use borrow.Author.Rules.{rules}
use lib.ListN.{length, take, length-append}
use lib.Seq.{length-take-le}
use mathlib.Core.Bool.{false}
use mathlib.Core.List.{List, ◌++◌}
use mathlib.Core.Path.{◌≡◌, sym, ap, ◌∙◌, subst}
use native.Mathlib.Omega.{arith}
use Prim.Native.Nat.{ℕ, ◌<◌}
use Rattle.block.specs.Blocks.{filled}
use Rattle.cipher.specs.Cipher.{size_of, cipher_of}
use Rattle.cipher.proofs.Suites.{none_ready}
use Rattle.block_state.specs.Two.{two_of}
use Rattle.mode.proofs.Cut.{rest-short}
use Rattle.block_walk.proofs.Front.{short-blocks, short-walk}
use Rattle.block_walk.specs.Counted.{Counted}
use Rattle.block_walk.proofs.Count.{counted_none}
use Rattle.session_blocks.proofs.absorb_part.Goals as goal

pub returns-then-ad-n : goal.returns-then-ad-n
returns-then-ad-n c =
    let suite = c.args.suite in
    let n = size_of suite in
    let en : c.size_of-n.result ≡ n = c.size_of-n.ensures.is in
    let pos : 0 < n = omega (arith, c.size_of-n.ensures.bounds.0) in
    let x : List ℕ = take c.args.count c.args.held in
    let part = c.args.ad.now in
    let lh : length c.args.held ≡ 16 = search rules in
    let lx : length x ≡ c.args.count = length-take-le c.args.count c.args.held (omega (arith, c.requires.1, c.size_of-n.ensures.bounds.1)) in
    let l : length (x ++ part) < n = omega (arith, length-append x part, c.if-ad-n.true) in record {
      states = sym (short-walk (cipher_of suite) pos false 0x10 c.args.mark (two_of suite c.args.state) (x ++ part) l);
      held = c.joined-held.ensures ∙ ap filled (sym (rest-short n pos (x ++ part) l));
      calls = subst (λ (i : ℕ). Counted suite i c.args.state c.args.state) (sym (ap length (short-blocks n pos (x ++ part) l)))
          (counted_none suite c.args.state (omega arith));
    }

pub tables-tables-requires : goal.tables-tables-requires
tables-tables-requires c = sym c.needs_tables.ensures ∙ c.if-needs_tables.true

pub absorb_past-requires : goal.absorb_past-requires
absorb_past-requires c = (c.requires.1, omega (arith, c.if-ad-n.false))

pub absorb_past-requires-2 : goal.absorb_past-requires-2
absorb_past-requires-2 c = (c.requires.1, omega (arith, c.if-ad-n.false))
