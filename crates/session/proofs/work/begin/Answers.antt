-- `session::work::begin`, by three cases. If the message has begun, or if no byte is buffered, the states are unchanged.
-- Otherwise the buffered bytes are the last, short block of associated data, and absorbing it ends the walk over the
-- associated data.
use lib.ListN.{length, length-take}
use mathlib.Core.Path.{◌≡◌, sym, ◌∙◌}
use native.Mathlib.Nat.{mod-lt}
use native.Mathlib.Omega.{arith}
use Prim.Native.Nat.{◌-◌, ◌%◌, ◌<◌}
use Rattle.block.specs.Words.{xor}
use Rattle.cipher.specs.Cipher.{cipher_of}
use Rattle.session.specs.Structs.{as_value}
use Rattle.session.proofs.Flush.{begun-on, begun-none, begun-short}
use borrow.Author.Rules.{rules}
use Rattle.session.proofs.work.begin.Goals as goal

pub returns-then-session-ne0 : goal.returns-then-session-ne0
returns-then-session-ne0 c =
    sym (begun-on (cipher_of c.args.session.suite) (as_value c.args.session) c.if-session-ne0.true)

pub returns-then-held_len-eq0 : goal.returns-then-held_len-eq0
returns-then-held_len-eq0 c =
    sym (begun-none (cipher_of c.args.session.suite) (as_value c.args.session) c.size_of-n.result c.size_of-n.ensures.is c.size_of-n.ensures.bounds.0 c.if-session-ne0.false c.if-held_len-eq0.true)

pub absorb_last-requires : goal.absorb_last-requires
absorb_last-requires c =
    let h = c.args.session.ad_total % c.size_of-n.result in
    let lh : h < c.size_of-n.result = mod-lt c.args.session.ad_total c.size_of-n.ensures.bounds.0 in
    (c.requires, omega (arith, c.size_of-n.ensures.is, lh, length-take (h - 0) c.args.session.held))

pub returns : goal.returns
unfolding xor
returns c =
    let lh : length c.args.session.held ≡ 16 = search rules in
    c.absorb_last.ensures.two
    ∙ begun-short (cipher_of c.args.session.suite) (as_value c.args.session) c.size_of-n.result c.size_of-n.ensures.is c.size_of-n.ensures.bounds.0 c.size_of-n.ensures.bounds.1 lh
    c.if-session-ne0.false c.if-held_len-eq0.false
    c.first_mark-mark.result c.first_mark-mark.ensures
