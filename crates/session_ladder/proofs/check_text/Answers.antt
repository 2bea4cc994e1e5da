-- `session_ladder::check_text` meets its contract: each return is one line of the table of `text_number`; the room test adds
-- the block size less one to the part.
use Rattle.std.proofs.lemmas.Result.{err_from_is_err_and}
use borrow.Author.Tests.{lt-ltb, le-ltb}
use mathlib.Core.Path.{refl, sym}
use mathlib.Core.Bool.{true, false}
use native.Mathlib.Omega.{arith}
use Prim.Native.Nat.{◌+◌, ◌-◌, ◌≤◌, ◌<◌}
use Rattle.cipher.specs.Cipher.{size_of}
use Rattle.session_ladder.proofs.Rungs.{text-is}
use Rattle.session_ladder.proofs.check_text.Goals as goal

pub returns-in_err-in_progress : goal.returns-in_err-in_progress
returns-in_err-in_progress c =
    let p = err_from_is_err_and c.from_residual.result c.from_residual.ensures.1 in
    let over = c.in_err-in_progress.ensures in
    rw (p.1, p.2, over.0) (sym (text-is c.args.suite c.args.ad_total c.args.text_total c.args.part c.args.out false _ _ over.1 refl refl))

pub returns-then-text_total-part : goal.returns-then-text_total-part
returns-then-text_total-part c =
    sym (text-is c.args.suite c.args.ad_total c.args.text_total c.args.part c.args.out true true _
    c.in_ok-in_progress.ensures (lt-ltb _ _ c.if-text_total-part.true) refl)

pub returns-then-out-part : goal.returns-then-out-part
returns-then-out-part c =
    let h : c.args.out < c.args.part + (size_of c.args.suite - 1) = omega (arith, c.if-out-part.true, c.size_of-n.ensures.is) in
    sym (text-is c.args.suite c.args.ad_total c.args.text_total c.args.part c.args.out true false true
    c.in_ok-in_progress.ensures (le-ltb _ _ c.if-text_total-part.false)
    (lt-ltb _ _ h))

pub returns : goal.returns
returns c =
    let h : c.args.part + (size_of c.args.suite - 1) ≤ c.args.out = omega (arith, c.if-out-part.false, c.size_of-n.ensures.is) in
    sym (text-is c.args.suite c.args.ad_total c.args.text_total c.args.part c.args.out true false false
    c.in_ok-in_progress.ensures (le-ltb _ _ c.if-text_total-part.false)
    (le-ltb _ _ h))
