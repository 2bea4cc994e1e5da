-- `session_ladder::check_end` meets its contract: each return is one line of the table of `end_number`; the tests before it decide the lines above.
use Rattle.std.proofs.lemmas.Result.{err_from_is_err_and}
use borrow.Author.Tests.{lt-ltb, le-ltb, eq-eqb, ne_eqb}
use mathlib.Core.Path.{refl, sym, ◌∙◌}
use mathlib.Core.Bool.{true, false}
use native.Mathlib.Omega.{arith}
use Prim.Native.Nat.{◌≤◌, ◌<◌}
use Rattle.cipher.specs.Cipher.{size_of}
use Rattle.session_ladder.proofs.Rungs.{end_is}
use Rattle.session_ladder.proofs.check_end.Goals as goal

pub returns-in_err-in_progress : goal.returns-in_err-in_progress
returns-in_err-in_progress c =
    let p = err_from_is_err_and c.from_residual.result c.from_residual.ensures.1 in
    let over = c.in_err-in_progress.ensures in
    rw (p.1, p.2, over.0) (sym (end_is c.args.suite c.args.ad_total c.args.text_total c.args.out c.args.tag false _ _ over.1 refl refl))

pub returns-then-out-n : goal.returns-then-out-n
returns-then-out-n c =
    let h : c.args.out < size_of c.args.suite = omega (arith, c.if-out-n.true, c.size_of-n.ensures.is) in
    sym (end_is c.args.suite c.args.ad_total c.args.text_total c.args.out c.args.tag true true _
    c.in_ok-in_progress.ensures (lt-ltb _ _ h) refl)

pub returns-then-tag-n : goal.returns-then-tag-n
returns-then-tag-n c =
    let h : size_of c.args.suite ≤ c.args.out = omega (arith, c.if-out-n.false, c.size_of-n.ensures.is) in
    sym (end_is c.args.suite c.args.ad_total c.args.text_total c.args.out c.args.tag true false false
    c.in_ok-in_progress.ensures (le-ltb _ _ h)
    (ne_eqb c.args.tag (size_of c.args.suite) (λ e. c.if-tag-n.true (e ∙ sym c.size_of-n.ensures.is))))

pub returns : goal.returns
returns c =
    let h : size_of c.args.suite ≤ c.args.out = omega (arith, c.if-out-n.false, c.size_of-n.ensures.is) in
    sym (end_is c.args.suite c.args.ad_total c.args.text_total c.args.out c.args.tag true false true
    c.in_ok-in_progress.ensures (le-ltb _ _ h)
    (eq-eqb c.args.tag (size_of c.args.suite) (c.if-tag-n.false ∙ c.size_of-n.ensures.is)))
