-- `session::work::first_mark` meets its contract: a total below one block means that no block was absorbed, which is when the definition gives the mark.
use borrow.Author.Tests.{lt-ltb, le-ltb}
use mathlib.Core.Path.{sym, ap}
use mathlib.Core.Bool.{Bool, cond}
use native.Mathlib.Omega.{arith}
use Rattle.cipher.specs.Cipher.{size_of}
use Rattle.session.proofs.work.first_mark.Goals as goal

pub returns-then-total-n : goal.returns-then-total-n
returns-then-total-n c =
    sym (ap (λ (t : Bool). cond t c.args.mark 0) (lt-ltb c.args.total (size_of c.args.suite) (omega (arith, c.size_of-n.ensures.is, c.if-total-n.true))))

pub returns-else-total-n : goal.returns-else-total-n
returns-else-total-n c =
    sym (ap (λ (t : Bool). cond t c.args.mark 0) (le-ltb c.args.total (size_of c.args.suite) (omega (arith, c.size_of-n.ensures.is, c.if-total-n.false))))
