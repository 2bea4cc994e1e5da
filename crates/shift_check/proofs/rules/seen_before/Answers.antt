-- Without a mark there is no clash; with one, every earlier row is compared.
use mathlib.Core.Path.{sym, ◌∙◌}
use native.Mathlib.Omega.{arith}
use Rattle.shift_check.proofs.rules.seen_before.Goals as goal

pub returns-else-marked : goal.returns-else-marked
returns-else-marked c = c.if-marked.false ∙ sym (c.requires.1.1.clear c.if-marked.false (c.requires.1.0.spare c.args.index (omega arith)))
