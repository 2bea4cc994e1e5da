-- `cipher::encipher16` meets its contract: the test finds the suite's engine.
use mathlib.Core.Path.{sym, ap, ◌∙◌}
use Rattle.block.specs.Blocks.{wide}
use Rattle.cipher.proofs.Suites.{Engine, engine_1, engine_2}
use Rattle.cipher.proofs.encipher16.Goals as goal

pub returns-then-needs_tables : goal.returns-then-needs_tables
returns-then-needs_tables c =
    c.by_aes.ensures ∙ sym (ap (λ (e : Engine). e (wide c.args.key) (wide c.args.block))
    (engine_1 c.args.suite (sym c.needs_tables.ensures ∙ c.if-needs_tables.true)))

pub returns : goal.returns
returns c =
    c.by_cham128.ensures ∙ sym (ap (λ (e : Engine). e (wide c.args.key) (wide c.args.block))
    (engine_2 c.args.suite (sym c.needs_tables.ensures ∙ c.if-needs_tables.false) c.requires.1))
