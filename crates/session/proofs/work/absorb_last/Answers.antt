-- `session::work::absorb_last` meets its contract: the cipher borrows the tables that the suite needs, or none.
use mathlib.Core.Path.{sym, ◌∙◌}
use Rattle.cipher.proofs.Suites.{none_ready}
use Rattle.session.proofs.work.absorb_last.Goals as goal

pub tables-tables-requires : goal.tables-tables-requires
tables-tables-requires c = sym c.needs_tables.ensures ∙ c.if-needs_tables.true

pub absorb_short-requires : goal.absorb_short-requires
absorb_short-requires c = c.requires.1

pub absorb_short-requires-2 : goal.absorb_short-requires-2
absorb_short-requires-2 c = c.requires.1
