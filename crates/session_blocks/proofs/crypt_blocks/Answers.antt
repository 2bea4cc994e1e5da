-- `session_blocks::crypt_blocks` meets its contract: the cipher borrows the tables that the suite needs, or none.
use mathlib.Core.Path.{sym, ◌∙◌}
use Rattle.cipher.proofs.Suites.{none_ready}
use Rattle.session_blocks.proofs.crypt_blocks.Goals as goal

pub tables-tables-requires : goal.tables-tables-requires
tables-tables-requires c = sym c.needs_tables.ensures ∙ c.if-needs_tables.true
