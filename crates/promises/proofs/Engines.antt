-- W1 by citation.
use Rattle.aes_tables.proofs.Engines.{same_block}
use Rattle.promises.specs.Engines.{BothEngines, TablesRule}

pub both_engines : BothEngines
both_engines = same_block

pub tables_rule : TablesRule
tables_rule κs a x = x.ensures
