-- `comet::tag_without_tables` meets its contract: an empty slice fits a suite that needs no tables.
use Rattle.cipher.proofs.Suites.{none_ready}
use Rattle.comet.proofs.tag_without_tables.Goals as goal

pub tag_core-requires : goal.tag_core-requires
tag_core-requires c = none_ready c.args.header.suite c.requires
