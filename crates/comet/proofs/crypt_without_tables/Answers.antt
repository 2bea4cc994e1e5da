-- `comet::crypt_without_tables` meets its contract: an empty slice fits a suite that needs no tables.
use Rattle.cipher.proofs.Suites.{none_ready}
use Rattle.comet.proofs.crypt_without_tables.Goals as goal

pub crypt_core-requires : goal.crypt_core-requires
crypt_core-requires c = (none_ready c.args.header.suite c.requires.0, c.requires.1)
