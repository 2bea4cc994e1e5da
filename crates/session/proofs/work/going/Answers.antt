-- `session::work::going` meets its contract: a message that has begun goes on from the session's states.
use mathlib.Core.Path.{sym}
use Rattle.cipher.specs.Cipher.{cipher_of}
use Rattle.session.specs.Structs.{as_value}
use Rattle.session.proofs.Flush.{begun-on}
use Rattle.session.proofs.work.going.Goals as goal

pub returns-then-session-ne0 : goal.returns-then-session-ne0
returns-then-session-ne0 c =
    sym (begun-on (cipher_of c.args.session.suite) (as_value c.args.session) c.if-session-ne0.true)
