-- `cipher::is_second` meets its contract: suites above 4 are of version 2.
use native.Mathlib.Decide.{dec_le}
use native.Mathlib.Omega.{arith}
use mathlib.Core.Path.{sym, ap, ◌∙◌}
use borrow.Author.Tests.{lt-ltb, le-ltb}
use Rattle.cipher.specs.Cipher.{is_two}
use Rattle.cipher.proofs.Suites.{version_one, version_two}
use Rattle.cipher.proofs.is_second.Goals as goal

pub returns : goal.returns
returns c =
    elim (dec_le c.args.suite 4) [
      | yes h ↦ le-ltb 4 c.args.suite h ∙ sym (ap is_two (version_one c.args.suite h))
      | no h ↦ lt-ltb 4 c.args.suite (omega arith) ∙ sym (ap is_two (version_two c.args.suite (omega arith)))
    ]
