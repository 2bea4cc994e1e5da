-- `cipher::nonce_size` meets its contract: the nonce goes with the block.
use mathlib.Core.Path.{sym, ◌∙◌}
use Rattle.cipher.proofs.Suites.{size_other, nonce_wide, nonce_narrow}
use Rattle.cipher.proofs.nonce_size.Goals as goal

pub returns-then-size_of-eq16 : goal.returns-then-size_of-eq16
returns-then-size_of-eq16 c = sym (nonce_wide c.args.suite (sym c.size_of.ensures.is ∙ c.if-size_of-eq16.true))

pub returns-else-size_of-eq16 : goal.returns-else-size_of-eq16
returns-else-size_of-eq16 c =
    sym (nonce_narrow c.args.suite (size_other c.args.suite (λ e. c.if-size_of-eq16.false (c.size_of.ensures.is ∙ e))))
