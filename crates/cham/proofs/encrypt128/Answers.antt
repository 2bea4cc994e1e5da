-- `cham::encrypt128` meets its contract: the rounds under the key's round keys.
use Rattle.std.proofs.Common.{List, ℕ, ap, ◌∙◌}
use Rattle.cham_spec.specs.Cham.{rounds, state_of, bytes_of, cham}
use Rattle.cham.proofs.encrypt128.Goals as goal

pub returns : goal.returns
unfolding cham
returns c =
    c.under.ensures ∙ ap (λ (keys : List ℕ). bytes_of 32 (rounds 32 keys (state_of 32 c.args.block) 80)) c.round_keys-keys.ensures
