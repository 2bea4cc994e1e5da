-- `cham::encrypt64` meets its contract: the rounds under the key's round keys.
use Rattle.std.proofs.Common.{List, ℕ, ap, ◌∙◌}
use Rattle.cham_spec.specs.Cham.{rounds, state_of, bytes_of, cham}
use Rattle.cham.proofs.encrypt64.Goals as goal

pub returns : goal.returns
unfolding cham
returns c =
    c.under.ensures ∙ ap (λ (keys : List ℕ). bytes_of 16 (rounds 16 keys (state_of 16 c.args.block) 80)) c.round_keys-keys.ensures
