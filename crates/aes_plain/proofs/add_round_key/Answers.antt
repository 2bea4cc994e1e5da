-- `aes_plain::add_round_key` meets its contract: XOR goes byte by byte.
use Rattle.block.specs.Words.{xor}
use Rattle.aes_spec.specs.Cipher.{add_round_key}
use Rattle.aes_plain.proofs.Column.{four-xor}
use Rattle.aes_plain.proofs.add_round_key.Goals as goal

pub returns : goal.returns
unfolding add_round_key xor
returns c =
    four-xor c.args.state.a c.args.state.b c.args.state.c c.args.state.d c.args.key.a c.args.key.b c.args.key.c c.args.key.d
