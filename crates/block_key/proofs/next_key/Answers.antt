-- `block_key::next_key` meets its contract: the test finds the version.
use mathlib.Core.Path.{sym, ap, ◌∙◌}
use Rattle.block.specs.Blocks.{wide}
use Rattle.cipher.specs.Cipher.{Version, version_of}
use Rattle.cipher.proofs.Suites.{is_one, is_two_lem}
use Rattle.mode.specs.Keys.{next_key}
use Rattle.block_key.proofs.next_key.Goals as goal

pub returns-then-is_second : goal.returns-then-is_second
returns-then-is_second c =
    let e = is_two_lem (version_of c.args.suite) (sym c.is_second.ensures ∙ c.if-is_second.true) in
    c.next_key_two.ensures ∙ sym (ap (λ (v : Version). next_key v c.args.mark (wide c.args.z)) e)

pub returns : goal.returns
returns c =
    let e = is_one (version_of c.args.suite) (sym c.is_second.ensures ∙ c.if-is_second.false) in
    c.next_key_one.ensures ∙ sym (ap (λ (v : Version). next_key v c.args.mark (wide c.args.z)) e)
