-- `block_key::block_key` meets its contract: the mark is absorbed with the key, or waits until after the block, by the version.
use mathlib.Core.Path.{sym, ap, ◌∙◌}
use Rattle.block.specs.Blocks.{wide}
use Rattle.cipher.specs.Cipher.{Version, version_of}
use Rattle.cipher.proofs.Suites.{is_one, is_two_lem}
use Rattle.mode.specs.Walk.{block_key, kept_behind}
use Rattle.block_key.proofs.block_key.Goals as goal

pub returns-then-is_second : goal.returns-then-is_second
returns-then-is_second c =
    let e = is_two_lem (version_of c.args.suite) (sym c.is_second.ensures ∙ c.if-is_second.true) in
    record {
      key = c.next_key_two-key.ensures ∙ sym (ap (λ (v : Version). block_key v c.args.mark (wide c.args.z)) e);
      z = c.with_mark-kept.ensures ∙ sym (ap (λ (v : Version). kept_behind v c.args.mark (wide c.next_key_two-key.result)) e);
    }

pub returns : goal.returns
returns c =
    let e = is_one (version_of c.args.suite) (sym c.is_second.ensures ∙ c.if-is_second.false) in
    record {
      key = c.next_key_one-key.ensures ∙ sym (ap (λ (v : Version). block_key v c.args.mark (wide c.args.z)) e);
      z = sym (ap (λ (v : Version). kept_behind v c.args.mark (wide c.next_key_one-key.result)) e);
    }
