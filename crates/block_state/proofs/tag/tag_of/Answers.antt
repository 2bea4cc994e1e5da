-- `block_state::tag::tag_of` meets its contract: the last call, under the key that the last mark makes.
use Rattle.std.proofs.Common.{ℕ, List, take, refl, ap, ◌∙◌}
use Rattle.block.specs.Blocks.{wide}
use Rattle.cipher.specs.Cipher.{size_of, cipher_of}
use Rattle.mode.specs.Walk.{tagged}
use Rattle.block_state.proofs.tag.tag_of.Goals as goal

pub returns : goal.returns
unfolding tagged
returns c =
    let n = size_of c.args.engine.now.suite in
    record {
      tag = c.image.ensures.image ∙ ap (λ (k : List ℕ). (cipher_of c.args.engine.now.suite).E k (take n (wide c.args.state.y))) c.next_key-key.ensures;
      rest = (c.image.ensures.rest, refl);
    }
