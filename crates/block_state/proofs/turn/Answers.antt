-- `block_state::turn` meets its contract: the cipher is called under the block's key, and Z is kept after it.
use Rattle.std.proofs.Common.{ℕ, List, take, refl, ap, ◌∙◌}
use Rattle.block.specs.Blocks.{wide}
use Rattle.cipher.specs.Cipher.{size_of, version_of, cipher_of}
use Rattle.mode.specs.Walk.{kept_behind}
use Rattle.block_state.proofs.Clean.{states_path}
use Rattle.block_state.proofs.turn.Goals as goal

pub returns : goal.returns
returns c =
    let n = size_of c.args.engine.now.suite in
    let e = c.block_key.ensures in
    record {
      two =
          states_path
          (c.image.ensures.image ∙ ap (λ (k : List ℕ). (cipher_of c.args.engine.now.suite).E k (take n (wide c.args.state.y))) e.key)
          (e.z ∙ ap (kept_behind (version_of c.args.engine.now.suite) c.args.mark) e.key);
      clean = c.image.ensures.rest;
      made = refl;
    }
