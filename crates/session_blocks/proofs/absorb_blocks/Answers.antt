-- `session_blocks::absorb_blocks`: the callee absorbs the whole blocks and says where it stopped. The bytes from there on are
-- fewer than a block and become the buffered bytes.
use mathlib.Core.Bool.{false}
use mathlib.Core.Path.{ap, ◌∙◌}
use native.Mathlib.Omega.{arith}
use Rattle.block.specs.Blocks.{filled}
use Rattle.cipher.specs.Cipher.{size_of, cipher_of}
use Rattle.cipher.proofs.Lawful.{lawful}
use Rattle.cipher.proofs.Suites.{size_most}
use Rattle.mode.proofs.Chain.{some}
use Rattle.block_walk.proofs.Front.{left-within, left, left-short}
use Rattle.block_walk.proofs.Count.{counted_passed}
use Rattle.session_blocks.proofs.absorb_blocks.Goals as goal

pub slice_bounds-filled_bytes-count : goal.slice_bounds-filled_bytes-count
slice_bounds-filled_bytes-count c =
    let suite = c.args.engine.now.suite in
    left-within (size_of suite) (some (cipher_of suite) (lawful suite)) c.args.ad.now c.absorb-whole.result.at c.absorb-whole.ensures.gone

pub slice_bounds-filled_bytes-start : goal.slice_bounds-filled_bytes-start
slice_bounds-filled_bytes-start c =
    let suite = c.args.engine.now.suite in
    left-within (size_of suite) (some (cipher_of suite) (lawful suite)) c.args.ad.now c.absorb-whole.result.at c.absorb-whole.ensures.gone

pub filled_bytes-held-requires : goal.filled_bytes-held-requires
filled_bytes-held-requires c =
    let suite = c.args.engine.now.suite in
    let short = left-short (size_of suite) (some (cipher_of suite) (lawful suite)) c.args.ad.now c.absorb-whole.result.at c.absorb-whole.ensures.gone in
    omega (arith, short, size_most suite)

pub returns : goal.returns
returns c =
    let suite = c.args.engine.now.suite in
    let pos = some (cipher_of suite) (lawful suite) in
    let gone = c.absorb-whole.ensures.gone in record {
      states = c.absorb-whole.ensures.two 0x10;
      held = c.filled_bytes-held.ensures ∙ ap filled (left (size_of suite) pos c.args.ad.now c.absorb-whole.result.at gone);
      calls = counted_passed suite false 0 c.args.start c.args.ad.now c.absorb-whole.result c.absorb-whole.ensures;
    }
