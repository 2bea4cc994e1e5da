-- `comet::data_core` meets its contract: the associated data was walked, or there is none.
use mathlib.Core.Bool.{false}
use mathlib.Core.Path.{sym, ap, ◌∙◌}
use Prim.Native.Nat.{ℕ}
use native.Mathlib.Omega.{arith}
use lib.ListN.{length}
use Rattle.block.specs.Words.{add}
use Rattle.cipher.specs.Cipher.{size_of, nonce_of, cipher_of}
use Rattle.cipher.proofs.Lawful.{lawful}
use Rattle.mode.specs.Blocks.{blocks}
use Rattle.mode.specs.Walk.{States, walked}
use Rattle.mode.proofs.Chain.{some}
use Rattle.block_walk.proofs.Front.{walk_none}
use Rattle.block_state.specs.Two.{two_of}
use Rattle.comet_text.proofs.Turns.{empty-count}
use Rattle.comet.proofs.data_core.Goals as goal

pub returns-then-ad-ne0 : goal.returns-then-ad-ne0
returns-then-ad-ne0 c =
    let suite = c.args.engine.now.suite in
    let d = blocks (size_of suite) c.args.header.ad.now in
    record {
      two = c.absorb_all-state.ensures.state ∙ ap (λ (s : States). walked (cipher_of suite) false 0x08 0x10 s d) c.start-state.ensures.two;
      calls = c.absorb_all-state.ensures.calls.made ∙ ap (λ (k : ℕ). add 64 k (length d)) c.start-state.ensures.made;
    }

pub returns-else-ad-ne0 : goal.returns-else-ad-ne0
returns-else-ad-ne0 c =
    let suite = c.args.engine.now.suite in
    let κ = cipher_of suite in
    let pos = some κ (lawful suite) in
    let ad = c.args.header.ad.now in
    let d = blocks (size_of suite) ad in
    let begun = c.start-state in
    let empty = c.if-ad-ne0.false in
    record {
      two =
          sym (walk_none κ pos false 0x10 0x08 (two_of suite begun.result) ad empty)
          ∙ ap (λ (s : States). walked κ false 0x08 0x10 s d) begun.ensures.two;
      calls =
          empty-count (size_of suite) pos ad begun.result.calls empty (omega (arith, begun.ensures.made))
          ∙ ap (λ (k : ℕ). add 64 k (length d)) begun.ensures.made;
    }

pub start-state-requires : goal.start-state-requires
start-state-requires c = (c.args.header.key_length, c.args.header.nonce_length ∙ ap nonce_of (sym c.requires))
