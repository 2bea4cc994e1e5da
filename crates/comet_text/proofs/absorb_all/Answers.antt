-- `comet_text::absorb_all` meets its contract: after the whole blocks the short one is absorbed, if there is one.
use lib.ListN.{length}
use mathlib.Core.Path.{◌≡◌, subst}
use native.Mathlib.Omega.{arith}
use Prim.Native.Nat.{ℕ, ◌<◌}
use Rattle.block.specs.Words.{xor}
use Rattle.cipher.specs.Cipher.{size_of, cipher_of}
use Rattle.cipher.proofs.Lawful.{lawful}
use Rattle.mode.specs.Walk.{rest}
use Rattle.mode.proofs.Chain.{some}
use Rattle.block_state.specs.Two.{two_of}
use Rattle.block_walk.specs.Progress.{wholes}
use Rattle.block_walk.specs.Counted.{Counted}
use Rattle.block_walk.proofs.Count.{counted_then, counted-one, counted_passed}
use Rattle.block_walk.proofs.Front.{left, left-long, left-short}
use Rattle.comet_text.proofs.Turns.{last-walk, none_walk, last_more, none_more}
use Rattle.comet_text.proofs.absorb_all.Goals as goal

pub absorb_short-requires : goal.absorb_short-requires
absorb_short-requires c =
    left-short (size_of c.args.engine.now.suite) (some (cipher_of c.args.engine.now.suite) (lawful c.args.engine.now.suite)) c.args.bytes.now c.absorb-mark.result.at c.absorb-mark.ensures.gone

pub returns-then-at-bytes : goal.returns-then-at-bytes
unfolding xor
returns-then-at-bytes c =
    let n = size_of c.args.engine.now.suite in
    let b = c.args.bytes.now in
    let i = c.absorb-mark.result.at in
    let pos = some (cipher_of c.args.engine.now.suite) (lawful c.args.engine.now.suite) in
    let more : 0 < length (rest n b) = omega (arith, left-long n pos b i c.absorb-mark.ensures.gone, c.if-at-bytes.true) in record {
      state = last-walk (cipher_of c.args.engine.now.suite) pos c.args.opening c.args.first c.args.short (two_of c.args.engine.now.suite c.args.start) b (two_of c.args.engine.now.suite c.absorb-mark.result.s) c.absorb-mark.result.mark
          (c.absorb-mark.ensures.two c.args.short) c.absorb-mark.ensures.next
          _ (left n pos b i c.absorb-mark.ensures.gone) more _ c.absorb_short.ensures.two;
      calls = subst (λ (k : ℕ). Counted c.args.engine.now.suite k c.args.start c.absorb_short.result) (last_more n pos b more)
          (counted_then c.args.engine.now.suite (length (wholes n b)) 1 c.args.start c.absorb-mark.result.s c.absorb_short.result (counted_passed c.args.engine.now.suite _ _ c.args.start b c.absorb-mark.result c.absorb-mark.ensures)
          (counted-one c.args.engine.now.suite c.absorb-mark.result.s c.absorb_short.result c.absorb_short.ensures.clean c.absorb_short.ensures.made));
    }

pub returns : goal.returns
returns c =
    let n = size_of c.args.engine.now.suite in
    let b = c.args.bytes.now in
    let i = c.absorb-mark.result.at in
    let pos = some (cipher_of c.args.engine.now.suite) (lawful c.args.engine.now.suite) in
    let none : length (rest n b) ≡ 0 = omega (arith, left-long n pos b i c.absorb-mark.ensures.gone, c.if-at-bytes.false) in record {
      state = none_walk (cipher_of c.args.engine.now.suite) pos c.args.opening c.args.first c.args.short (two_of c.args.engine.now.suite c.args.start) b (two_of c.args.engine.now.suite c.absorb-mark.result.s) c.absorb-mark.result.mark
          (c.absorb-mark.ensures.two c.args.short) c.absorb-mark.ensures.next none;
      calls = subst (λ (k : ℕ). Counted c.args.engine.now.suite k c.args.start c.absorb-mark.result.s) (none_more n pos b none)
          (counted_passed c.args.engine.now.suite _ _ c.args.start b c.absorb-mark.result c.absorb-mark.ensures);
    }
