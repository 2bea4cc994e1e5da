-- `comet_text::crypt_all`, by three cases: the text is shorter than a block, it has whole blocks and a short one, or whole
-- blocks only. The walk over the whole blocks is the callee's; the laws `last-..` and `none-..` of `Turns` add the last block,
-- or none.
use lib.ListN.{length, take, drop}
use mathlib.Core.List.{List}
use mathlib.Core.Path.{◌≡◌, sym, ap, subst, ◌∙◌}
use native.Mathlib.Omega.{arith}
use Prim.Native.Nat.{ℕ, ◌-◌, ◌<◌}
use Rattle.block.specs.Words.{xor}
use Rattle.cipher.specs.Cipher.{Cipher, size_of, cipher_of}
use Rattle.cipher.proofs.Lawful.{lawful}
use Rattle.mode.specs.Walk.{States, rest}
use Rattle.mode.proofs.Chain.{some}
use Rattle.mode.proofs.Cut.{rest-less}
use Rattle.block_state.specs.Two.{two_of}
use Rattle.block_walk.specs.Progress.{wholes}
use Rattle.block_walk.specs.Counted.{Counted}
use Rattle.block_walk.proofs.Count.{counted_then, counted-one, counted_passed}
use Rattle.block_walk.proofs.Front.{left-long, walk-short, cover-short}
use Rattle.comet_text.proofs.Turns.{lent, last-walk, last_out, none_walk, none_out, last_more, none_more, short-one}
use Rattle.comet_text.proofs.crypt_all.Goals.{After-crypt-mark}
use Rattle.comet_text.proofs.crypt_all.Goals as goal

module _ (g : After-crypt-mark) where
  abbrev κ : Cipher
  κ = cipher_of g.args.engine.now.suite

  abbrev n : ℕ
  n = size_of g.args.engine.now.suite

  pos : 0 < n
  pos = some κ (lawful g.args.engine.now.suite)

  abbrev S : States
  S = two_of g.args.engine.now.suite g.args.start

  abbrev U : States
  U = two_of g.args.engine.now.suite g.crypt-mark.result.s

  abbrev l : List ℕ
  l = g.args.text.now

  -- the text after the walk
  abbrev o : List ℕ
  o = g.crypt-mark.new.text

  abbrev i : ℕ
  i = g.crypt-mark.result.at

  lent_is : take (length l - i) (drop i o) ≡ rest n l
  lent_is =
      let w = g.crypt-mark.ensures.state in
      lent κ pos g.args.opening 0x20 0x40 S l U g.crypt-mark.result.mark (w.two 0x40) w.next o i (g.crypt-mark.ensures.text 0x40)
      g.crypt-mark.auto.text w.gone

  whole-count : Counted g.args.engine.now.suite (length (wholes n l)) g.args.start g.crypt-mark.result.s
  whole-count = counted_passed g.args.engine.now.suite _ _ g.args.start l g.crypt-mark.result g.crypt-mark.ensures.state

pub crypt_short-requires : goal.crypt_short-requires
crypt_short-requires c =
    omega (arith, c.if-end-size.true, c.size.ensures.is)

pub returns-then-end-size : goal.returns-then-end-size
unfolding xor
returns-then-end-size c =
    let a = c.args in
    let pos = some (cipher_of a.engine.now.suite) (lawful a.engine.now.suite) in
    let l = a.text.now in
    let call = c.crypt_short in
    let more : 0 < length l = c.requires in
    let less : length l < size_of a.engine.now.suite = omega (arith, c.if-end-size.true, c.size.ensures.is) in
    record {
      text = call.ensures.text ∙ sym (cover-short (cipher_of a.engine.now.suite) pos a.opening 0x40 0x20 (two_of a.engine.now.suite a.start) l more less);
      state = (
        call.ensures.state.two ∙ sym (walk-short (cipher_of a.engine.now.suite) pos a.opening 0x40 0x20 (two_of a.engine.now.suite a.start) l more less),
        subst (λ (k : ℕ). Counted a.engine.now.suite k a.start call.result) (short-one (size_of a.engine.now.suite) pos l more less)
            (counted-one a.engine.now.suite a.start call.result call.ensures.state.clean call.ensures.state.made),
      );
    }

pub crypt_short-requires-then-at-end : goal.crypt_short-requires-then-at-end
crypt_short-requires-then-at-end c =
    let g = (goal.at.crypt_short-requires-then-at-end c).After-crypt-mark in
    omega (arith, ap length (lent_is g), rest-less (n g) (pos g) (l g))

pub returns-then-at-end : goal.returns-then-at-end
unfolding xor
returns-then-at-end c =
    let g = (goal.at.returns-then-at-end c).After-crypt-mark in
    let a = c.args in
    let w = g.crypt-mark.ensures.state in
    let m = g.crypt-mark.result.mark in
    let d = a.opening in
    let call = c.crypt_short-then-at-end in
    let more : 0 < length (rest (n g) (l g)) = omega (arith, left-long (n g) (pos g) (l g) (i g) w.gone, c.if-at-end.true) in
    record {
      text =
          last_out (κ g) (pos g) d 0x20 0x40 (S g) (l g) (U g) m (w.two 0x40) w.next (o g) (i g) (g.crypt-mark.ensures.text 0x40) g.crypt-mark.auto.text
          w.gone more _ call.ensures.text;
      state = (
        last-walk (κ g) (pos g) d 0x20 0x40 (S g) (l g) (U g) m (w.two 0x40) w.next _ (lent_is g) more _ call.ensures.state.two,
        subst (λ (k : ℕ). Counted a.engine.now.suite k a.start call.result) (last_more (n g) (pos g) (l g) more)
            (counted_then a.engine.now.suite (length (wholes (n g) (l g))) 1 a.start g.crypt-mark.result.s call.result (whole-count g)
            (counted-one a.engine.now.suite g.crypt-mark.result.s call.result call.ensures.state.clean call.ensures.state.made)),
      );
    }

pub returns : goal.returns
returns c =
    let g = (goal.at.returns c).After-crypt-mark in
    let a = c.args in
    let w = g.crypt-mark.ensures.state in
    let m = g.crypt-mark.result.mark in
    let d = a.opening in
    let none : length (rest (n g) (l g)) ≡ 0 = omega (arith, left-long (n g) (pos g) (l g) (i g) w.gone, c.if-at-end.false) in
    record {
      text =
          none_out (κ g) (pos g) d 0x20 0x40 (S g) (l g) (U g) m (w.two 0x40) w.next (o g) (i g) (g.crypt-mark.ensures.text 0x40) g.crypt-mark.auto.text
          w.gone none;
      state = (
        none_walk (κ g) (pos g) d 0x20 0x40 (S g) (l g) (U g) m (w.two 0x40) w.next none,
        subst (λ (k : ℕ). Counted a.engine.now.suite k a.start g.crypt-mark.result.s) (none_more (n g) (pos g) (l g) none) (whole-count g),
      );
    }
