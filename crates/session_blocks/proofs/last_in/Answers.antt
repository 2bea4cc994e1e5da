-- `session_blocks::last_in`, by two cases. No buffered byte: no block, and the walk does nothing. Otherwise less than a
-- block: it is one short block, copied to the output and sealed there, and the walk over one short block is one step.
use lib.ListN.{length, take, drop}
use lib.Seq.{length-take-le}
use mathlib.Core.Bool.{false}
use mathlib.Core.List.{List}
use mathlib.Core.Path.{◌≡◌, sym, ap, ◌∙◌, subst}
use native.Mathlib.Nat.{sub-zero}
use native.Mathlib.Omega.{arith}
use Prim.Native.Nat.{ℕ, ◌-◌, ◌≤◌, ◌<◌}
use Rattle.block.specs.Words.{xor}
use Rattle.cipher.specs.Cipher.{size_of, cipher_of}
use Rattle.cipher.proofs.Suites.{size_most}
use Rattle.mode.specs.Blocks.{blocks}
use Rattle.mode.specs.Walk.{hidden, turned, covered}
use Rattle.block_state.specs.Two.{two_of}
use Rattle.block_walk.proofs.Front.{one_block, no_block, walk_none, cover-none, walk-short, cover-short}
use Rattle.block_walk.specs.Counted.{Counted}
use Rattle.session_blocks.specs.Written.{written}
use Rattle.block_walk.proofs.Count.{counted_none, counted-one}
use Rattle.session_blocks.proofs.Hold.{lent_again, twice-written}
use borrow.Author.Rules.{rules}
use borrow.Rule.Slice.PartMut.{put_mid}
use Rattle.session_blocks.proofs.last_in.Goals as goal

pub returns-then-count-eq0 : goal.returns-then-count-eq0
returns-then-count-eq0 c =
    let suite = c.args.engine.now.suite in
    let k = cipher_of suite in
    let s = two_of suite c.args.state in
    let pos : 0 < size_of suite = omega (arith, c.requires.0) in
    let x : List ℕ = take c.args.count c.args.held in
    let e : length x ≡ 0 = ap (λ (i : ℕ). length (take i c.args.held)) c.if-count-eq0.true in
    let ec = sym (cover-none k pos false 0x40 c.args.mark s x e) in record {
      text = ap (λ (w : List ℕ). written w c.args.out.now) ec;
      count = c.if-count-eq0.true ∙ ap length ec;
      state = sym (walk_none k pos false 0x40 c.args.mark s x e);
      calls = subst (λ (i : ℕ). Counted suite i c.args.state c.args.state) (sym (ap length (no_block (size_of suite) pos x e)))
          (counted_none suite c.args.state (omega arith));
    }

pub slice_bounds-copy-end : goal.slice_bounds-copy-end
slice_bounds-copy-end c =
    let l16 : length c.args.held ≡ 16 = search rules in
    omega (arith, c.requires.0, size_most c.args.engine.now.suite)

pub returns : goal.returns
unfolding xor
returns c =
    let suite = c.args.engine.now.suite in
    let k = cipher_of suite in
    let s = two_of suite c.args.state in
    let h = c.args.count in
    let held = c.args.held in
    let out = c.args.out.now in
    let l16 : length held ≡ 16 = search rules in
    let hn : h < size_of suite = c.requires.0 in
    let most : size_of suite ≤ 16 = size_most suite in
    let room : size_of suite ≤ length out = c.requires.1 in
    let pos : 0 < size_of suite = omega arith in
    let x : List ℕ = take h held in
    let lx : length x ≡ h = length-take-le h held (omega arith) in
    let hp : h ≡ 0 → ⊥ = c.if-count-eq0.false in
    let px : 0 < length x = omega arith in
    let y = c.copy.new.to in
    let ey : y ≡ x = c.copy.ensures ∙ ap (λ (i : ℕ). take i held) (sub-zero h) in
    let ly : length y ≡ h = ap length ey ∙ lx in
    let ho : h ≤ length out = omega arith in
    let call = c.crypt_short in
    let o = call.new.block in
    let ex : take (h - 0) (drop 0 (put_mid 0 (h - 0) out y)) ≡ x = lent_again out y h ly ho ∙ ey in
    let ec : o ≡ covered k false c.args.mark 0x40 s (blocks (size_of suite) x) = call.ensures.text ∙ ap (hidden k (xor c.args.mark 0x40) s) ex
    ∙ sym (cover-short k pos false 0x40 c.args.mark s x px (omega arith)) in
    let lo : length o ≡ h = call.auto.block ∙ ap length ex ∙ lx in record {
      text = twice-written out y h ly ho o _ call.auto.block ec;
      count = sym lo ∙ ap length ec;
      state = call.ensures.state.two ∙ ap (turned k (xor c.args.mark 0x40) s) ex ∙ sym (walk-short k pos false 0x40 c.args.mark s x px (omega arith));
      calls = subst (λ (i : ℕ). Counted suite i c.args.state call.result) (sym (ap length (one_block (size_of suite) pos x px (omega arith))))
          (counted-one suite c.args.state call.result call.ensures.state.clean call.ensures.state.made);
    }
