-- `block_step::shuffle::shuffled`, by cases on the suite's block size: the callee for 16 or for 8 bytes ensures the
-- definition's shuffle of that size.
use lib.Seq.{take_all}
use mathlib.Core.Path.{◌≡◌, sym, ap, ◌∙◌}
use native.Mathlib.Nat.{le_of_eq}
use Rattle.block.specs.Blocks.{wide}
use Rattle.block.proofs.Blocks.{length-wide, first_eight}
use Rattle.cipher.specs.Cipher.{size_of}
use Rattle.cipher.proofs.Suites.{size_other}
use Rattle.mode.specs.Words.{shuffle}
use Rattle.block_state.proofs.Clean.{clean_16, clean_8}
use Rattle.block_step.proofs.shuffle.shuffled.Goals as goal

pub returns-then-n-eq16 : goal.returns-then-n-eq16
returns-then-n-eq16 c =
    let x = c.args.x in
    let r = c.shuffled16.result in
    let en : size_of c.args.suite ≡ 16 = sym c.requires ∙ c.if-n-eq16.true in
    record {
      is =
          rw en
          (take_all 16 (wide r) (le_of_eq (length-wide r.a r.b)) ∙ c.shuffled16.ensures
          ∙ ap (shuffle 16) (sym (take_all 16 (wide x) (le_of_eq (length-wide x.a x.b)))));
      clean = clean_16 c.args.suite r en;
    }

pub returns : goal.returns
returns c =
    let x = c.args.x in
    let r = c.shuffled8.result in
    let en : size_of c.args.suite ≡ 8 = size_other c.args.suite (λ e. c.if-n-eq16.false (c.requires ∙ e)) in
    record {
      is = rw en (first_eight r 0 ∙ c.shuffled8.ensures ∙ ap (shuffle 8) (sym (first_eight x.a x.b)));
      clean = clean_8 c.args.suite r en;
    }
