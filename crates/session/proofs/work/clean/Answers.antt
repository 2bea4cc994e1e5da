-- `session::work::clean`, by cases on the block size: with 16 bytes all of Y is kept; with 8 the upper half is set to zero,
-- which the definition does not use.
use mathlib.Core.Path.{◌≡◌, sym, ap, ◌∙◌}
use Prim.Native.Nat.{ℕ}
use lib.ListN.{take}
use Rattle.block.specs.Bytes.{bytes}
use Rattle.block.specs.Blocks.{wide, filled}
use Rattle.cipher.specs.Cipher.{size_of}
use Rattle.cipher.proofs.Suites.{size_other}
use Rattle.session.proofs.work.clean.Goals as goal

pub returns-then-size_of-eq16 : goal.returns-then-size_of-eq16
unfolding bytes
returns-then-size_of-eq16 c =
    let en : size_of c.args.suite ≡ 16 = sym c.size_of.ensures.is ∙ c.if-size_of-eq16.true in
    sym (ap (λ (n : ℕ). filled (take n (wide c.args.y))) en)

pub returns : goal.returns
unfolding bytes
returns c =
    let en : size_of c.args.suite ≡ 8 = size_other c.args.suite (λ e. c.if-size_of-eq16.false (c.size_of.ensures.is ∙ e)) in
    sym (ap (λ (n : ℕ). filled (take n (wide c.args.y))) en)
