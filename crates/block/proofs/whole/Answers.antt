-- `block::whole` meets its contract: sixteen bytes are a block, and eight are one number and zeros.
use Prim.Native.Nat.{ℕ, ◌-◌}
use mathlib.Core.Path.{◌≡◌, sym, ap₂, ◌∙◌}
use mathlib.Core.List.{List, ◌++◌}
use native.Mathlib.Omega.{arith}
use lib.ListN.{length, replicate}
use Rattle.block.specs.Bytes.{bytes}
use Rattle.block.proofs.Fill.{full_zeros}
use Rattle.block.proofs.Blocks.{is_eight}
use Rattle.block.proofs.whole.Goals as goal

pub sixteen-requires : goal.sixteen-requires
sixteen-requires c = c.if-block-eq16.true

pub returns-then-block-eq16 : goal.returns-then-block-eq16
returns-then-block-eq16 c = c.sixteen.ensures ∙ sym (full_zeros c.args.block.now c.if-block-eq16.true)

pub load8-lo-requires : goal.load8-lo-requires
load8-lo-requires c = is_eight c.requires c.if-block-eq16.false

pub returns : goal.returns
unfolding bytes
returns c =
    let b = c.args.block.now in
    let lb : length b ≡ 8 = is_eight c.requires c.if-block-eq16.false in
    let lz : 8 ≡ 16 - length b = omega arith in
    ap₂ (λ (s : List ℕ) (k : ℕ). s ++ replicate k 0) c.load8-lo.ensures lz
