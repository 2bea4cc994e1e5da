-- `block_key::next_key_one` meets its contract: the mark, then the doubling of the low half.
use mathlib.Core.List.{◌++◌}
use mathlib.Core.Path.{ap, ◌∙◌}
use native.Mathlib.Omega.{arith}
use Prim.Native.Nat.{ℕ, ◌^◌, ◌<◌}
use Rattle.block.specs.Bytes.{bytes}
use Rattle.cipher.specs.Cipher.{one}
use Rattle.mode.specs.Keys.{doubled, next_key}
use Rattle.block_key.proofs.Halves.{double-low}
use Rattle.block_key.proofs.next_key_one.Goals as goal

pub returns : goal.returns
unfolding next_key
returns c =
    let h : c.with_mark-marked.result.a < 2 ^ 64 = omega arith in
    ap (λ (x : ℕ). bytes 8 x ++ bytes 8 c.with_mark-marked.result.b) c.doubling.ensures ∙ double-low c.with_mark-marked.result.a c.with_mark-marked.result.b h ∙ ap (doubled one) c.with_mark-marked.ensures
