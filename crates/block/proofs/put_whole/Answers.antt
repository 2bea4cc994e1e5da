-- `block::put_whole`, by the slice's length: a slice of sixteen is written by two stores of eight bytes, a slice of eight by
-- one.
use Prim.Native.Nat.{ℕ}
use mathlib.Core.Path.{◌≡◌, sym, ap, ap₂, ◌∙◌}
use mathlib.Core.List.{List, ◌++◌}
use native.Mathlib.Omega.{arith}
use lib.ListN.{length}
use lib.Seq.{take_at, take_all}
use Rattle.block.specs.Bytes.{bytes}
use Rattle.block.specs.Blocks.{wide}
use Rattle.block.proofs.Bytes.{length-bytes}
use Rattle.block.proofs.Blocks.{length-wide, is_eight, two_puts}
use Rattle.block.proofs.put_whole.Goals as goal

pub returns-then-out-eq16 : goal.returns-then-out-eq16
returns-then-out-eq16 c =
    let out = c.args.out.now in
    let lo : length out ≡ 16 = omega arith in
    let p = c.put8.new.out in
    let q = c.put8-then-out-eq16.new.out in
    let ep : p ≡ bytes 8 c.args.block.a = c.put8.ensures in
    let eq : q ≡ bytes 8 c.args.block.b = c.put8-then-out-eq16.ensures in
    two_puts out p q lo (ap length ep ∙ length-bytes 8 c.args.block.a) (ap length eq ∙ length-bytes 8 c.args.block.b)
    ∙ ap₂ (λ (s t : List ℕ). s ++ t) ep eq
    ∙ sym (take_all (length out) (wide c.args.block) (omega (arith, length-wide c.args.block.a c.args.block.b)))

pub put8-requires-2 : goal.put8-requires-2
put8-requires-2 c = is_eight c.requires c.if-out-eq16.false

pub returns : goal.returns
returns c =
    let out = c.args.out.now in
    let lo : length out ≡ 8 = is_eight c.requires c.if-out-eq16.false in
    c.put8-2.ensures ∙ sym (take_at (bytes 8 c.args.block.a) (bytes 8 c.args.block.b) (length out) (length-bytes 8 c.args.block.a ∙ sym lo))
