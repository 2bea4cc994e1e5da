-- The tag starts after the text, is one block long, and ends where the body does.
use mathlib.Core.Path.{ap}
use Prim.Native.Nat.{ℕ, ◌+◌}
use Rattle.shift_format.proofs.Parts.{part_at}
use Rattle.shift_format.proofs.body.tag_of.Goals as goal

pub returns : goal.returns
returns c =
    let len = c.args.row.text_len in
    part_at c.stretch.ensures.0 (ap (λ (k : ℕ). k + len) c.text_start.ensures) c.size_of.ensures.is
