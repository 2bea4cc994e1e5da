-- `block_state::tag::same` meets its contract: the zeros after both do not matter.
use Rattle.std.proofs.Common.{ℕ, ◌-◌, ◌≤◌, List, ◌++◌, length, take, replicate, sym, ap, ◌∙◌, ap₂, ⊎_elim, arith, take-append-drop, length-take-le}
use Rattle.block.specs.Blocks.{wide}
use Rattle.block.specs.Bytes.{same_bytes}
use Rattle.block.proofs.Blocks.{length-wide}
use Rattle.block.proofs.SameBytes.{same_behind}
use Rattle.block_state.proofs.tag.same.Goals as goal

pub returns : goal.returns
returns c =
    let tag = c.args.tag.now in
    let k = length tag in
    let most : k ≤ 16 = ⊎_elim (λ e. omega arith) (λ e. omega arith) c.requires.0 in
    c.same.ensures
    ∙ ap₂ same_bytes (sym (take-append-drop k (wide c.args.made)) ∙ ap (λ (l : List ℕ). take k (wide c.args.made) ++ l) c.requires.1) c.whole-given.ensures
    ∙ same_behind (take k (wide c.args.made)) tag (replicate (16 - k) 0) (length-take-le k (wide c.args.made) (omega (arith, length-wide c.args.made.a c.args.made.b)))
