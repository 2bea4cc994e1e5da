-- `session_blocks::gather`: the h buffered bytes are copied to the front of the output and the part after them. Two copies of
-- adjacent parts make the list that joins both.
use borrow.Author.Rules.{rules}
use lib.ListN.{length, take}
use lib.Seq.{length-take-le}
use mathlib.Core.List.{List, ◌++◌}
use mathlib.Core.Path.{◌≡◌, ap, ap₂, ◌∙◌}
use native.Mathlib.Nat.{sub-zero}
use native.Mathlib.Omega.{arith}
use Prim.Native.Nat.{ℕ, ◌≤◌}
use Rattle.session_blocks.proofs.Hold.{then-rest}
use Rattle.session_blocks.proofs.gather.Goals as goal

pub returns : goal.returns
returns c =
    let out = c.args.out.now in
    let x = c.copy.new.to in
    let l16 : length c.args.held ≡ 16 = search rules in
    let room : c.args.count ≤ length out = omega (arith, c.requires.1) in
    let ex : x ≡ take c.args.count c.args.held = c.copy.ensures ∙ ap (λ (i : ℕ). take i c.args.held) (sub-zero c.args.count) in
    let lx : length x ≡ c.args.count = ap length ex ∙ length-take-le c.args.count c.args.held (omega (arith, c.requires.0)) in
    then-rest out x c.args.count lx room c.copy-2.new.to ∙ ap₂ (λ (a b : List ℕ). a ++ b) ex c.copy-2.ensures
