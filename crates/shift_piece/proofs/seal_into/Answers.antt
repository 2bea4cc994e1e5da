-- The text is sealed where it stands, at the front, and its tag, from the front of a local block, is put after it.
use lib.ListN.{length, take, replicate, length-take}
use mathlib.Core.List.{List, ◌++◌}
use mathlib.Core.Path.{◌≡◌, refl, ap, ap₂, ◌∙◌}
use native.Mathlib.Omega.{arith}
use Prim.Native.Nat.{ℕ, ◌+◌, ◌-◌, ◌≤◌}
use Rattle.cipher.specs.Cipher.{limit}
use Rattle.shift_format.specs.Part.{stretch}
use Rattle.shift_format.proofs.Rows.{stretch-length}
use Rattle.shift_draft.specs.Files.{piece_as}
use Rattle.shift_piece.proofs.Lending.{seal-told, part_is, put_both}
use Rattle.shift_piece.proofs.seal_into.Goals as goal

pub returns : goal.returns
returns c =
    let f = c.args.lent.now.file.now in
    let ring = c.args.lent.now.ring.now in
    let out = c.args.out.now in
    let len = c.args.lent.now.row.text_len in
    let e = len + c.size_of-n.result in
    let x = c.seal_as.new.text in
    let y = c.seal_as.new.tag in
    let o = stretch out 0 (len - 0) in
    let z : List ℕ = take (c.size_of-n.result - 0) (replicate 16 0) in
    let inside : length out ≡ e = omega (arith, c.requires.out-long, c.size_of-n.ensures.is) in
    let lo : length o ≡ len = stretch-length out 0 (len - 0) (omega (arith, inside)) ∙ omega arith in
    let lz : length z ≡ c.size_of-n.result = length-take (c.size_of-n.result - 0) (replicate 16 0) ∙ omega (arith, c.size_of-n.ensures.bounds.1) in
    let ly : length y ≡ c.size_of-n.result = c.seal_as.auto.tag ∙ lz in
    let lx : length x ≡ len - 0 = c.seal_as.auto.text ∙ lo ∙ omega arith in
    let high : len ≤ limit = rw c.args.lent.now.lendable.is_row c.requires.entry.text-high in
    let front : o ≡ take len out = ap (λ (k : ℕ). take k out) (let w : len - 0 ≡ len = omega arith in w) in
    let q = seal-told f ring c.args.lent.now.index c.requires.entry c.requires.ring_long c.args.suite _ x y o o z c.requires.still (omega (arith, lo, high)) refl
    (lz ∙ c.size_of-n.ensures.is) c.seal_as.ensures in
    let t = c.copy_from_slice.ensures.after ∙ part_is (replicate 16 0) y 0 c.size_of-n.result (omega arith) (ly ∙ omega arith) in
    let lt : length c.copy_from_slice.new.self ≡ e - len = ap length t ∙ ly ∙ omega arith in
    put_both out x c.copy_from_slice.new.self len e (omega arith) inside lx lt
    ∙ ap₂ (λ (u v : List ℕ). u ++ v) q.0 (t ∙ q.1)
    ∙ ap (λ (l : List ℕ). piece_as f ring c.args.lent.now.index c.args.suite l) front
