-- `cham::around`: each turn is four rounds, with the next four round keys.
use Rattle.std.proofs.Common.{◌≡◌, ◌+◌, ◌*◌, ◌%◌, arith, map}
use Rattle.cham_spec.proofs.Rounds.{four}
use Rattle.cham.proofs.Sizes.{at_place, at_fits}
use Rattle.cham.proofs.around.Goals as goal

pub loop-j-preserved : goal.loop-j-preserved
loop-j-preserved g c =
    let e = c.four_rounds-s.ensures in
    let i = c.args.i in
    let j = c.loop-j.j in
    let even : (i + 4 * j) % 2 ≡ 0 = omega (arith, c.requires.1) in
    λ s h. four g.W.Word.width (map g.W.Word.number c.args.keys.now) s (i + 4 * j) (i + 4 * (j + 1)) (4 * j) _ _ _ _ _ _ _ _
    even (at_place c.requires.0 i j c.requires.2 c.loop-j-test.true) (at_fits c.requires.0 j c.loop-j-test.true) (omega arith)
    (c.loop-j.invariant s h) e.0 e.1 e.2 e.3
