-- `cham::under`: after `pass` turns around the N round keys, the state is that after as many times N rounds.
use Rattle.std.proofs.Common.{◌≡◌, ◌/◌, sym, ap, ◌∙◌, map, arith, rules}
use Rattle.std.proofs.Math.Nat.{zero-mul}
use Rattle.cham_spec.specs.Cham.{rounds, state_of, bytes_of}
use Rattle.cham.proofs.Sizes.{even, first, turn_fits, next_turn, all_turns}
use Rattle.cham.proofs.under.Goals as goal

pub loop-pass-init : goal.loop-pass-init
unfolding rounds
loop-pass-init g c =
    ap (rounds g.W.Word.width (map g.W.Word.number c.args.keys.now) (state_of g.W.Word.width c.args.block.now)) (zero-mul g.row.N) ∙ sym c.words_of-s.ensures

pub around-s-requires : goal.around-s-requires
around-s-requires g c = (
  search rules,
  (
    c.requires.0,
    even c.requires.0 c.loop-pass.pass,
    first c.requires.0 c.loop-pass.pass,
    turn_fits c.requires.0 c.loop-pass.pass c.loop-pass-test.true,
  ),
)

pub loop-pass-preserved : goal.loop-pass-preserved
loop-pass-preserved g c =
    let w = g.W.Word.width in
    let s = state_of w c.args.block.now in
    ap (rounds w (map g.W.Word.number c.args.keys.now) s) (next_turn c.requires.0 c.loop-pass.pass)
    ∙ c.around-s.ensures s c.loop-pass.invariant

pub returns : goal.returns
returns g c =
    let w = g.W.Word.width in
    let e : c.loop-pass.pass ≡ 80 / g.row.N = omega arith in
    c.store4.ensures
    ∙ ap (bytes_of w) (sym c.loop-pass.invariant ∙ ap (rounds w (map g.W.Word.number c.args.keys.now) (state_of w c.args.block.now)) (all_turns c.requires.0 c.loop-pass.pass e))
