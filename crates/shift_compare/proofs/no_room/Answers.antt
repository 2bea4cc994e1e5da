-- Buffers with a place for each row need no counting; the pass that counts leaves the lists unchanged.
use mathlib.Core.Path.{refl, sym, ◌∙◌}
use Rattle.shift_compare.proofs.Cases.{counting, counted, roomy}
use Rattle.shift_compare.proofs.no_room.Goals as goal

pub returns-then-not-too_long : goal.returns-then-not-too_long
returns-then-not-too_long c =
    let t = sym c.too_long.ensures ∙ c.if-not-too_long.true in (
      sym (roomy c.args.first.now c.args.second.now c.args.only_first.now c.args.only_second.now c.args.differ.now _ c.most.ensures t),
      refl,
      refl,
      refl,
    )

pub pass-counts-requires : goal.pass-counts-requires
pass-counts-requires c = counting _ _ _ _ _ c.requires

pub returns : goal.returns
returns c =
    let p = c.pass-counts.ensures in (c.too_long-2.ensures ∙ counted _ _ _ _ _ _ _ _ _ p, p.first, p.second, p.differ)
