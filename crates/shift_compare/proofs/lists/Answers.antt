-- The question of room leaves the lists unchanged; so 36 is told of unchanged lists, and the pass that writes has room.
use mathlib.Core.Path.{sym, ◌∙◌}
use Rattle.shift_compare.proofs.Cases.{too_long, writing, all_listed, still, as-they-were}
use Rattle.shift_compare.proofs.lists.Goals as goal

pub returns-then-no_room : goal.returns-then-no_room
returns-then-no_room c =
    let t = sym (still _ _ _ _ _ _ _ _ _ c.no_room.ensures) ∙ c.if-no_room.true in
    sym (too_long _ _ _ _ _ c.requires t) ∙ as-they-were _ _ _ _ _ _ _ _ _ c.no_room.ensures

pub pass-counts-requires : goal.pass-counts-requires
pass-counts-requires c =
    writing _ _ _ _ _ c.requires (sym (still _ _ _ _ _ _ _ _ _ c.no_room.ensures) ∙ c.if-no_room.false)

pub returns : goal.returns
returns c =
    let q = sym (still _ _ _ _ _ _ _ _ _ c.no_room.ensures) ∙ c.if-no_room.false in
    all_listed _ _ _ _ _ c.requires q _ _ _ _ c.pass-counts.ensures ∙ as-they-were _ _ _ _ _ _ _ _ _ c.no_room.ensures
