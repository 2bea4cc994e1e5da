-- `session::work::started` meets its contract: the start of the block step gives Y and Z; nothing is buffered and both totals are 0.
use lib.ListN.{length, replicate}
use mathlib.Core.List.{[]}
use mathlib.Core.Path.{refl, sym, ap, ◌∙◌}
use Rattle.mode.specs.Walk.{States}
use Rattle.session.specs.Value.{Value, value_of, over, gave, fresh, start_number, starting}
use Rattle.session_ladder.proofs.Rungs.{start-passed}
use Rattle.session.proofs.Refuse.{answer-done}
use Rattle.session.proofs.work.started.Goals as goal

pub start-state-requires : goal.start-state-requires
start-state-requires c =
    let p = start-passed c.args.engine.now.suite (length c.args.key.now) (length c.args.nonce.now) c.requires in
    (p.1, p.2)

pub returns : goal.returns
unfolding starting
returns c =
    let v = c.packed-next.ensures ∙ ap (λ (s : States). value_of c.args.engine.now.suite s (replicate 16 0) 0 0) c.start-state.ensures.two in
    ap (λ (w : Value). gave 0 0 w [] []) v
    ∙ answer-done 0 (start_number c.args.engine.now.suite (length c.args.key.now) (length c.args.nonce.now))
    (gave 0 0 (fresh c.args.engine.now.suite c.args.key.now c.args.nonce.now) [] []) over [] [] refl (sym c.requires)
