-- `session::Session::start` meets its contract: a refusal returns a session that is over; else the cipher borrows the tables that the suite needs, or none.
use lib.ListN.{length}
use mathlib.Core.List.{[]}
use mathlib.Core.Path.{sym, ap, ◌∙◌}
use Rattle.cipher.proofs.Suites.{none_ready, seals-has}
use Rattle.session_ladder.specs.Numbers.{error_number}
use Rattle.session_ladder.proofs.Rungs.{start-passed}
use Rattle.session_ladder.proofs.Outcomes.{refusal_some}
use Rattle.session.specs.Value.{Value, gave, over, fresh, start_number, starting}
use Rattle.session.proofs.Refuse.{answer-kept}
use Rattle.session.proofs.Session.start.Goals as goal

pub returns-in-Err : goal.returns-in-Err
unfolding starting
returns-in-Err c =
    let k = error_number c.in-Err.error in
    ap (λ (v : Value). gave k 0 v [] []) c.default.ensures
    ∙ answer-kept k (start_number c.args.suite (length c.args.key.now) (length c.args.nonce.now))
    (gave 0 0 (fresh c.args.suite c.args.key.now c.args.nonce.now) [] []) over [] [] (refusal_some c.in-Err.error) c.in-Err.ensures

pub tables-tables-requires : goal.tables-tables-requires
tables-tables-requires c = sym c.needs_tables.ensures ∙ c.if-needs_tables.true

pub invariant_of-engine : goal.invariant_of-engine
invariant_of-engine c =
    let p = start-passed c.args.suite (length c.args.key.now) (length c.args.nonce.now) (sym c.in-Ok.ensures) in
    record { known = seals-has c.args.suite p.0; fitted = c.tables-tables.ensures }

pub invariant_of-engine-in-Ok : goal.invariant_of-engine-in-Ok
invariant_of-engine-in-Ok c =
    let p = start-passed c.args.suite (length c.args.key.now) (length c.args.nonce.now) (sym c.in-Ok.ensures) in
    record { known = seals-has c.args.suite p.0; fitted = none_ready c.args.suite (sym c.needs_tables.ensures ∙ c.if-needs_tables.false) }

pub started-requires : goal.started-requires
started-requires c = sym c.in-Ok.ensures

pub started-requires-in-Ok : goal.started-requires-in-Ok
started-requires-in-Ok c = sym c.in-Ok.ensures
