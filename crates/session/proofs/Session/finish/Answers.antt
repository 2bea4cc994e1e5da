-- `session::Session::finish` meets its contract: a refusal returns the session unchanged; else the rest and the tag are
-- computed, with the tables that the suite's cipher needs, or none.
use lib.ListN.{length}
use mathlib.Core.Path.{sym, ◌∙◌}
use Rattle.cipher.proofs.Suites.{none_ready}
use Rattle.session_ladder.specs.Numbers.{error_number}
use Rattle.session_ladder.proofs.Outcomes.{refusal_some}
use Rattle.session.specs.Value.{end_number, end_done, ending}
use Rattle.session.specs.Structs.{as_value}
use Rattle.session.proofs.Refuse.{answer-kept}
use Rattle.session.proofs.Session.finish.Goals as goal

pub returns-in-Err : goal.returns-in-Err
unfolding ending
returns-in-Err c =
    let v = as_value c.args.self in
    let o = c.args.out.now in
    let t = c.args.tag.now in
    answer-kept (error_number c.in-Err.error) (end_number v.suite v.ad_total v.text_total (length o) (length t)) (end_done v o) v o t
    (refusal_some c.in-Err.error) c.in-Err.ensures

pub tables-tables-requires : goal.tables-tables-requires
tables-tables-requires c = sym c.needs_tables.ensures ∙ c.if-needs_tables.true

pub close-requires : goal.close-requires
close-requires c = (c.tables-tables.ensures, sym c.in-Ok.ensures)

pub close-requires-in-Ok : goal.close-requires-in-Ok
close-requires-in-Ok c = (none_ready c.args.self.suite (sym c.needs_tables.ensures ∙ c.if-needs_tables.false), sym c.in-Ok.ensures)
