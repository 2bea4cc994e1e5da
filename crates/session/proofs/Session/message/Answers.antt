-- `session::Session::message` meets its contract: a refusal and an empty part hand the session back; else the part is absorbed.
use lib.ListN.{length}
use mathlib.Core.List.{[]}
use mathlib.Core.Path.{refl, sym, ◌∙◌}
use native.Mathlib.Omega.{arith}
use Rattle.session_ladder.specs.Numbers.{error_number}
use Rattle.session_ladder.proofs.Outcomes.{refusal_some}
use Rattle.session.specs.Value.{text_number, text_done, text_part}
use Rattle.session.specs.Structs.{as_value}
use Rattle.session.proofs.Refuse.{answer-kept, answer-done}
use Rattle.session.proofs.Parts.{done_empty}
use Rattle.session.proofs.Session.message.Goals as goal

pub returns-in-Err : goal.returns-in-Err
unfolding text_part
returns-in-Err c =
    let v = as_value c.args.self in
    let p = c.args.part.now in
    let o = c.args.out.now in
    answer-kept (error_number c.in-Err.error) (text_number v.suite v.ad_total v.text_total (length p) (length o)) (text_done v p o) v o []
    (refusal_some c.in-Err.error) c.in-Err.ensures

pub returns-then-part-eq0 : goal.returns-then-part-eq0
unfolding text_part
returns-then-part-eq0 c =
    let v = as_value c.args.self in
    let p = c.args.part.now in
    let o = c.args.out.now in
    done_empty v p o c.if-part-eq0.true
    ∙ answer-done 0 (text_number v.suite v.ad_total v.text_total (length p) (length o)) (text_done v p o) v o [] refl c.in-Ok.ensures

pub seal_in-requires : goal.seal_in-requires
seal_in-requires c = (sym c.in-Ok.ensures, omega (arith, c.if-part-eq0.false))
