-- `session::Session::associated` meets its contract: a refusal hands the session back; else the part is absorbed.
use lib.ListN.{length}
use mathlib.Core.List.{[]}
use mathlib.Core.Path.{sym}
use Rattle.cipher.specs.Cipher.{cipher_of}
use Rattle.session_ladder.specs.Numbers.{error_number}
use Rattle.session_ladder.proofs.Outcomes.{refusal_some}
use Rattle.session.specs.Value.{gave, data_number, data_in, data_part}
use Rattle.session.specs.Structs.{as_value}
use Rattle.session.proofs.Refuse.{answer-kept}
use Rattle.session.proofs.Session.associated.Goals as goal

pub returns-in-Err : goal.returns-in-Err
unfolding data_part
returns-in-Err c =
    let v = as_value c.args.self in
    let p = c.args.part.now in
    answer-kept (error_number c.in-Err.error) (data_number v.suite v.ad_total v.text_total (length p))
    (gave 0 0 (data_in (cipher_of v.suite) v p) [] []) v [] [] (refusal_some c.in-Err.error) c.in-Err.ensures

pub take_in-requires : goal.take_in-requires
take_in-requires c = sym c.in-Ok.ensures
