-- `snoekeldraf::sessions::comet_session_start` meets its contract: the library's, and the session as words.
use mathlib.Core.List.{[]}
use mathlib.Core.Path.{◌≡◌, sym, ap, ◌∙◌}
use Rattle.session.specs.Structs.{count_of}
use Rattle.session.specs.Value.{Given}
use Rattle.session_words.proofs.Words.{handed}
use Rattle.session.proofs.AnyValue.{start_none}
use Rattle.snoekeldraf.proofs.sessions.comet_session_start.Goals as goal

pub returns : goal.returns
returns c =
    let n : 0 ≡ count_of c.start-step.result.outcome = sym (ap (λ (g : Given). g.count) c.start-step.ensures ∙ start_none c.args.suite c.args.key.now c.args.nonce.now) in
    handed c.start-step.result c.number.result 0 c.words_of.result [] [] _ c.number.ensures n c.words_of.ensures.words c.words_of.ensures.session c.start-step.ensures
