-- `snoekeldraf::sessions::comet_session_data` meets its contract: the library's, on the value that the words stand for; a first word over 255 is no suite.
use mathlib.Core.List.{List, []}
use mathlib.Core.Path.{◌≡◌, sym, ap, ◌∙◌}
use Prim.Native.Nat.{ℕ}
use lib.ListN.{length, get_or}
use mir.Val.{Fits}
use mir.Syntax.{w64}
use Rattle.session_words.specs.Words.{Nine, of_words}
use Rattle.session_words.proofs.Words.{handed, stays}
use Rattle.session.specs.Structs.{count_of}
use Rattle.session.specs.Value.{Value, Given, data_part}
use Rattle.session.proofs.AnyValue.{data_shut, data_none}
use borrow.Author.Rules.{rules}
use Rattle.snoekeldraf.proofs.sessions.comet_session_data.Goals as goal

pub returns-then-words-gt255 : goal.returns-then-words-gt255
returns-then-words-gt255 c =
    let l : length c.args.state.now ≡ 9 = search rules in
    let h : Nine c.args.state.now = record { long = l; small = λ i. let f : Fits w64 (get_or c.args.state.now i 0) = search rules in f.fits } in
    stays c.args.state.now [] [] _ h (data_shut (of_words c.args.state.now) c.args.ad.now c.if-words-gt255.true)

pub returns : goal.returns
returns c =
    let e = c.associated-step.ensures ∙ ap (λ (v : Value). data_part v c.args.ad.now) c.session_of.ensures in
    let n : 0 ≡ count_of c.associated-step.result.outcome = sym (ap (λ (g : Given). g.count) e ∙ data_none (of_words c.args.state.now) c.args.ad.now) in
    handed c.associated-step.result c.number.result 0 c.words_of.result [] [] _ c.number.ensures n c.words_of.ensures.words c.words_of.ensures.session e
