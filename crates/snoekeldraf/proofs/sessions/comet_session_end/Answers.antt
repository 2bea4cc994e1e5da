-- `snoekeldraf::sessions::comet_session_end` meets its contract: the library's, on the value that the words stand for; a first word over 255 is no suite.
use mathlib.Core.List.{List}
use mathlib.Core.Path.{◌≡◌, ap, ◌∙◌}
use Prim.Native.Nat.{ℕ}
use lib.ListN.{length, get_or}
use mir.Val.{Fits}
use mir.Syntax.{w64}
use Rattle.session_words.specs.Words.{Nine, of_words}
use Rattle.session_words.proofs.Words.{handed, stays}
use Rattle.session.specs.Value.{Value, Given, ending}
use Rattle.session.proofs.AnyValue.{end_shut, end-few}
use Rattle.block.proofs.Blocks.{length-wide}
use native.Mathlib.Omega.{arith}
use borrow.Author.Rules.{rules}
use Rattle.snoekeldraf.proofs.sessions.comet_session_end.Goals as goal

pub returns-then-words-gt255 : goal.returns-then-words-gt255
returns-then-words-gt255 c =
    let l : length c.args.state.now ≡ 9 = search rules in
    let h : Nine c.args.state.now = record { long = l; small = λ i. let f : Fits w64 (get_or c.args.state.now i 0) = search rules in f.fits } in
    stays c.args.state.now c.args.out.now c.args.tag.now _ h (end_shut (of_words c.args.state.now) c.args.out.now c.args.tag.now c.if-words-gt255.true)

pub overflow_cast-count : goal.overflow_cast-count
overflow_cast-count c =
    let w = c.args.state.now in
    let e = c.finish-step.ensures ∙ ap (λ (v : Value). ending v c.args.out.now c.args.tag.now) c.session_of.ensures in
    let n : c.count.result ≡ (ending (of_words w) c.args.out.now c.args.tag.now).count = c.count.ensures ∙ ap (λ (g : Given). g.count) e in
    record { fits = omega (arith, n, end-few (of_words w) (length-wide (get_or w 5 0) (get_or w 6 0)) c.args.out.now c.args.tag.now) }

pub returns : goal.returns
returns c =
    let e = c.finish-step.ensures ∙ ap (λ (v : Value). ending v c.args.out.now c.args.tag.now) c.session_of.ensures in
    handed c.finish-step.result c.number.result c.count.result c.words_of.result c.finish-step.new.out c.finish-step.new.tag _ c.number.ensures c.count.ensures c.words_of.ensures.words c.words_of.ensures.session e
