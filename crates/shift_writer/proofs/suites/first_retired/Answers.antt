-- The first row in which the test holds, as `find` says it, is the definition's.
use Rattle.std.proofs.Common.{◌≡◌, ℕ, rules, tests, true, false}
use Rattle.std.proofs.lemmas.Iterator.{first_from_Range}
use Rattle.shift_check.proofs.Finds.{first_found}
use Rattle.shift_draft.specs.Answers.{row_retired, retired_from}
use Rattle.shift_writer.proofs.suites.first_retired.Goals as goal

pub returns : goal.returns
unfolding retired_from
returns c =
    let f = c.args.file.now in
    first_found (row_retired f) _ _ c.args.rows c.find.result
    (first_from_Range _ _ _ _ (λ i. row_retired f i ≡ true) (λ i. row_retired f i ≡ false) c.find.ensures.ran
    (λ x q k. search (rules, tests))
    (λ x q k. search (rules, tests)))
