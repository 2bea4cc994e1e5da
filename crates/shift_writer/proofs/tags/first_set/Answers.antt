-- The first row in which the test holds, as `find` says it, is the definition's.
use Rattle.std.proofs.Common.{◌≡◌, ℕ, rules, tests, true, false}
use Rattle.std.proofs.lemmas.Iterator.{first_from_Range}
use Rattle.shift_check.proofs.Finds.{first_found}
use Rattle.shift_draft.specs.Answers.{tag_set, set_from}
use Rattle.shift_writer.proofs.tags.first_set.Goals as goal

pub returns : goal.returns
unfolding set_from
returns c =
    let f = c.args.file.now in
    first_found (tag_set f) _ _ c.args.rows c.find.result
    (first_from_Range _ _ _ _ (λ i. tag_set f i ≡ true) (λ i. tag_set f i ≡ false) c.find.ensures.ran
    (λ x q k. search (rules, tests))
    (λ x q k. search (rules, tests)))
