-- The first row in which the test holds, as `find` says it, is the definition's.
use Rattle.std.proofs.Common.{◌≡◌, ℕ, rules, tests, true, false}
use Rattle.std.proofs.lemmas.Iterator.{first_from_Range, serves_from_Range}
use Rattle.shift_format.specs.Format.{row_size_of}
use Rattle.shift_check.specs.Check.{nonce_seen}
use Rattle.shift_check.proofs.Finds.{first_found}
use Rattle.shift_reseal.specs.Files.{retabled}
use Rattle.shift_reseal.specs.Answers.{seen_from}
use Rattle.shift_reseal.proofs.suites.first_clash.Goals as goal

pub returns : goal.returns
unfolding seen_from
returns c =
    let f = retabled c.args.file.now in
    let hit = nonce_seen (row_size_of f) f in
    first_found hit _ _ c.args.rows c.find.result
    (first_from_Range _ _ _ _ (λ i. hit i ≡ true) (λ i. hit i ≡ false) c.find.ensures.ran
    (λ x q k. search (rules, tests))
    (λ x q k. search (rules, tests)))
