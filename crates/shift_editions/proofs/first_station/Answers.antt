-- The first row in which the test holds, as `find` says it, is the definition's.
use Rattle.std.proofs.Common.{◌≡◌, ℕ, rules, tests, true, false, not}
use Rattle.std.proofs.lemmas.Iterator.{first_from_Range, serves_from_Range}
use lib.Dec.{eqb}
use Rattle.shift_format.specs.Format.{row_size_of, station_of}
use Rattle.shift_format.proofs.Rows.{row_in}
use Rattle.shift_editions.specs.Answers.{stations_from}
use Rattle.shift_check.proofs.Finds.{first_found}
use Rattle.shift_editions.proofs.first_station.Goals as goal

pub find-requires-clause-callable : goal.find-requires-clause-callable
find-requires-clause-callable c = serves_from_Range (λ x q k. search (rules, tests)) (λ x low high. search (rules, row_in (row_size_of c.args.file.now) c.args.file.now c.args.rows x c.requires high))

pub returns : goal.returns
unfolding stations_from
returns c =
    let f = c.args.file.now in
    let hit = λ (i : ℕ). not (eqb (station_of f i) 0) in
    first_found hit _ _ c.args.rows c.find.result
    (first_from_Range _ _ _ _ (λ i. hit i ≡ true) (λ i. hit i ≡ false) c.find.ensures.ran
    (λ x q k. search (rules, tests))
    (λ x q k. search (rules, tests)))
