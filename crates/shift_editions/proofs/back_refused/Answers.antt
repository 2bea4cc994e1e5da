-- A refused check stands; then the first station that is not 0; then the lengths.
use Prim.Native.Nat.{ℕ}
use native.Mathlib.Omega.{arith}
use mathlib.Core.Path.{◌≡◌, sym, ap, ◌∙◌}
use Rattle.std.proofs.lemmas.Result.{err_from_is_err_and}
use Rattle.status.specs.Answers.{answer}
use Rattle.shift_format.specs.Format.{count_of, newest}
use Rattle.shift_check.proofs.Passed.{passed_zero, refused_stands}
use Rattle.shift_editions.specs.Answers.{stations_from, length_answer, back_answer}
use Rattle.shift_editions.proofs.Done.{source, station_stands}
use Rattle.shift_editions.proofs.back_refused.Goals as goal

pub returns-in_err-check_as : goal.returns-in_err-check_as
unfolding back_answer
returns-in_err-check_as c =
    let p = err_from_is_err_and c.from_residual.result c.from_residual.ensures.1 in
    rw (p.1, p.2) (sym (refused_stands _ _ _ _ c.in_err-check_as.was c.check_as.ensures))

pub count-rows-requires : goal.count-rows-requires
count-rows-requires c =
    (source newest c.args.file.now (passed_zero _ _ c.in_ok-check_as.was
    c.check_as.ensures)).tabled.long

pub first_station-requires : goal.first_station-requires
first_station-requires c =
    rw c.count-rows.ensures (source newest c.args.file.now
    (passed_zero _ _ c.in_ok-check_as.was c.check_as.ensures)).tabled.table

pub returns-in-Some : goal.returns-in-Some
returns-in-Some c =
    let f = c.args.file.now in
    let z = passed_zero _ _ c.in_ok-check_as.was c.check_as.ensures in
    station_stands f c.args.out z _ (rw c.count-rows.ensures at c.in-Some.ensures) (λ q. omega arith)

pub length_in-requires : goal.length_in-requires
length_in-requires c =
    (source newest c.args.file.now (passed_zero _ _ c.in_ok-check_as.was
    c.check_as.ensures)).tabled

pub returns : goal.returns
unfolding back_answer
returns c =
    let f = c.args.file.now in
    let z = passed_zero _ _ c.in_ok-check_as.was c.check_as.ensures in
    let none : stations_from f (count_of f) 0 ≡ answer 0 0 = sym (rw c.count-rows.ensures at c.in_default.ensures) in
    simp (z, none) (c.length_refused.ensures ∙ ap (λ (k : ℕ). length_answer k c.args.out) c.length_in.ensures)
