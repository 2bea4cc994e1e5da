-- A refused header stands; after a sound one the rows are halved.
use mathlib.Core.Path.{sym, ap, ◌∙◌}
use lib.ListN.{length}
use Rattle.shift_format.specs.Format.{first_edition, newest}
use Rattle.status.specs.Answers.{checked_answer}
use Rattle.shift_check.proofs.Sound.{headed}
use Rattle.shift_check.proofs.Passed.{passed_zero}
use Rattle.shift_lookup.specs.Halving.{Walk}
use Rattle.shift_search.proofs.Promised.{goes, stops}
use Rattle.shift_search.proofs.search.Goals as goal

pub row_size_of-requires : goal.row_size_of-requires
row_size_of-requires c =
    (headed first_edition newest c.args.file.now (passed_zero _ _ c.in-Ok.is c.check_head.ensures)).long

pub count-requires : goal.count-requires
count-requires c =
    (headed first_edition newest c.args.file.now (passed_zero _ _ c.in-Ok.is c.check_head.ensures)).long

pub halve-requires : goal.halve-requires
halve-requires c =
    rw (c.count.ensures, c.row_size_of.ensures) (headed first_edition newest c.args.file.now
    (passed_zero _ _ c.in-Ok.is c.check_head.ensures)).table

pub returns-in-Ok : goal.returns-in-Ok
returns-in-Ok c =
    let g = goes c.args.file.now c.args.job (passed_zero _ _ c.in-Ok.is c.check_head.ensures) in
    rw (g, ← c.count.ensures, ← c.row_size_of.ensures) c.halve.ensures

pub returns-in-Err : goal.returns-in-Err
returns-in-Err c =
    let s = stops c.args.file.now c.args.job c.in-Err.refusal (sym c.check_head.ensures ∙ ap checked_answer c.in-Err.is) in
    (sym (ap (λ (x : Walk). x.says) s), sym (ap (λ (x : Walk). length x.rows) s))
