-- A refused check stands; after one that passed, binary search finds what the lookup finds.
use mathlib.Core.Path.{sym}
use native.Mathlib.Omega.{arith}
use Rattle.std.proofs.lemmas.Result.{err_from_is_err_and}
use Rattle.shift_lookup.specs.Lookup.{lookup_job}
use Rattle.shift_format.specs.Format.{first_edition, newest}
use Rattle.shift_lookup.proofs.Finding.{halving-finds}
use Rattle.shift_check.proofs.Passed.{passes, passed_zero, refused_stands}
use Rattle.shift_lookup.proofs.lookup.Goals as goal

pub returns-in_err-check : goal.returns-in_err-check
unfolding lookup_job
returns-in_err-check c =
    let p = err_from_is_err_and c.from_residual.result c.from_residual.ensures.1 in
    rw (p.1, p.2) (sym (refused_stands _ _ _ _ c.in_err-check.was c.check.ensures))

pub row_size_of-requires : goal.row_size_of-requires
row_size_of-requires c =
    let f = c.args.file.now in
    (passes first_edition newest f (passed_zero _ _ c.in_ok-check.was c.check.ensures)).head.long

pub count-requires : goal.count-requires
count-requires c =
    let f = c.args.file.now in
    let k = (passes first_edition newest f (passed_zero _ _ c.in_ok-check.was c.check.ensures)).head.long in
    omega arith

pub halve-requires : goal.halve-requires
halve-requires c =
    let f = c.args.file.now in
    let k = passes first_edition newest f (passed_zero _ _ c.in_ok-check.was c.check.ensures) in
    rw (c.count.ensures, c.row_size_of.ensures) k.head.table

pub returns : goal.returns
returns c =
    let z = passed_zero _ _ c.in_ok-check.was c.check.ensures in
    rw (← halving-finds c.args.file.now c.args.job z, ← c.count.ensures, ← c.row_size_of.ensures) c.halve.ensures.0
