-- A refused header stands; after a sound one come the rows.
use mathlib.Core.Path.{sym}
use native.Mathlib.Omega.{arith}
use Rattle.std.proofs.lemmas.Result.{err_from_is_err_and}
use Rattle.shift_check.specs.Check.{check_between}
use Rattle.shift_check.proofs.Sound.{headed}
use Rattle.shift_check.proofs.Passed.{passed_zero, refused_stands}
use Rattle.shift_check.proofs.check_between.Goals as goal

pub returns-in_err-check_head : goal.returns-in_err-check_head
unfolding check_between
returns-in_err-check_head c =
    let p = err_from_is_err_and c.from_residual.result c.from_residual.ensures.1 in
    rw (p.1, p.2) (sym (refused_stands _ _ _ _ c.in_err-check_head.was c.check_head.ensures))

pub row_size_of-requires : goal.row_size_of-requires
row_size_of-requires c =
    (headed c.args.low c.args.high c.args.file.now (passed_zero _ _ c.in_ok-check_head.was c.check_head.ensures)).long

pub count-requires : goal.count-requires
count-requires c =
    let k = headed c.args.low c.args.high c.args.file.now (passed_zero _ _ c.in_ok-check_head.was c.check_head.ensures) in
    omega arith

pub invariant_of-table : goal.invariant_of-table
invariant_of-table c =
    let k = headed c.args.low c.args.high c.args.file.now (passed_zero _ _ c.in_ok-check_head.was c.check_head.ensures) in
    record { lies = rw (c.count.ensures, c.row_size_of.ensures) k.table }

pub returns : goal.returns
unfolding check_between
returns c =
    let z = passed_zero _ _ c.in_ok-check_head.was c.check_head.ensures in
    simp (z, ← c.count.ensures, ← c.row_size_of.ensures, c.check_rows.ensures)
