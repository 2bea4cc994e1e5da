-- A refusal is no row, so its places are 0; a row that was found tells them.
use Prim.Native.Nat.{◌+◌, ◌≤◌}
use mathlib.Core.Path.{sym, ap, ◌∙◌}
use native.Mathlib.Omega.{arith}
use Rattle.std.proofs.lemmas.Result.{err_from_is_err_and}
use Rattle.shift_lookup.specs.Answers.{found_answer}
use Rattle.shift_lookup.proofs.Lookups.{found_in}
use Rattle.shift_lookup.proofs.Places.{places-found, places-none, text_low}
use Rattle.shift_lookup.proofs.found.entry_found.Goals as goal

pub returns-in_err-index : goal.returns-in_err-index
returns-in_err-index c =
    let p = err_from_is_err_and c.from_residual.result c.from_residual.ensures.1 in
    rw (p.1, p.2) (places-none c.args.file.now (found_answer c.args.found) _ (ap found_answer c.in_err-index.was))

pub row_of-row-requires : goal.row_of-row-requires
row_of-row-requires c =
    (found_in c.args.file.now c.requires.job _ (sym c.requires.gives ∙ ap found_answer c.in_ok-index.was)).row_in

pub overflow_add-result : goal.overflow_add-result
overflow_add-result c =
    let t = text_low c.args.file.now c.requires.job _ (sym c.requires.gives ∙ ap found_answer c.in_ok-index.was) in
    let u : c.row_of-row.result.ad_at + c.row_of-row.result.ad_len ≤ 1048576 = rw c.row_of-row.ensures t in
    omega arith

pub returns : goal.returns
returns c =
    rw c.row_of-row.ensures (places-found c.args.file.now (found_answer c.args.found) _ (ap found_answer c.in_ok-index.was))
