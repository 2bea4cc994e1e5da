-- A lookup that refused stands; the tag of a row that it found is tested.
use mathlib.Core.Path.{sym, ap, ◌∙◌}
use Rattle.std.proofs.lemmas.Result.{err_from_is_err_and}
use Rattle.shift_lookup.specs.Answers.{found_answer}
use Rattle.shift_lookup.proofs.Lookups.{found_in}
use Rattle.shift_jobs.proofs.Refused.{verifying_refused}
use Rattle.shift_jobs.proofs.testing.verify_found.Goals as goal

pub returns-in_err-index : goal.returns-in_err-index
returns-in_err-index c =
    let p = err_from_is_err_and c.from_residual.result c.from_residual.ensures.1 in
    rw p.1 (verifying_refused _ _ _ _ _ (ap found_answer c.in_err-index.was) p.2)

pub verify_entry-requires : goal.verify_entry-requires
verify_entry-requires c =
    found_in c.args.file.now c.requires.job _ (sym c.requires.gives ∙ ap found_answer c.in_ok-index.was)

pub returns : goal.returns
returns c = simp (ap found_answer c.in_ok-index.was) c.verify_entry.ensures
