-- The opening of what the lookup found.
use mathlib.Core.Path.{ap, ◌∙◌}
use Rattle.status.specs.declared.checked.Answer.{Answer}
use Rattle.shift_jobs.specs.Opening.{found_opening, job_opening}
use Rattle.shift_jobs.proofs.open_job.Goals as goal

pub returns : goal.returns
unfolding job_opening
returns c =
    c.open_found.ensures ∙ ap (λ (x : Answer). found_opening c.args.file.now c.args.ring.now x c.args.out.now) c.lookup.ensures
