-- The test of what the lookup found.
use mathlib.Core.Path.{ap, ◌∙◌}
use Rattle.status.specs.declared.checked.Answer.{Answer}
use Rattle.shift_jobs.specs.Genuine.{found_verifying, job_verifying}
use Rattle.shift_jobs.proofs.verified.Goals as goal

pub returns : goal.returns
unfolding job_verifying
returns c =
    c.verify_found.ensures ∙ ap (λ (x : Answer). found_verifying c.args.file.now c.args.ring.now x) c.lookup.ensures
