-- Opening answers with a row of the file, which fits, so what it says passes whole beside the output.
use Prim.Native.Nat.{◌≤◌}
use mathlib.Core.Path.{sym, ap, subst, ◌∙◌}
use Rattle.status.specs.declared.checked.Answer.{Answer}
use Rattle.shift_jobs.specs.Opening.{JobOpened}
use Rattle.snoekeldraf.proofs.Rows.{job-row}
use Rattle.snoekeldraf.proofs.file.shift_open_job.Goals as goal

pub say-requires : goal.say-requires
say-requires c =
    let e = c.answered.ensures ∙ ap (λ (w : JobOpened). w.answer) c.open_job.ensures in
    subst (λ (w : Answer). w.row ≤ 512) (sym e) (job-row _ _ _ _)

pub returns : goal.returns
returns c = rw (c.say.ensures ∙ c.answered.ensures) c.open_job.ensures
