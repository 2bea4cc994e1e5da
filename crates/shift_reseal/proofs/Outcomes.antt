-- One outcome for each input: the contract is one equation over answer and output.
use mathlib.Core.Path.{sym, ap, ◌∙◌}
use Rattle.block.specs.Outcome.{OneOutcome}
use Rattle.shift_draft.specs.Answers.{FileWritten}
use Rattle.shift_writer.proofs.Outcomes.{written_one}
use Rattle.shift_reseal.proofs.reseal.Kinds as reseal-kinds
use Rattle.shift_reseal.proofs.reseal.Reads as reseal-reads

pub reseal : OneOutcome reseal-kinds.ps reseal-kinds.r reseal-reads.Pre reseal-reads.Post
reseal κs a h x y =
    let e = x.ensures ∙ sym y.ensures in
    (written_one (ap (λ (z : FileWritten). z.answer) e), ap (λ (z : FileWritten). (tt, (tt, (z.out, tt)))) e)
