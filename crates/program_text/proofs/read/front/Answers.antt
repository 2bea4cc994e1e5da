use Rattle.std.proofs.Common.{refl, ap, take, ◌∙◌}
use Rattle.std.proofs.lemmas.List.{take_min}
use Rattle.program_text.proofs.read.front.Goals as goal

pub returns : goal.returns
returns c = (ap (λ n. take n c.args.buf.now) c.min.ensures ∙ take_min c.args.len c.args.buf.now, refl)
