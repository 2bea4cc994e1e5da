use Rattle.std.proofs.Common.{◌+◌, ◌++◌, take, ap, ◌∙◌}
use Rattle.program_text.proofs.Pushed.{pushed}
use Rattle.program_text.proofs.print.Text.push.Goals as goal

pub returns : goal.returns
returns g c =
    pushed g.row.N c.self.inside.len _ _ c.self.inside.bytes c.args.bytes.now _ c.self.told c.self.invariant
    (ap (λ m. c.self.inside.len + m) c.min-count.ensures)
    (c.copy_from_slice.ensures.after ∙ ap (λ m. take m c.args.bytes.now) c.min-count.ensures)
    ∙ ap (λ t. take g.row.N (t ++ c.args.bytes.now)) c.self.view_is
