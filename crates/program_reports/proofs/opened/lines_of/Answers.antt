-- A row that the lookup found can be read.
use Rattle.std.proofs.Common.{sym, ap, ◌∙◌}
use Rattle.shift_lookup.specs.Answers.{found_answer}
use Rattle.shift_lookup.proofs.Lookups.{found_in}
use Rattle.program_reports.proofs.opened.lines_of.Goals as goal

pub entry_lines-requires : goal.entry_lines-requires
entry_lines-requires g c = found_in c.args.file.now c.requires.job _ (sym c.requires.gives ∙ ap found_answer c.in-Ok.is)
