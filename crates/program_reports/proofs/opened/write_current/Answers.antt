-- The lookup is one of the file that it names.
use Rattle.std.proofs.Common.{sym, ap, ◌∙◌}
use native.Mathlib.Omega.{arith}
use Rattle.shift_amend.specs.Source.{file_number}
use Rattle.shift_amend.proofs.Holding.{tells}
use Rattle.program_reports.proofs.opened.write_current.Goals as goal

pub open-requires : goal.open-requires
open-requires g c =
    record {
      job = c.args.job;
      gives = (tells _ _ _ _ _ c.look_up-looked.ensures).amendment (ap file_number c.in-Amendment.is);
    }

pub open-requires-in-Day : goal.open-requires-in-Day
open-requires-in-Day g c =
    record {
      job = c.args.job;
      gives = (tells _ _ _ _ _ c.look_up-looked.ensures).day (λ z. let e = sym (ap file_number c.in-Day.is) ∙ z in omega arith);
    }

pub open-requires-in-Neither : goal.open-requires-in-Neither
open-requires-in-Neither g c =
    record {
      job = c.args.job;
      gives = (tells _ _ _ _ _ c.look_up-looked.ensures).day (λ z. let e = sym (ap file_number c.in-Neither.is) ∙ z in omega arith);
    }
