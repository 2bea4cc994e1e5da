-- `status::verdict::takes` meets its contract: what is opened is taken, what is sealed goes by the suite.
use Rattle.status.proofs.verdict.takes.Goals as goal

pub returns-then-opening : goal.returns-then-opening
returns-then-opening c = simp c.if-opening.true

pub returns : goal.returns
returns c = simp c.if-opening.false c.seals.ensures
