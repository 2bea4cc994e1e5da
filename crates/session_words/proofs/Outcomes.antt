-- One outcome for each input: the words of a session, and the session that words stand for.
use mathlib.Core.Path.{refl, sym, ◌∙◌}
use native.Mathlib.Omega.{arith}
use Rattle.block.specs.Outcome.{OneOutcome}
use Rattle.session.proofs.Outcomes.{session_told}
use Rattle.session_words.proofs.session_of.Kinds as session-of-kinds
use Rattle.session_words.proofs.session_of.Reads as session-of-reads
use Rattle.session_words.proofs.words_of.Kinds as words-of-kinds
use Rattle.session_words.proofs.words_of.Reads as words-of-reads

pub session_of : OneOutcome session-of-kinds.ps session-of-kinds.r session-of-reads.Pre session-of-reads.Post
session_of κs a h x y = (
  session_told x.result y.result (record { ya = omega arith; yb = omega arith; za = omega arith; zb = omega arith })
      (record { ya = omega arith; yb = omega arith; za = omega arith; zb = omega arith })
      (x.ensures ∙ sym y.ensures),
  refl,
)

pub words_of : OneOutcome words-of-kinds.ps words-of-kinds.r words-of-reads.Pre words-of-reads.Post
words_of κs a h x y = (x.ensures.0 ∙ sym y.ensures.0, refl)
