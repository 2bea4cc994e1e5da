-- Each way out is the test that led there.
use borrow.Author.Tests.{lt-ltb, le-ltb, eq-eqb, ne_eqb}
use Rattle.shift_editions.specs.Answers.{length_answer}
use Rattle.shift_editions.proofs.length_refused.Goals as goal

pub returns-then-moved-gt-MAX_FILE : goal.returns-then-moved-gt-MAX_FILE
unfolding length_answer
returns-then-moved-gt-MAX_FILE c = simp (lt-ltb _ _ c.if-moved-gt-MAX_FILE.true)

pub returns-then-out-moved : goal.returns-then-out-moved
unfolding length_answer
returns-then-out-moved c = simp (le-ltb _ _ c.if-moved-gt-MAX_FILE.false, ne_eqb _ _ c.if-out-moved.true)

pub returns : goal.returns
unfolding length_answer
returns c = simp (le-ltb _ _ c.if-moved-gt-MAX_FILE.false, eq-eqb _ _ c.if-out-moved.false)
