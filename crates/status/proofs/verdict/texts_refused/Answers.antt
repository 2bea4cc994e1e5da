-- `status::verdict::texts_refused` meets its contract: each test of the code is a rung of the ladder.
use borrow.Author.Tests.{lt-ltb, le-ltb, eq-eqb, ne_eqb}
use Rattle.cipher.specs.Cipher.{limit}
use Rattle.status.proofs.verdict.texts_refused.Goals as goal

pub returns-then-ad-gt-LIMIT : goal.returns-then-ad-gt-LIMIT
returns-then-ad-gt-LIMIT c = simp (lt-ltb limit _ c.if-ad-gt-LIMIT.true)

pub returns-then-text-gt-LIMIT : goal.returns-then-text-gt-LIMIT
returns-then-text-gt-LIMIT c = simp (le-ltb limit _ c.if-ad-gt-LIMIT.false, lt-ltb limit _ c.if-text-gt-LIMIT.true)

pub returns-then-out-text : goal.returns-then-out-text
returns-then-out-text c = simp (le-ltb limit _ c.if-ad-gt-LIMIT.false, le-ltb limit _ c.if-text-gt-LIMIT.false, ne_eqb _ _ c.if-out-text.true)

pub returns-then-tag-size : goal.returns-then-tag-size
returns-then-tag-size c =
    simp (
      le-ltb limit _ c.if-ad-gt-LIMIT.false,
      le-ltb limit _ c.if-text-gt-LIMIT.false,
      eq-eqb _ _ c.if-out-text.false,
      ← c.size_of-size.ensures.is,
      ne_eqb _ _ c.if-tag-size.true,
    )

pub returns : goal.returns
returns c =
    simp (
      le-ltb limit _ c.if-ad-gt-LIMIT.false,
      le-ltb limit _ c.if-text-gt-LIMIT.false,
      eq-eqb _ _ c.if-out-text.false,
      ← c.size_of-size.ensures.is,
      eq-eqb _ _ c.if-tag-size.false,
    )
