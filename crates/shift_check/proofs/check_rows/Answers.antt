-- The rows below i are sound, so 34 applies to none, their marks are left, and start is where the next body has to: the walk from i on gives the whole answer.
use Prim.Native.Nat.{ℕ, ◌+◌, ◌≤◌}
use mathlib.Core.Path.{◌≡◌, refl, sym, ap, ◌∙◌, subst}
use mathlib.Core.List.{List}
use native.Mathlib.Omega.{arith}
use borrow.Author.Tests.{eq-eqb, ne_eqb}
use Rattle.status.specs.Answers.{row_number_of}
use Rattle.shift_check.specs.Check.{body_start, end_answer}
use Rattle.shift_check.specs.Marks.{has, with, Sieved}
use Rattle.shift_check.proofs.Sound.{sound}
use Rattle.shift_check.proofs.Passed.{rows-bad, rows-sound, rows_end}
use Rattle.shift_check.proofs.Nonces.{spared_none, spared_more}
use Rattle.shift_check.proofs.Sieve.{Left, left_none, left_more, sieved}
use Rattle.shift_check.proofs.check_rows.Goals as goal

pub loop-i-init : goal.loop-i-init
loop-i-init c = record { rest = refl; spared = spared_none _ _; left = left_none _ _; starts = c.body_start-start.ensures }

pub check_row-requires : goal.check_row-requires
check_row-requires c =
    let t = c.args.table.now in
    let h = c.loop-i.invariant in
    let q = c.has-marked.ensures ∙ ap (has c.loop-i.seen) c.mark-hash.ensures in (
      omega arith,
      (
        h.spared,
        (
          subst (Sieved t.size t.file.now c.loop-i.i) (sym q)
              (sieved t.size t.file.now c.loop-i.i c.loop-i.seen h.left h.spared),
          h.starts,
        ),
      ),
    )

pub returns-in-Err : goal.returns-in-Err
returns-in-Err c =
    let t = c.args.table.now in
    rows-bad t.size t.file.now t.rows c.loop-i.i c.in-Err.fault (omega arith)
    (ap row_number_of (sym c.in-Err.is) ∙ c.check_row.ensures)
    ∙ sym c.loop-i.invariant.rest

pub loop-i-preserved : goal.loop-i-preserved
loop-i-preserved c =
    let t = c.args.table.now in
    let z = ap row_number_of (sym c.in-Ok.is) ∙ c.check_row.ensures in
    let h = c.loop-i.invariant in
    let q = c.put.ensures ∙ ap (with c.loop-i.seen) c.mark-hash.ensures in
    record {
      rest = h.rest ∙ rows-sound t.size t.file.now t.rows c.loop-i.i (omega arith) z;
      spared = spared_more t.size t.file.now _ h.spared (sound t.size t.file.now t.rows _ (sym z)).spare;
      left = subst (Left t.size t.file.now (c.loop-i.i + 1)) (sym q)
          (left_more t.size t.file.now c.loop-i.i c.loop-i.seen h.left);
      starts = c.body_start-start-in-loop-i.ensures;
    }

-- at the end start is where the last body ends
ended : (w : ℕ) (f : List ℕ) (n i start : ℕ) → start ≡ body_start w f n i → i ≤ n → n ≤ i → start ≡ body_start w f n n
ended w f n i start e l m = let q : i ≡ n = omega arith in rw q at e

pub returns-then-start-table : goal.returns-then-start-table
unfolding end_answer
returns-then-start-table c =
    let t = c.args.table.now in
    let e = ended t.size t.file.now t.rows c.loop-i.i c.loop-i.start c.loop-i.invariant.starts (omega arith) (omega arith) in
    rw (c.loop-i.invariant.rest, rows_end t.size t.file.now t.rows c.loop-i.i (omega arith)) (simp (← e, ne_eqb _ _ c.if-start-table.true))

pub returns : goal.returns
unfolding end_answer
returns c =
    let t = c.args.table.now in
    let e = ended t.size t.file.now t.rows c.loop-i.i c.loop-i.start c.loop-i.invariant.starts (omega arith) (omega arith) in
    rw (c.loop-i.invariant.rest, rows_end t.size t.file.now t.rows c.loop-i.i (omega arith)) (simp (← e, eq-eqb _ _ c.if-start-table.false))
