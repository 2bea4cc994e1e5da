-- A file that has no row left leaves the other's job alone.
use native.Mathlib.Omega.{arith}
use Rattle.shift_compare.proofs.Passing.{few_rows}
use Rattle.shift_compare.proofs.Turns.{first_case, second_case}
use Rattle.shift_compare.proofs.merge.take_turn.Goals as goal

pub first_turn-requires : goal.first_turn-requires
first_turn-requires c =
    omega (arith, c.requires.1, c.rows.ensures.0, c.if-rows-j.true, few_rows c.args.first.now c.requires.0.sound.first)

pub returns-then-rows-j : goal.returns-then-rows-j
returns-then-rows-j c =
    let g = c.rows.ensures.0 in
    rw (c.first_turn.ensures, c.job_of.ensures)
    (first_case _ _ _ _ c.requires.0 (omega (arith, g, c.if-rows-j.true, c.requires.1)) (λ m. absurd (omega (arith, g, c.if-rows-j.true))))

pub returns-then-rows-i : goal.returns-then-rows-i
returns-then-rows-i c =
    rw (c.second_turn.ensures, c.job_of-then-rows-i.ensures)
    (second_case _ _ _ _ c.requires.0 (omega (arith, c.rows.ensures.0, c.if-rows-j.false))
    (λ m. absurd (omega (arith, c.rows-2.ensures.0, c.if-rows-i.true))))
