-- A row of another suite is left; a suite 4 entry goes by its tag.
use native.Mathlib.Omega.{arith}
use Rattle.shift_reseal.proofs.Lending.{wrong-four}
use Rattle.shift_reseal.proofs.rows.reseal_row.Goals as goal

pub reseal_entry-requires : goal.reseal_entry-requires
reseal_entry-requires c =
    rw (c.new-lent.ensures.0, c.new-lent.ensures.1, c.new-lent.ensures.2)
    (record { is_row = c.new-lent.ensures.3; four = omega arith; row = c.requires })

pub returns : goal.returns
returns c =
    let e = rw (c.new-lent.ensures.0, c.new-lent.ensures.1, c.new-lent.ensures.2) at c.reseal_entry.ensures in
    record {
      right = wrong-four c.args.file.now c.args.ring.now c.args.index c.new-lent.result.row c.new-lent.ensures.3 (omega arith) _ e.right;
      text = e.text;
    }
