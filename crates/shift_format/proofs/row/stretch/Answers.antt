-- The part from a place on has the length that is checked.
use mathlib.Core.Path.{refl}
use native.Mathlib.Nat.{add-sub_cancel_left}
use Rattle.shift_format.proofs.Rows.{stretch-length}
use Rattle.shift_format.proofs.row.stretch.Goals as goal

pub returns : goal.returns
returns c =
    (record { bytes = simp add-sub_cancel_left; place = refl }, simp add-sub_cancel_left (stretch-length c.args.file.now c.args.at c.args.len c.requires))
