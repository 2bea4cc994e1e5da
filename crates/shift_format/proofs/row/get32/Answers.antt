-- The definition counts its four places one by one.
use native.Mathlib.Nat.{add_assoc}
use Rattle.shift_format.proofs.row.get32.Goals as goal

pub returns : goal.returns
returns c = simp add_assoc c.le32.ensures
