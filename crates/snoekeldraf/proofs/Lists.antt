-- A shift file has at most 512 rows, so the row and the three counts of a comparison are at most 512 and fit C's numbers.
use Prim.Native.Nat.{ℕ, ◌≤◌}
use mathlib.Core.Path.{◌≡◌, refl, sym, ap, subst, ◌∙◌}
use mathlib.Core.Bool.{Bool, true, false, cond}
use mathlib.Core.List.{List}
use lib.Dec.{lit≤}
use borrow.Author.Tests.{eqb-true, not-false}
use Rattle.shift_format.specs.Format.{first_edition, newest}
use Rattle.status.specs.Answers.{answer}
use Rattle.shift_check.specs.Check.{check_file, refused}
use Rattle.shift_compare.specs.declared.Finding.{Finding}
use Rattle.shift_compare.specs.Comparing.{refused_in, Comparison, stopped, too_long_of, listed, comparison}
use Rattle.shift_compare.proofs.Passing.{only_few, differ_few}
use Rattle.snoekeldraf.proofs.Rows.{check_row}

pub record Low (t : Finding) : Type 0 where
  pub row : t.row ≤ 512
  pub first : t.first ≤ 512
  pub second : t.second ≤ 512
  pub differ : t.differ ≤ 512

pub finding-low : (f g x y z : List ℕ) → Low (comparison f g x y z).finding
unfolding comparison
finding-low f g x y z = on (refused f) (refused g) (too_long_of f g x y z) refl refl
  where
    on : (a b c : Bool) → refused f ≡ a → refused g ≡ b
        → Low (cond a (stopped (refused_in 1 (check_file f)) x y z) (cond b (stopped (refused_in 2 (check_file g)) x y z)
        (cond c (stopped (refused_in 0 (answer 36 0)) x y z) (listed f g x y z)))).finding
    on true b c p q = record { row = check_row first_edition newest f; first = lit≤ tt; second = lit≤ tt; differ = lit≤ tt }
    on false true c p q = record { row = check_row first_edition newest g; first = lit≤ tt; second = lit≤ tt; differ = lit≤ tt }
    on false false true p q = record { row = lit≤ tt; first = lit≤ tt; second = lit≤ tt; differ = lit≤ tt }
    on false false false p q =
        let a = eqb-true _ _ (not-false _ p) in
        let b = eqb-true _ _ (not-false _ q) in
        record { row = lit≤ tt; first = only_few f g a; second = only_few g f b; differ = differ_few f g a }

-- what a comparison says
pub counted : (t : Finding) (r : Comparison) (f g x y z : List ℕ) → t ≡ r.finding → r ≡ comparison f g x y z → Low t
counted t r f g x y z p q = subst Low (sym (p ∙ ap (λ (w : Comparison). w.finding) q)) (finding-low f g x y z)
