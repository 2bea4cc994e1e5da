-- The table by row number: where the header's ladder gives a status, that is the answer's; past the rows it is 32, which the ladder does not give.
use mathlib.Core.Path.{◌≡◌, refl, sym, ap, ◌∙◌}
use mathlib.Core.Logic.{◌↔◌}
use mathlib.Core.Bool.{Bool, true, false}
use Prim.Native.Nat.{ℕ, ◌<◌}
use native.Mathlib.Omega.{arith}
use mathlib.Core.List.{List}
use lib.Dec.{eqb, ltb}
use borrow.Author.Tests.{eqb-true, eqb-false, ltb-true, ltb-false}
use Rattle.shift_format.specs.Format.{count_of, first_edition, newest}
use Rattle.shift_reader.specs.Contents.{RowFields, HeaderFields, head_status, no_header, header_answer, no_fields, row_answer}
use Rattle.shift_reader.proofs.ByRow.{header-goes, header-stops, row_goes, row-past, row-stops}
use Rattle.promises.specs.Tables.{None}
use Rattle.promises.specs.Numbers.{head_table}
use Rattle.promises.specs.Cases.{ContentsCases}
use Rattle.promises.proofs.Tables.{tells_lt, not_told, ladder, By, not-given, lines}
use Rattle.promises.proofs.Checks.{head_rungs, head_is, none-head}

abbrev header_status : HeaderFields → ℕ
header_status x = x.status

abbrev row_status : RowFields → ℕ
row_status x = x.status

module _ (f : List ℕ) where
  abbrev H : ℕ
  H = head_status f

  abbrev is : H ≡ ladder Unit (head_table first_edition newest f) (head_rungs first_edition newest f)
  is = head_is first_edition newest f

  header-by : (k : ℕ) → (k ≡ 0 → ⊥) → By (λ j. header_answer f ≡ no_header j) Unit
      (ladder Unit (head_table first_edition newest f) (head_rungs first_edition newest f)) k
  header-by k n0 = (λ e. (tt, sym is ∙ on (eqb H 0) refl e), λ y. let h : H ≡ k = is ∙ y.1 in header-stops f (λ z. n0 (sym h ∙ z)) ∙ ap no_header h)
    where
      on : (b : Bool) → eqb H 0 ≡ b → header_answer f ≡ no_header k → H ≡ k
      on true t e = absurd (n0 (sym (ap header_status (sym (header-goes f (eqb-true H 0 t)) ∙ e))))
      on false t e = ap header_status (sym (header-stops f (eqb-false H 0 t)) ∙ e)

  module _ (i : ℕ) where
    -- after a sound header the status is 0 or 32
    late : (k : ℕ) → (k ≡ 0 → ⊥) → (k ≡ 32 → ⊥) → H ≡ 0 → (b : Bool) → ltb i (count_of f) ≡ b → row_answer f i ≡ no_fields k → ⊥
    late k n0 n32 z true l e = n0 (sym (ap row_status (sym (row_goes f i z (ltb-true _ _ l)) ∙ e)))
    late k n0 n32 z false l e = n32 (sym (ap row_status (sym (row-past f i z (ltb-false _ _ l)) ∙ e)))

    row_by : (k : ℕ) → (k ≡ 0 → ⊥) → (k ≡ 32 → ⊥) → By (λ j. row_answer f i ≡ no_fields j) Unit
        (ladder Unit (head_table first_edition newest f) (head_rungs first_edition newest f)) k
    row_by k n0 n32 = (λ e. (tt, sym is ∙ on (eqb H 0) refl e), λ y. let h : H ≡ k = is ∙ y.1 in row-stops f i (λ z. n0 (sym h ∙ z)) ∙ ap no_fields h)
      where
        on : (b : Bool) → eqb H 0 ≡ b → row_answer f i ≡ no_fields k → H ≡ k
        on true t e = absurd (late k n0 n32 (eqb-true H 0 t) (ltb i (count_of f)) refl e)
        on false t e = ap row_status (sym (row-stops f i (eqb-false H 0 t)) ∙ e)

    -- 32 exactly past the rows of a sound header
    no_row : (row_answer f i ≡ no_fields 32) ↔ (None (head_table first_edition newest f) × (i < count_of f → ⊥))
    no_row =
        (λ e. on (eqb H 0) refl e, λ y. row-past f i ((none-head first_edition newest f).1 y.0) (ltb-false _ _ (not_told (tells_lt i (count_of f)) y.1)))
      where
        on : (b : Bool) → eqb H 0 ≡ b → row_answer f i ≡ no_fields 32 → None (head_table first_edition newest f) × (i < count_of f → ⊥)
        on true t e =
            let z = eqb-true H 0 t in
            ((none-head first_edition newest f).0 z, λ l. let q : ◌≡◌ {A = ℕ} 0 32 = ap row_status (sym (row_goes f i z l) ∙ e) in omega (arith, q))
        on false t e =
            absurd (not-given 32 Unit (head_table first_edition newest f) (head_rungs first_edition newest f) refl
            (sym is ∙ ap row_status (sym (row-stops f i (eqb-false H 0 t)) ∙ e)))

    pub contents-cases : ContentsCases f i
    contents-cases = record {
      no-header = lines (λ k. header_answer f ≡ no_header k) Unit (head_table first_edition newest f) (head_rungs first_edition newest f) refl (
        header-by 20 (λ e. omega arith),
        (
          header-by 21 (λ e. omega arith),
          (header-by 22 (λ e. omega arith), (header-by 23 (λ e. omega arith), (header-by 24 (λ e. omega arith), tt))),
        ),
      );
      header = λ h. header-goes f ((none-head first_edition newest f).1 h);
      no_table = lines (λ k. row_answer f i ≡ no_fields k) Unit (head_table first_edition newest f) (head_rungs first_edition newest f) refl (
        row_by 20 (λ e. omega arith) (λ e. omega arith),
        (
          row_by 21 (λ e. omega arith) (λ e. omega arith),
          (
            row_by 22 (λ e. omega arith) (λ e. omega arith),
            (
              row_by 23 (λ e. omega arith) (λ e. omega arith),
              (row_by 24 (λ e. omega arith) (λ e. omega arith), tt),
            ),
          ),
        ),
      );
      no_row = (no_row, tt);
      row = λ h l. row_goes f i ((none-head first_edition newest f).1 h) l;
    }
