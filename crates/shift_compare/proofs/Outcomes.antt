-- One outcome for each input: number, file, row and counts are those of one case, and every place of the three lists is fixed.
use mathlib.Core.Path.{◌≡◌, refl, sym, ap, ◌∙◌}
use mathlib.Core.Bool.{cond}
use mathlib.Core.Logic.{inr}
use lib.Dec.{eqb, lit<}
use borrow.Author.Tests.{ne_eqb}
use Rattle.block.specs.Outcome.{OneOutcome}
use Rattle.std.specs.Prelude.{Result, Ok, Err}
use Rattle.status.specs.declared.checked.Refusal.{Refusal}
use Rattle.status.specs.Answers.{answer}
use Rattle.status.proofs.Numbers.{refusal-some}
use Rattle.status.proofs.Outcomes.{refusal_of, refusal_back, unlike}
use Rattle.shift_compare.specs.declared.Finding.{Finding}
use Rattle.shift_compare.specs.declared.Counts.{Counts}
use Rattle.shift_compare.specs.declared.CompareError.{CompareError}
use Rattle.shift_compare.specs.declared.CompareError.TheVariants.{First, Second, Room}
use Rattle.shift_compare.specs.Comparing.{finding_of, Comparison}
use Rattle.shift_compare.proofs.compare.Kinds as compare-kinds
use Rattle.shift_compare.proofs.compare.Reads as compare-reads
use Rattle.shift_compare.proofs.said.Kinds as said-kinds
use Rattle.shift_compare.proofs.said.Reads as said-reads

-- the case from what it says
abbrev compared_of : Finding → Result Counts CompareError
compared_of t =
    cond (eqb t.number 0) (Ok (record { first = t.first; second = t.second; differ = t.differ }))
    (Err
    (cond (eqb t.number 36) Room
    (cond (eqb t.file 1) (First (refusal_of (answer t.number t.row))) (Second (refusal_of (answer t.number t.row))))))

compared_back : (x : Result Counts CompareError) → compared_of (finding_of x) ≡ x
compared_back (Ok n) = refl
compared_back (Err (First x)) =
    simp (ne_eqb _ _ (refusal-some x), unlike x 36 (inr (lit< tt)) refl) (ap (λ (r : Refusal). Err (First r)) (refusal_back x))
compared_back (Err (Second x)) =
    simp (ne_eqb _ _ (refusal-some x), unlike x 36 (inr (lit< tt)) refl) (ap (λ (r : Refusal). Err (Second r)) (refusal_back x))
compared_back (Err Room) = refl

pub compare : OneOutcome compare-kinds.ps compare-kinds.r compare-reads.Pre compare-reads.Post
compare κs a h x y =
    let e = x.ensures ∙ sym y.ensures in (
      sym (compared_back x.result) ∙ ap (λ (z : Comparison). compared_of z.finding) e ∙ compared_back y.result,
      ap (λ (z : Comparison). (tt, (tt, (z.first, (z.second, (z.differ, tt)))))) e,
    )

pub said : OneOutcome said-kinds.ps said-kinds.r said-reads.Pre said-reads.Post
said κs a h x y = (x.ensures ∙ sym y.ensures, refl)
