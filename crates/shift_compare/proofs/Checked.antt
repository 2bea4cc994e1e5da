-- A check whose refusal is told of a file: it passed, or it refused and that is the error.
use Prim.Native.Nat.{ℕ}
use mathlib.Core.Path.{◌≡◌, refl, sym, ap, subst, ◌∙◌}
use mathlib.Core.Bool.{true≢false}
use Rattle.std.specs.Prelude.{Result, Ok, Err, MatchResult, IsErrAnd, is_ok}
use Rattle.status.specs.declared.checked.Answer.{Answer}
use Rattle.status.specs.declared.checked.Refusal.{Refusal}
use Rattle.status.specs.Answers.{checked_answer}
use Rattle.shift_compare.specs.declared.CompareError.{CompareError}

abbrev number : Answer → ℕ
number a = a.number

pub file_passed : (x : Result Unit Refusal) (y : Result Unit CompareError) (a : Answer) {u : Unit} → is_ok y ≡ is_ok x → y ≡ Ok u → checked_answer x ≡ a
    → a.number ≡ 0
file_passed (Ok x) y a v q t = sym (ap number t)
file_passed (Err e) y a v q t = absurd (true≢false (sym (ap is_ok q) ∙ v))

pub file_refused : (x : Result Unit Refusal) (y : Result Unit CompareError) (k : CompareError) (P : Refusal → CompareError → Type 0)
    → MatchResult x (λ u. y ≡ Ok u) (λ e. IsErrAnd y (P e)) → y ≡ Err k → (r : Refusal) × (x ≡ Err r) × P r k
file_refused (Ok u) y k P h q = absurd (true≢false (ap is_ok (sym h ∙ q)))
file_refused (Err e) y k P h q = (e, refl, subst (λ (z : Result Unit CompareError). IsErrAnd z (P e)) q h)
