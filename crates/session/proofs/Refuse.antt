-- An answer by its number: on 0 it is the result; on any other number session and buffers are unchanged.
use mathlib.Core.Path.{◌≡◌, refl, sym, ap, ◌∙◌}
use Prim.Native.Nat.{ℕ, zero, suc}
use mathlib.Core.List.{List}
use Rattle.session.specs.Value.{Value, Given, answered, gave}

-- k is the number
pub answer-kept : (k j : ℕ) (done : Given) (v : Value) (out tag : List ℕ) → (k ≡ 0 → ⊥) → k ≡ j → gave k 0 v out tag ≡ answered j done v out tag
answer-kept zero j done v out tag h e = absurd (h refl)
answer-kept (suc k) j done v out tag h e = ap (λ (i : ℕ). answered i done v out tag) e

pub answer-done : (k j : ℕ) (done : Given) (v : Value) (out tag : List ℕ) → k ≡ 0 → k ≡ j → done ≡ answered j done v out tag
answer-done k j done v out tag z e = ap (λ (i : ℕ). answered i done v out tag) (sym z ∙ e)
