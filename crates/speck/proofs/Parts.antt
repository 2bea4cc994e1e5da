-- A state and a schedule are known by their words.
use mathlib.Core.Path.{◌≡◌, ap₂, ◌∙◌}
use Prim.Native.Nat.{ℕ}
use Rattle.speck.specs.Speck.{State, Schedule}

pub same-state : {x y : State} → x.x1 ≡ y.x1 → x.x0 ≡ y.x0 → x ≡ y
same-state a b = ap₂ (λ (p q : ℕ). record { x1 = p; x0 = q }) a b

pub same-schedule : {j k : Schedule} → j.r ≡ k.r → j.l0 ≡ k.l0 → j.l1 ≡ k.l1 → j.l2 ≡ k.l2 → j ≡ k
same-schedule {j} {k} a b c d =
    ap₂ (λ (p q : ℕ). record { r = p; l0 = q; l1 = j.l1; l2 = j.l2 }) a b
    ∙ ap₂ (λ (p q : ℕ). record { r = k.r; l0 = k.l0; l1 = p; l2 = q }) c d
