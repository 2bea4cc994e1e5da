-- Addition modulo 2 ^ w is one to one: what was added can be taken off again.
use mathlib.Core.Path.{◌≡◌, sym, ap, ◌∙◌}
use Prim.Native.Nat.{ℕ, zero, suc, ◌+◌, ◌-◌, ◌*◌, ◌/◌, ◌%◌, ◌^◌, ◌<◌}
use native.Mathlib.Nat.{mod-lt, mod-add-mod, add-mul-mod_self_right, mod-eq_of_lt, div-add-mod', suc-mul}
use native.Mathlib.Omega.{arith}
use lib.Pow.{pow_pos}
use Rattle.block.specs.Words.{add}

pub add_lt : (w x y : ℕ) → add w x y < 2 ^ w
add_lt w x y = mod-lt (x + y) (pow_pos w)

-- what undoes adding z
unadd : (m x z : ℕ) → zero < m → x < m → ((x + z) % m + (m - z % m)) % m ≡ x
unadd m x z hm hx =
    let r : z % m < m = mod-lt z hm in
    let d : z / m * m + z % m ≡ z = div-add-mod' z m in
    let s : suc (z / m) * m ≡ z / m * m + m = suc-mul (z / m) m in
    let e : (x + z) + (m - z % m) ≡ x + suc (z / m) * m = omega arith in
    mod-add-mod (x + z) m (m - z % m)
    ∙ ap (λ (n : ℕ). n % m) e
    ∙ add-mul-mod_self_right x (suc (z / m)) m
    ∙ mod-eq_of_lt hx

pub add_cancel_r : (w z : ℕ) {x y : ℕ} → x < 2 ^ w → y < 2 ^ w → add w x z ≡ add w y z → x ≡ y
add_cancel_r w z {x} {y} hx hy e =
    sym (unadd (2 ^ w) x z (pow_pos w) hx)
    ∙ ap (λ (n : ℕ). (n + (2 ^ w - z % 2 ^ w)) % 2 ^ w) e
    ∙ unadd (2 ^ w) y z (pow_pos w) hy
