-- Words of w bits are natural numbers below 2 ^ w: rotation, addition modulo 2 ^ w, exclusive or.
use Rattle.std.specs.Prelude.{ℕ, ◌+◌, ◌-◌, ◌*◌, ◌/◌, ◌%◌, ◌^◌}
use Rattle.std.specs.Int.Bits.{bit_xor}

-- x rotated left by k, for k ≤ w: the low w - k bits move up by k, the k high bits come in below
abbrev pub rotl : ℕ → ℕ → ℕ → ℕ
rotl w k x = (x * 2 ^ k) % 2 ^ w + x / 2 ^ (w - k)

-- x rotated right by k, for k ≤ w
abbrev pub rotr : ℕ → ℕ → ℕ → ℕ
rotr w k x = rotl w (w - k) x

-- the sum modulo 2 ^ w
abbrev pub add : ℕ → ℕ → ℕ → ℕ
add w x y = (x + y) % 2 ^ w

-- exclusive or
unfoldable pub xor : ℕ → ℕ → ℕ
xor x y = bit_xor x y
