-- The mark on two numbers of 64 bits: byte 15 is the top byte of the high half.
use mathlib.Core.Path.{◌≡◌, ap, ◌∙◌}
use Prim.Native.Nat.{ℕ, ◌+◌, ◌*◌, ◌%◌, ◌^◌, ◌<◌}
use native.Mathlib.Omega.{arith}
use mathlib.Core.List.{List, ◌++◌}
use Rattle.block.specs.Words.{xor}
use Rattle.block.specs.Bytes.{bytes}
use Rattle.block.specs.Xors.{xors}
use Rattle.block.proofs.XorLaws.{zero_r}
use Rattle.block.proofs.Bytes.{bytes-join}
use Rattle.block.proofs.Xors.{bytes-xor}
use Rattle.mode.specs.Keys.{marked}

-- the mark in the top byte of the high half
pub mark-high : (a b m : ℕ) → m < 256 → bytes 8 a ++ bytes 8 (xor b (m * 0x100_0000_0000_0000)) ≡ marked m (bytes 8 a ++ bytes 8 b)
unfolding marked bytes
mark-high a b m h =
    let e : m * 0x100_0000_0000_0000 ≡ 0 + 256 ^ 7 * m = omega arith in
    let r : m % 256 ≡ m = omega arith in
    ap (λ (l : List ℕ). bytes 8 a ++ l)
    (bytes-xor 8 b (m * 0x100_0000_0000_0000)
    ∙ ap (λ (v : ℕ). xors (bytes 8 b) (bytes 8 v)) e
    ∙ ap (xors (bytes 8 b)) (bytes-join 7 1 0 m (omega arith))
    ∙ simp (zero_r, r))
