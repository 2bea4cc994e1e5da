-- The two sizes of CHAM with a key of 128 bits.
use Rattle.std.specs.Prelude.{◌≡◌, ℕ, ◌⊎◌}

-- bits of a word, and how many round keys there are
abbrev pub Sized : ℕ → ℕ → Type 0
Sized w n = ((w ≡ 16) × (n ≡ 16)) ⊎ ((w ≡ 32) × (n ≡ 8))
