-- A block of sixteen bytes as two 64-bit words, and shorter strings padded with zeros to one.
use Rattle.std.specs.Prelude.{List, ◌++◌, ℕ, ◌-◌, length, replicate}
use Rattle.block.specs.Bytes.{bytes}
use Rattle.block.specs.declared.Block.{Block}

-- its sixteen bytes
abbrev pub wide : Block → List ℕ
wide x = bytes 8 x.a ++ bytes 8 x.b

-- padded with zero bytes to sixteen
abbrev pub filled : List ℕ → List ℕ
filled s = s ++ replicate (16 - length s) 0
