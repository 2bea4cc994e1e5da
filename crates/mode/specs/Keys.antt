-- The marks of a call, from the lengths alone, and the block keys, from the marks: neither knows what the texts contain.
use Rattle.std.specs.Prelude.{ℕ, List, [], ◌∷◌, ◌++◌, get_or, set, take, drop, ltb, cond}
use Rattle.block.specs.Words.{xor}
use Rattle.block.specs.Bytes.{value, bytes}
use Rattle.cipher.specs.Cipher.{Version, one, two}
use Rattle.mode.specs.Words.{double, double120}
use Rattle.mode.specs.Blocks.{lengths}

-- `short` if a block of k bytes is shorter than n, else no mark
abbrev pub short_mark : ℕ → ℕ → ℕ → ℕ
short_mark n short k = cond (ltb k n) short 0

-- the marks of the blocks of a text, given their lengths: `first` for the first, `short` for a short one; both, if both apply
unfoldable pub text_marks : ℕ → ℕ → ℕ → List ℕ → List ℕ
text_marks n first short [] = []
text_marks n first short (k ∷ ks) = xor first (short_mark n short k) ∷ text_marks n 0 short ks

-- every mark one call later: a call takes `held`, the mark of the block before it; the tag's call takes it together with its own
unfoldable pub late : ℕ → List ℕ → List ℕ
late held [] = xor held 0x80 ∷ []
late held (m ∷ ms) = held ∷ late m ms

-- the mark before each cipher call after the start, the tag's last, from the marks of the blocks: version 1 marks a block's
-- own call, version 2 the next call (source 004, algorithm 7.1)
abbrev pub placed : Version → List ℕ → List ℕ
placed one ms = ms ++ (0x80 ∷ [])
placed two ms = late 0 ms

-- the marks of a record with a bytes of associated data, m of message and blocks of n bytes (document 01; source 000, section 3.6)
unfoldable pub marks : Version → ℕ → ℕ → ℕ → List ℕ
marks v n a m = placed v (text_marks n 0x08 0x10 (lengths n a) ++ text_marks n 0x20 0x40 (lengths n m))

-- Z with a mark XORed into byte 15
unfoldable pub marked : ℕ → List ℕ → List ℕ
marked m z = set z 15 (xor (get_or z 15 0) m)

-- Z with f applied to its first k bytes, taken as one number; the other bytes are kept
unfoldable pub on_low : ℕ → (ℕ → ℕ) → List ℕ → List ℕ
on_low k f z = bytes k (f (value (take k z))) ++ drop k z

-- version 1 doubles the low 64 bits of Z, version 2 the low 120
abbrev pub doubled : Version → List ℕ → List ℕ
doubled one z = on_low 8 double z
doubled two z = on_low 15 double120 z

-- the next block key: the mark, then the doubling; it is the new Z (source 000, algorithm 3, get_blk_key)
unfoldable pub next_key : Version → ℕ → List ℕ → List ℕ
next_key v m z = doubled v (marked m z)

-- the block keys: one for each mark, each computed from the one before
unfoldable pub keys : Version → List ℕ → List ℕ → List (List ℕ)
keys v z [] = []
keys v z (m ∷ ms) = next_key v m z ∷ keys v (next_key v m z) ms
