-- Parts of a file: the bytes from an offset on, and a part that a routine returns.
use Rattle.std.specs.Prelude.{ℕ, ◌+◌, ◌≡◌, List, take, drop}
use Rattle.std.specs.Borrow.{Bor}

-- the len bytes from `at`
abbrev pub stretch : List ℕ → ℕ → ℕ → List ℕ
stretch f at len = take len (drop at f)

-- r is the part of s that starts at `at` and is len bytes long: its bytes, and where they lie
pub record PartOf (s r : Bor (List ℕ)) (at len : ℕ) : Type 0 where
  pub bytes : r.now ≡ stretch s.now at len
  pub place : r.ref_ptr ≡ (s.ref_ptr.0, at + s.ref_ptr.1)
