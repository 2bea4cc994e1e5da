-- A part of a file, its place written another way; and two parts side by side.
use Prim.Native.Nat.{ℕ, ◌+◌}
use mathlib.Core.Path.{◌≡◌, sym, ap, ap₂, ◌∙◌}
use mathlib.Core.List.{List, ◌++◌}
use lib.ListN.{take, drop}
use lib.Seq.{take-add, drop-drop}
use denote.Ref.{Bor}
use Rattle.shift_format.specs.Part.{stretch, PartOf}

pub part_at : {s r : Bor (List ℕ)} {at len at' len' : ℕ} → PartOf s r at len → at ≡ at' → len ≡ len' → PartOf s r at' len'
part_at {s} p q l = record { bytes = p.bytes ∙ ap₂ (stretch s.now) q l; place = p.place ∙ ap (λ (k : ℕ). (s.ref_ptr.0, k + s.ref_ptr.1)) q }

pub join : (f : List ℕ) (p a b : ℕ) → stretch f p a ++ stretch f (p + a) b ≡ stretch f p (a + b)
join f p a b = ap (λ (x : List ℕ). stretch f p a ++ take b x) (sym (drop-drop a p f)) ∙ sym (take-add a b (drop p f))
