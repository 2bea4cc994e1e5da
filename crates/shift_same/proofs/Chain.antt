-- A chain of tests, each asked only where the one before holds, is their conjunction.
use Prim.Native.Nat.{ℕ, ◌-◌}
use mathlib.Core.Path.{◌≡◌, refl, sym, ap, ◌∙◌}
use mathlib.Core.Bool.{Bool, true, false, ◌&&◌, false≢true, true≢false}
use mathlib.Core.List.{List}
use lib.Dec.{eqb}
use Rattle.block.specs.Bytes.{same_bytes}
use Rattle.shift_format.specs.declared.row.Row.{Row}
use Rattle.shift_format.specs.Part.{stretch}
use Rattle.shift_format.specs.Format.{row_size_of, row_at, nonce_at, station_of, body_end}
use Rattle.shift_same.specs.Same.{same_fields, body_of, same_entry}

pub asked : (a b v : Bool) → a ≡ true → v ≡ b → v ≡ a && b
asked a b v h e = e ∙ sym (ap (λ (x : Bool). x && b) h)

pub not-asked : (a b v : Bool) → a ≡ false → v ≡ a → v ≡ a && b
not-asked a b v h e = e ∙ h ∙ sym (ap (λ (x : Bool). x && b) h)

-- the last of four tests is asked, or it is not
last-asked : (a b c d v : Bool) → v ≡ (a && b) && c → v ≡ true → d ≡ a && (b && (c && d))
last-asked true true true d v e h = refl
last-asked true true false d v e h = absurd (false≢true (sym e ∙ h))
last-asked true false c d v e h = absurd (false≢true (sym e ∙ h))
last-asked false b c d v e h = absurd (false≢true (sym e ∙ h))

last-not-asked : (a b c d v : Bool) → v ≡ (a && b) && c → v ≡ false → v ≡ a && (b && (c && d))
last-not-asked true true true d v e h = absurd (true≢false (sym e ∙ h))
last-not-asked true true false d v e h = h
last-not-asked true false c d v e h = h
last-not-asked false b c d v e h = h

-- the four tests of an entry, as the code reads rows and sizes: the value of the first three decides whether bodies are compared
module _ (f g : List ℕ) (i j : ℕ) where
  pub asked-entry : (m n : ℕ) (x y : Row) (a v d : Bool) → m ≡ row_size_of f → n ≡ row_size_of g → x ≡ row_at m f i → y ≡ row_at n g j
      → a ≡ same_fields x y → v ≡ (a && eqb (station_of f i) (station_of g j)) && same_bytes (nonce_at m f i) (nonce_at n g j) → v ≡ true
      → d ≡ same_bytes (stretch f x.ad_at (body_end x - x.ad_at)) (stretch g y.ad_at (body_end y - y.ad_at)) → d ≡ same_entry f g i j
  unfolding same_entry
  asked-entry m n x y a v d p q r s t e h u =
      last-asked a (eqb (station_of f i) (station_of g j)) (same_bytes (nonce_at m f i) (nonce_at n g j)) d v e h ∙ simp (t, u, r, s, p, q)

  pub not-asked-entry : (m n : ℕ) (x y : Row) (a v : Bool) → m ≡ row_size_of f → n ≡ row_size_of g → x ≡ row_at m f i → y ≡ row_at n g j
      → a ≡ same_fields x y → v ≡ (a && eqb (station_of f i) (station_of g j)) && same_bytes (nonce_at m f i) (nonce_at n g j) → v ≡ false
      → v ≡ same_entry f g i j
  unfolding same_entry
  not-asked-entry m n x y a v p q r s t e h =
      last-not-asked a (eqb (station_of f i) (station_of g j)) (same_bytes (nonce_at m f i) (nonce_at n g j)) (same_bytes (body_of f i) (body_of g j)) v e h
      ∙ simp (t, r, s, p, q)
