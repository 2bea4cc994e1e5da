-- What sealer and opener leave by their number: 0 gives what was asked for, any other keeps the buffers, but 8, which clears.
use mathlib.Core.Path.{◌≡◌, refl, sym, ap, ap₂, ◌∙◌}
use mathlib.Core.Bool.{Bool, true, false}
use Prim.Native.Nat.{ℕ, zero, suc, ◌<◌}
use native.Mathlib.Nat.{not-suc-le-zero}
use native.Mathlib.Omega.{arith}
use mathlib.Core.List.{List}
use lib.ListN.{length, replicate}
use Rattle.block.specs.Bytes.{same_bytes}
use Rattle.cipher.specs.Cipher.{cipher_of}
use Rattle.mode.specs.Mode.{ciphertext, tag, text_out, tag_out}
use Rattle.status.specs.Verdicts.{refusal}
use Rattle.status.proofs.Refuse.{passed}
use Rattle.comet.specs.Answers.{Sealed, sealed_as, sealing, Opened, opened_as, opening}

-- lengths that pass for a text and its output pass for a copy of the text that is its own output
pub copy_passes : (d : Bool) (s k v a t o g : ℕ) → refusal d s k v a t o g ≡ 0 → (n : ℕ) → n ≡ t → refusal d s k v a n n g ≡ 0
copy_passes d s k v a t o g z n q =
    ap (λ (x : ℕ). refusal d s k v a x x g) q ∙ ap (λ (x : ℕ). refusal d s k v a t x g) (sym (passed d s k v a t o g z).room) ∙ z

-- ---- the sealer

as_kept : (n : ℕ) (x y o t : List ℕ) → 0 < n → ◌≡◌ {A = Sealed} (record { number = n; out = o; tag = t }) (sealed_as n x y o t)
as_kept zero x y o t h = absurd (not-suc-le-zero h)
as_kept (suc j) x y o t h = refl

module _ (s : ℕ) (k v a m o t : List ℕ) (n : ℕ) (e : n ≡ refusal false s (length k) (length v) (length a) (length m) (length o) (length t)) where
  abbrev at : ℕ → Sealed
  at j = sealed_as j (ciphertext (cipher_of s) k v a m) (tag (cipher_of s) k v a m) o t

  pub sealing-kept : 0 < n → ◌≡◌ {A = Sealed} (record { number = n; out = o; tag = t }) (sealing s k v a m o t)
  unfolding sealing
  sealing-kept h = as_kept n (ciphertext (cipher_of s) k v a m) (tag (cipher_of s) k v a m) o t h ∙ ap at e

  pub sealing-done : n ≡ 0 → (x y : List ℕ) → x ≡ ciphertext (cipher_of s) k v a m → y ≡ tag (cipher_of s) k v a m
      → ◌≡◌ {A = Sealed} (record { number = 0; out = x; tag = y }) (sealing s k v a m o t)
  unfolding sealing
  sealing-done z x y ex ey = written ∙ ap at (sym z ∙ e)
    where
      written : ◌≡◌ {A = Sealed} (record { number = 0; out = x; tag = y }) (at 0)
      written = λ i. record { number = 0; out = ex i; tag = ey i }

-- where nothing is refused, the output's old bytes do not matter: a text that is sealed in place is its own output
pub sealing-over : (s : ℕ) (k v a m o t : List ℕ) → refusal false s (length k) (length v) (length a) (length m) (length o) (length t) ≡ 0
    → sealing s k v a m m t ≡ sealing s k v a m o t
unfolding sealing
sealing-over s k v a m o t z =
    ap (λ (j : ℕ). sealed_as j (ciphertext (cipher_of s) k v a m) (tag (cipher_of s) k v a m) m t)
    (copy_passes false s (length k) (length v) (length a) (length m) (length o) (length t) z (length m) refl)
    ∙ sym (ap (λ (j : ℕ). sealed_as j (ciphertext (cipher_of s) k v a m) (tag (cipher_of s) k v a m) o t) z)

-- ---- the opener

as_was : (j : ℕ) (b : Bool) (x o : List ℕ) → 0 < j → ◌≡◌ {A = Opened} (record { number = j; out = o }) (opened_as j b x o)
as_was zero b x o h = absurd (not-suc-le-zero h)
as_was (suc j) b x o h = refl

-- what opens has the right tag
pub tag_right : (b : Bool) (text out : List ℕ) → (opened_as 0 b text out).number ≡ 0 → b ≡ true
tag_right true text out z = refl
tag_right false text out z = absurd (omega arith)

module _ (s : ℕ) (k v a c g o : List ℕ) (n : ℕ) (e : n ≡ refusal true s (length k) (length v) (length a) (length c) (length o) (length g)) where
  pub opening-kept : 0 < n → ◌≡◌ {A = Opened} (record { number = n; out = o }) (opening s k v a c g o)
  unfolding opening
  opening-kept h =
      as_was n (same_bytes (tag_out (cipher_of s) true k v a c) g) (text_out (cipher_of s) true k v a c) o h
      ∙ ap (λ (j : ℕ). opened_as j (same_bytes (tag_out (cipher_of s) true k v a c) g) (text_out (cipher_of s) true k v a c) o) e

  -- b is what the comparison gave
  pub opening-done : n ≡ 0 → (b : Bool) → b ≡ same_bytes (tag_out (cipher_of s) true k v a c) g
      → opened_as 0 b (text_out (cipher_of s) true k v a c) o ≡ opening s k v a c g o
  unfolding opening
  opening-done z b eb = ap₂ (λ (j : ℕ) (d : Bool). opened_as j d (text_out (cipher_of s) true k v a c) o) (sym z ∙ e) eb

over-same : (b : Bool) (x o o' : List ℕ) → length o ≡ length o' → opened_as 0 b x o ≡ opened_as 0 b x o'
over-same true x o o' e = refl
over-same false x o o' e = λ i. record { number = 8; out = replicate (e i) 0 }

-- as `sealing-over`
pub opening-over : (s : ℕ) (k v a c g o : List ℕ) → refusal true s (length k) (length v) (length a) (length c) (length o) (length g) ≡ 0
    → opening s k v a c g c ≡ opening s k v a c g o
unfolding opening
opening-over s k v a c g o z =
    let room : length o ≡ length c = (passed true s _ _ _ _ _ _ z).room in
    let passes = copy_passes true s (length k) (length v) (length a) (length c) (length o) (length g) z (length c) refl in
    let right : Bool = same_bytes (tag_out (cipher_of s) true k v a c) g in
    let message : List ℕ = text_out (cipher_of s) true k v a c in
    ap (λ (j : ℕ). opened_as j right message c) passes ∙ over-same right message c o (sym room) ∙ sym (ap (λ (j : ℕ). opened_as j right message o) z)
