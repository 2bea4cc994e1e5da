-- What holds of both sizes, where n is the number of round keys: each fact is shown at either.
use Rattle.std.proofs.Common.{◌≡◌, ℕ, ◌+◌, ◌*◌, ◌/◌, ◌%◌, ◌^◌, ◌<◌, ◌≤◌, List, refl, ap, sym, subst, inl, inr, arith, zero, suc, map, replicate, ◌∷◌}
use Rattle.block.specs.Words.{xor}
use Rattle.cham_spec.proofs.Keys.{place_lt}
use Rattle.cham.specs.Sizes.{Sized}

by_size : (P : ℕ → ℕ → Type 0) {w n : ℕ} → P 16 16 → P 32 8 → Sized w n → P w n
by_size P {w} {n} p q (inl s) = subst (P w) (sym s.1) (subst (λ (v : ℕ). P v 16) (sym s.0) p)
by_size P {w} {n} p q (inr s) = subst (P w) (sym s.1) (subst (λ (v : ℕ). P v 8) (sym s.0) q)

module _ {w n : ℕ} (s : Sized w n) where
  pub many : n ≡ 2 * 128 / w
  many = by_size (λ w n. n ≡ 2 * 128 / w) refl refl s

  pub half : n / 2 ≡ 128 / w
  half = by_size (λ w n. n / 2 ≡ 128 / w) refl refl s

  pub place_fits : (i : ℕ) → i < n / 2 → xor (i + n / 2) 1 < n
  place_fits i = by_size (λ w n. i < n / 2 → xor (i + n / 2) 1 < n) (place_lt 3 i) (place_lt 2 i) s

  -- four rounds on from round i, which is the first of its turn around the keys
  pub at_place : (i j : ℕ) → i % n ≡ 0 → j < n / 4 → (i + 4 * j) % (2 * 128 / w) ≡ 4 * j
  at_place i j = by_size (λ w n. i % n ≡ 0 → j < n / 4 → (i + 4 * j) % (2 * 128 / w) ≡ 4 * j) (λ e h. omega arith) (λ e h. omega arith) s

  pub at_fits : (j : ℕ) → j < n / 4 → 4 * j + 3 < 2 * 128 / w
  at_fits j = by_size (λ w n. j < n / 4 → 4 * j + 3 < 2 * 128 / w) (λ h. omega arith) (λ h. omega arith) s

  -- the turns around the keys
  pub even : (p : ℕ) → p * n % 2 ≡ 0
  even p = by_size (λ w n. p * n % 2 ≡ 0) (omega arith) (omega arith) s

  pub first : (p : ℕ) → p * n % n ≡ 0
  first p = by_size (λ w n. p * n % n ≡ 0) (omega arith) (omega arith) s

  pub turn_fits : (p : ℕ) → p < 80 / n → p * n + n ≤ 80
  turn_fits p = by_size (λ w n. p < 80 / n → p * n + n ≤ 80) (λ h. omega arith) (λ h. omega arith) s

  pub next_turn : (p : ℕ) → (p + 1) * n ≡ p * n + n
  next_turn p = by_size (λ w n. (p + 1) * n ≡ p * n + n) (omega arith) (omega arith) s

  pub all_turns : (p : ℕ) → p ≡ 80 / n → p * n ≡ 80
  all_turns p = by_size (λ w n. p ≡ 80 / n → p * n ≡ 80) (λ h. omega arith) (λ h. omega arith) s

pub map-replicate : {A : Type 0} (f : A → ℕ) (n : ℕ) (x : A) → map f (replicate n x) ≡ replicate n (f x)
map-replicate f zero x = refl
map-replicate f (suc n) x = ap (λ (l : List ℕ). f x ∷ l) (map-replicate f n x)
