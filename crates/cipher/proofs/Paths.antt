-- From an engine's promise to the suite's: the image comes first, and zeros fill the block of sixteen bytes.
use mathlib.Core.Path.{◌≡◌, sym, ap, ap₂, ◌∙◌}
use mathlib.Core.List.{List, ◌++◌, append-nil}
use Prim.Native.Nat.{ℕ, ◌-◌, ◌≤◌}
use native.Mathlib.Omega.{arith}
use lib.ListN.{length, take, drop, replicate, length-append, length-replicate}
use lib.Seq.{take_all, take_at, drop_at}
use Rattle.cipher.specs.Cipher.{size_of, engine_of}
use Rattle.cipher.proofs.Suites.{Engine}

-- ---- an engine on bytes, between blocks

pub through_whole : (e : Engine) {r x k k' b b' : List ℕ} → r ≡ x → x ≡ e k b → k ≡ k' → b ≡ b' → r ≡ e k' b'
through_whole e p q h i = p ∙ q ∙ ap₂ e h i

-- ---- what the suite promises of it

module _ (s : ℕ) (k b r : List ℕ) (lr : length r ≡ 16) where
  filled : (n : ℕ) → n ≤ 16 → size_of s ≡ n → r ≡ engine_of s k (take n b) ++ replicate (16 - n) 0
      → (take (size_of s) r ≡ engine_of s k (take (size_of s) b)) × (drop (size_of s) r ≡ replicate (16 - size_of s) 0)
  filled n h z q =
      let x : List ℕ = engine_of s k (take n b) in
      let rest : List ℕ = replicate (16 - n) 0 in
      let l : length x ≡ n = omega (arith, ap length q, length-append x rest, length-replicate {A = ℕ} (16 - n) 0) in (
        ap₂ take z q ∙ take_at x rest n l ∙ sym (ap (λ (m : ℕ). engine_of s k (take m b)) z),
        ap₂ drop z q ∙ drop_at x rest n l ∙ sym (ap (λ (m : ℕ). replicate (16 - m) 0) z),
      )

  pub whole : size_of s ≡ 16 → length b ≡ 16 → r ≡ engine_of s k b
      → (take (size_of s) r ≡ engine_of s k (take (size_of s) b)) × (drop (size_of s) r ≡ replicate (16 - size_of s) 0)
  whole z lb q = filled 16 (omega arith) z (q ∙ ap (engine_of s k) (sym (take_all 16 b (omega arith))) ∙ sym (append-nil (engine_of s k (take 16 b))))

  pub half : size_of s ≡ 8 → r ≡ engine_of s k (take 8 b) ++ replicate 8 0
      → (take (size_of s) r ≡ engine_of s k (take (size_of s) b)) × (drop (size_of s) r ≡ replicate (16 - size_of s) 0)
  half z q = filled 8 (omega arith) z q
