-- Padding and shuffle make blocks of blocks, and padding keeps what it pads apart.
use mathlib.Core.Path.{◌≡◌, refl, sym, ap, ◌∙◌, subst}
use mathlib.Core.Logic.{◌⊎◌, inl, inr}
use Prim.Native.Nat.{ℕ, suc, ◌+◌, ◌-◌, ◌*◌, ◌/◌, ◌≤◌, ◌<◌}
use native.Mathlib.Omega.{arith}
use native.Mathlib.Decide.{dec_le}
use mathlib.Core.Bool.{Bool, cond}
use mathlib.Core.List.{List, ◌∷◌, ◌++◌}
use lib.ListN.{length, take, replicate, length-append, length-replicate}
use lib.Seq.{take_at, take_all}
use borrow.Author.Tests.{lt-ltb, le-ltb}
use Rattle.block.specs.Bytes.{AllBytes, bytes}
use Rattle.block.proofs.Lists.{all_append, all_cons, all_replicate}
use Rattle.block.proofs.Bytes.{length-bytes, all_bytes}
use Rattle.cipher.specs.Cipher.{Block}
use Rattle.mode.specs.Words.{Four, bytes_of, four_of, shuffle_words, shuffle, pad}

-- ---- padding

pub pad_short : (n : ℕ) (b : List ℕ) → length b < n → pad n b ≡ b ++ (1 ∷ replicate (n - suc (length b)) 0)
unfolding pad
pad_short n b h = ap (λ (t : Bool). cond t (b ++ (1 ∷ replicate (n - suc (length b)) 0)) b) (lt-ltb (length b) n h)

pub pad_full : (n : ℕ) (b : List ℕ) → length b ≡ n → pad n b ≡ b
unfolding pad
pad_full n b e = ap (λ (t : Bool). cond t (b ++ (1 ∷ replicate (n - suc (length b)) 0)) b) (le-ltb (length b) n (omega arith))

pub pad_block : (n : ℕ) (b : List ℕ) → length b ≤ n → AllBytes b → Block n (pad n b)
pad_block n b h hb =
    elim (dec_le n (length b)) [
      | yes g ↦ let e : length b ≡ n = omega arith in
          subst (Block n) (sym (pad_full n b e)) (record { long = e; bytes = hb })
      | no g ↦
          let z : List ℕ = replicate (n - suc (length b)) 0 in
          let lz : length z ≡ n - suc (length b) = length-replicate {A = ℕ} (n - suc (length b)) 0 in
          subst (Block n) (sym (pad_short n b (omega arith)))
          (record {
            long = length-append b (1 ∷ z) ∙ omega arith;
            bytes = all_append b (1 ∷ z) hb (all_cons 1 z (omega arith) (all_replicate (n - suc (length b)) 0 (omega arith)));
          })
    ]

-- the block stands at the front of its padding
pub pad-front : (n : ℕ) (b : List ℕ) → length b ≤ n → take (length b) (pad n b) ≡ b
pad-front n b h =
    elim (dec_le n (length b)) [
      | yes g ↦ ap (take (length b)) (pad_full n b (omega arith)) ∙ take_all (length b) b (omega arith)
      | no g ↦ ap (take (length b)) (pad_short n b (omega arith)) ∙ take_at b _ (length b) refl
    ]

-- ---- the shuffle

four_long : (w : ℕ) (x : Four) → length (bytes_of w x) ≡ (w + w) + (w + w)
four_long w x =
    let p : List ℕ = bytes w x.X0 in
    let q : List ℕ = bytes w x.X1 in
    let r : List ℕ = bytes w x.X2 in
    let s : List ℕ = bytes w x.X3 in
    length-append (p ++ q) (r ++ s)
    ∙ omega (arith, length-append p q, length-append r s, length-bytes w x.X0, length-bytes w x.X1, length-bytes w x.X2, length-bytes w x.X3)

four_bytes : (w : ℕ) (x : Four) → AllBytes (bytes_of w x)
four_bytes w x =
    all_append (bytes w x.X0 ++ bytes w x.X1) (bytes w x.X2 ++ bytes w x.X3)
    (all_append (bytes w x.X0) (bytes w x.X1) (all_bytes w x.X0) (all_bytes w x.X1))
    (all_append (bytes w x.X2) (bytes w x.X3) (all_bytes w x.X2) (all_bytes w x.X3))

pub four_times : (n : ℕ) → (n ≡ 16) ⊎ (n ≡ 8) → (n / 4 + n / 4) + (n / 4 + n / 4) ≡ n
four_times n (inl e) = omega arith
four_times n (inr e) = omega arith

pub shuffle_block : (n : ℕ) (b : List ℕ) → (n ≡ 16) ⊎ (n ≡ 8) → Block n (shuffle n b)
unfolding shuffle
shuffle_block n b sizes =
    let x = shuffle_words (8 * (n / 4)) (four_of (n / 4) b) in
    record { long = four_long (n / 4) x ∙ four_times n sizes; bytes = four_bytes (n / 4) x }
