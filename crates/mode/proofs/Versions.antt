-- Version 2's held mark may stand in Z: what a call takes from the one before it, and what was XORed into Z after that one, are the same mark.
use mathlib.Core.Path.{◌≡◌, refl, sym, ap, ◌∙◌}
use native.Mathlib.Omega.{arith}
use Prim.Native.Nat.{ℕ, zero, suc, ◌<◌}
use mathlib.Core.List.{List, [], ◌∷◌}
use lib.ListN.{get_or, set}
use lib.Seq.{set-get_or}
use Rattle.block.specs.Words.{xor}
use Rattle.block.proofs.XorLaws.{assoc, zero_l, zero_r}
use Rattle.cipher.specs.Cipher.{Block, Version, one, two}
use Rattle.mode.specs.Keys.{late, placed, marked, doubled, next_key, keys}
use Rattle.mode.specs.Walk.{block_key, block_z}
use Rattle.mode.proofs.Keys.{marked_block, next_block}

-- ---- marks

put-twice : (l : List ℕ) (i a b : ℕ)
    → set (set l i (xor (get_or l i 0) a)) i (xor (get_or (set l i (xor (get_or l i 0) a)) i 0) b) ≡ set l i (xor (get_or l i 0) (xor a b))
put-twice [] i a b = refl
put-twice (x ∷ xs) zero a b = ap (λ (y : ℕ). y ∷ xs) (assoc x a b)
put-twice (x ∷ xs) (suc i) a b = ap (λ (r : List ℕ). x ∷ r) (put-twice xs i a b)

marked-twice : (a b : ℕ) (z : List ℕ) → marked b (marked a z) ≡ marked (xor a b) z
unfolding marked
marked-twice a b z = put-twice z 15 a b

marked_none : (z : List ℕ) → marked 0 z ≡ z
unfolding marked
marked_none z = ap (set z 15) (zero_r (get_or z 15 0)) ∙ set-get_or z 15 0

-- ---- one block, and the tag

-- the mark that the next call waits for may stand in Z already
held_in : (h : ℕ) (z ms : List ℕ) → keys two z (late h ms) ≡ keys two (marked h z) (late 0 ms)
unfolding keys late next_key
held_in h z [] = ap (λ (y : List ℕ). doubled two y ∷ []) (sym (ap (λ (m : ℕ). marked m (marked h z)) (zero_l 0x80) ∙ marked-twice h 0x80 z))
held_in h z (m ∷ ms) = ap (λ (y : List ℕ). doubled two y ∷ keys two (doubled two y) (late m ms)) (sym (marked_none (marked h z)))

pub block_step : (v : Version) (m : ℕ) (z ms : List ℕ) → keys v z (placed v (m ∷ ms)) ≡ block_key v m z ∷ keys v (block_z v m z) (placed v ms)
unfolding keys late
block_step one m z ms = refl
block_step two m z ms = ap (λ (r : List (List ℕ)). next_key two 0 z ∷ r) (held_in m (next_key two 0 z) ms)

pub tag_step : (v : Version) (z : List ℕ) → keys v z (placed v []) ≡ next_key v 0x80 z ∷ []
unfolding keys late
tag_step one z = refl
tag_step two z = ap (λ (m : ℕ). next_key two m z ∷ []) (zero_l 0x80)

-- a block's key is a block, and so is the Z after it
pub key_block : (v : Version) (m : ℕ) (z : List ℕ) → m < 256 → Block 16 z → Block 16 (block_key v m z)
key_block one m z h b = next_block one m z h b
key_block two m z h b = next_block two 0 z (omega arith) b

pub kept_block : (v : Version) (m : ℕ) (z : List ℕ) → m < 256 → Block 16 z → Block 16 (block_z v m z)
kept_block one m z h b = next_block one m z h b
kept_block two m z h b = marked_block m (next_key two 0 z) h (next_block two 0 z (omega arith) b)
