-- What four bytes bring, added up, is the mixed column.
use mathlib.Core.Path.{◌≡◌, ap, ap₂, ◌∙◌}
use mathlib.Core.List.{List, [], ◌∷◌}
use Prim.Native.Nat.{ℕ, zero, suc, ◌+◌, ◌-◌, ◌*◌, ◌/◌, ◌%◌, ◌^◌, ◌<◌}
use native.Mathlib.Omega.{arith}
use lib.ListN.{get_or}
use Rattle.block.specs.Words.{xor}
use Rattle.block.specs.Bytes.{value, bytes}
use Rattle.block.specs.Xors.{xors}
use Rattle.block.proofs.XorLaws.{assoc, comm}
use Rattle.block.proofs.Bytes.{bytes-value}
use Rattle.block.proofs.Xors.{bytes-xor}
use Rattle.aes_spec.specs.Field.{◌⊕◌, ◌•◌}
use Rattle.aes_spec.specs.Cipher.{mixed}
use Rattle.aes_spec.proofs.Field.{one_product, product_byte}
use Rattle.aes_spec.proofs.Steps.{all_from}
use Rattle.aes_plain.specs.Columns.{mix_column}
use Rattle.aes_plain.proofs.Column.{row_is}
use Rattle.aes_tables.specs.Tables.{multiple, share}

-- a share is four bytes
pub share-bytes : (p s : ℕ) → s < 256 → bytes 4 (value (share p s)) ≡ share p s
share-bytes p s h = bytes-value (share p s) (all_from (λ r. multiple ((r + 4 - p) % 4) • s) (λ r. product_byte (multiple ((r + 4 - p) % 4)) s h) 0 4)

turn : (a b c d : ℕ) → a ⊕ b ⊕ c ⊕ d ≡ b ⊕ c ⊕ d ⊕ a
turn a b c d = ap (λ (v : ℕ). v ⊕ d) (assoc a b c) ∙ assoc a (b ⊕ c) d ∙ comm a (b ⊕ c ⊕ d)

cell : (a b c d : ℕ) → 2 • a ⊕ 3 • b ⊕ 1 • c ⊕ 1 • d ≡ mixed a b c d
cell a b c d = ap₂ (λ (u v : ℕ). 2 • a ⊕ 3 • b ⊕ u ⊕ v) (one_product c) (one_product d)

cells : {a b c d e f g h : ℕ} → a ≡ e → b ≡ f → c ≡ g → d ≡ h → a ∷ b ∷ c ∷ d ∷ [] ≡ e ∷ f ∷ g ∷ h ∷ []
cells {c = c} {d = d} {e = e} {f = f} p q r s = ap₂ (λ (x y : ℕ). x ∷ y ∷ c ∷ d ∷ []) p q ∙ ap₂ (λ (x y : ℕ). e ∷ f ∷ x ∷ y ∷ []) r s

shares : (a b c d : ℕ) → xors (xors (xors (share 0 a) (share 1 b)) (share 2 c)) (share 3 d) ≡ mix_column (a ∷ b ∷ c ∷ d ∷ [])
shares a b c d =
    cells (cell a b c d)
    (turn (1 • a) (2 • b) (3 • c) (1 • d) ∙ cell b c d a)
    (turn (1 • a) (1 • b) (2 • c) (3 • d) ∙ turn (1 • b) (2 • c) (3 • d) (1 • a) ∙ cell c d a b)
    (turn (3 • a) (1 • b) (1 • c) (2 • d) ∙ turn (1 • b) (1 • c) (2 • d) (3 • a) ∙ turn (1 • c) (2 • d) (3 • a) (1 • b) ∙ cell d a b c)

pub summed : (x y z u a b c d : ℕ) → bytes 4 x ≡ share 0 a → bytes 4 y ≡ share 1 b → bytes 4 z ≡ share 2 c → bytes 4 u ≡ share 3 d
    → bytes 4 (xor (xor (xor x y) z) u) ≡ mix_column (a ∷ b ∷ c ∷ d ∷ [])
summed x y z u a b c d p q r s =
    bytes-xor 4 (xor (xor x y) z) u
    ∙ ap₂ xors (bytes-xor 4 (xor x y) z ∙ ap₂ xors (bytes-xor 4 x y ∙ ap₂ xors p q) r) s
    ∙ shares a b c d

-- what a byte brings from two rows on has the byte itself in row k
own_row : (k s : ℕ) → k < 4 → get_or (share ((k + 2) % 4) s) k 0 ≡ s
own_row zero s h = one_product s
own_row (suc zero) s h = one_product s
own_row (suc (suc zero)) s h = one_product s
own_row (suc (suc (suc zero))) s h = one_product s
own_row (suc (suc (suc (suc k)))) s h = absurd (omega (arith, h))

pub once_in : (k e s : ℕ) → k < 4 → bytes 4 e ≡ share ((k + 2) % 4) s → e / 2 ^ (8 * k) % 256 ≡ s
once_in k e s h q = row_is k e h ∙ ap (λ (l : List ℕ). get_or l k 0) q ∙ own_row k s h
