-- Laws of the start and of a cipher call: the nonce XORed into the key, and blocks whose unused bytes are zero.
use Rattle.std.proofs.Common.{◌≡◌, ℕ, ◌-◌, List, [], ◌∷◌, ◌++◌, length, take, drop, replicate, sym, ap, ◌∙◌, le_of_eq, arith, length-drop, take-append-drop, drop_of_length-le, length-take-le}
use Rattle.block.specs.Xors.{xors}
use Rattle.block.specs.declared.Block.{Block}
use Rattle.block.specs.Blocks.{wide}
use Rattle.block.specs.Bytes.{bytes}
use Rattle.block.proofs.Blocks.{length-wide, last_eight}
use Rattle.block.proofs.XorLaws.{zero_r}
use Rattle.block.proofs.Xors.{xors_append}
use Rattle.cipher.specs.Cipher.{size_of}
use Rattle.mode.specs.Walk.{States}
use Rattle.block_state.specs.Two.{Clean}

pub states_path : {a b c d : List ℕ} → a ≡ b → c ≡ d → ◌≡◌ {A = States} (record { Y = a; Z = c }) (record { Y = b; Z = d })
states_path p q = λ i. record { Y = p i; Z = q i }

-- ---- a nonce of fifteen bytes, and a zero after it

xors-zero : (l : List ℕ) → length l ≡ 1 → xors l (0 ∷ []) ≡ l
xors-zero [] e = absurd (native.Mathlib.Nat.suc-ne-zero 0 (sym e))
xors-zero (a ∷ []) e = ap (λ (x : ℕ). x ∷ []) (zero_r a)
xors-zero (a ∷ (b ∷ l)) e = absurd (native.Mathlib.Nat.suc-ne-zero (length l) (native.Mathlib.Nat.suc_inj e))

-- a nonce of fifteen bytes leaves the key's last byte
pub nonce_on_key : (k v : List ℕ) → length k ≡ 16 → length v ≡ 15 → xors k (v ++ (0 ∷ [])) ≡ xors (take 15 k) v ++ drop 15 k
nonce_on_key k v lk lv =
    let lt : length (take 15 k) ≡ 15 = length-take-le 15 k (omega arith) in
    ap (λ (l : List ℕ). xors l (v ++ (0 ∷ []))) (sym (take-append-drop 15 k))
    ∙ xors_append (take 15 k) (drop 15 k) v (0 ∷ []) (lt ∙ sym lv)
    ∙ ap (λ (l : List ℕ). xors (take 15 k) v ++ l) (xors-zero (drop 15 k) (length-drop 15 k ∙ omega arith))

-- ---- clean blocks

pub clean_16 : (suite : ℕ) (x : Block) → size_of suite ≡ 16 → Clean suite x
clean_16 suite x e =
    ap (λ (n : ℕ). drop n (wide x)) e ∙ drop_of_length-le (wide x) {i = 16} (le_of_eq (length-wide x.a x.b))
    ∙ sym (ap (λ (n : ℕ). replicate (16 - n) 0) e)

pub clean_8 : (suite y : ℕ) → size_of suite ≡ 8 → Clean suite (record { a = y; b = 0 })
unfolding bytes
clean_8 suite y e = ap (λ (n : ℕ). drop n (bytes 8 y ++ bytes 8 0)) e ∙ last_eight y 0 ∙ sym (ap (λ (n : ℕ). replicate (16 - n) 0) e)
