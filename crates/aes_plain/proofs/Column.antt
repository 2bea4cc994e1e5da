-- A column is known by its four bytes: as it is read by row, put together, XORed, turned and mixed.
use mathlib.Core.Path.{◌≡◌, refl, sym, ap, ap₂, ◌∙◌}
use mathlib.Core.List.{List, [], ◌∷◌, ◌++◌, append_assoc, map}
use Prim.Native.Nat.{ℕ, zero, suc, ◌+◌, ◌*◌, ◌/◌, ◌%◌, ◌^◌, ◌<◌}
use native.Mathlib.Omega.{arith}
use lib.ListN.{get_or}
use Rattle.block.specs.Words.{xor}
use Rattle.block.specs.Bytes.{value, bytes, part}
use Rattle.block.specs.Xors.{xors}
use Rattle.block.proofs.XorLaws.{assoc}
use Rattle.block.proofs.Lists.{all_nil, all_cons}
use Rattle.block.proofs.Bytes.{bytes-value, bytes_inj, length-bytes, bytes_mod, bytes-join, bytes-split}
use Rattle.block.proofs.Xors.{bytes-xor}
use Rattle.aes_spec.specs.Cipher.{mixed, sub_word, rot_word}
use Rattle.aes_spec.specs.Field.{xtime}
use Rattle.aes_spec.proofs.Field.{xtime_sum, two_product, three_product}
use Rattle.aes_spec.proofs.Steps.{from-same}
use Rattle.aes_spec.proofs.Schedule.{next_key}
use Rattle.aes_plain.specs.declared.Columns.{Columns}
use Rattle.aes_plain.specs.Columns.{bytes_of, mix_column, Follows, Expands}

-- row k is what is left when the rows below it are shifted out
pub row_is : (k x : ℕ) → k < 4 → x / 2 ^ (8 * k) % 256 ≡ get_or (bytes 4 x) k 0
unfolding bytes
row_is zero x h = omega arith
row_is (suc zero) x h = refl
row_is (suc (suc zero)) x h = omega arith
row_is (suc (suc (suc zero))) x h = omega arith
row_is (suc (suc (suc (suc k)))) x h = omega arith

-- four bytes p, q, s, t, put together
pub packed : {r x y z u p q s t : ℕ} → r ≡ value (x ∷ y ∷ z ∷ u ∷ []) → x < 256 → y < 256 → z < 256 → u < 256
    → x ≡ p → y ≡ q → z ≡ s → u ≡ t → bytes 4 r ≡ p ∷ q ∷ s ∷ t ∷ []
packed {x = x} {y = y} {z = z} {u = u} {p = p} {q = q} e hx hy hz hu ep eq es et =
    ap (bytes 4) e
    ∙ bytes-value (x ∷ y ∷ z ∷ u ∷ []) (all_cons x (y ∷ z ∷ u ∷ []) hx (all_cons y (z ∷ u ∷ []) hy (all_cons z (u ∷ []) hz (all_cons u [] hu all_nil))))
    ∙ ap₂ (λ (a b : ℕ). a ∷ b ∷ z ∷ u ∷ []) ep eq
    ∙ ap₂ (λ (a b : ℕ). p ∷ q ∷ a ∷ b ∷ []) es et

-- two columns are the halves of a word of eight bytes
halves : (x : ℕ) → bytes 4 (x % 0x100000000) ++ bytes 4 (x / 0x100000000) ≡ bytes 8 x
halves x = ap (λ (l : List ℕ). l ++ bytes 4 (x / 0x100000000)) (bytes_mod 4 x) ∙ sym (bytes-split 4 4 x)

pub loaded : (x y : ℕ)
    → bytes 4 (x % 0x100000000) ++ bytes 4 (x / 0x100000000) ++ bytes 4 (y % 0x100000000) ++ bytes 4 (y / 0x100000000) ≡ bytes 8 x ++ bytes 8 y
loaded x y =
    append_assoc (bytes 4 (x % 0x100000000) ++ bytes 4 (x / 0x100000000)) (bytes 4 (y % 0x100000000)) (bytes 4 (y / 0x100000000))
    ∙ ap₂ ◌++◌ (halves x) (halves y)

-- four columns, one after the other
pub four : {a b c d e f g h : List ℕ} → a ≡ e → b ≡ f → c ≡ g → d ≡ h → a ++ b ++ c ++ d ≡ e ++ f ++ g ++ h
four p q r s = ap₂ ◌++◌ (ap₂ ◌++◌ (ap₂ ◌++◌ p q) r) s

pub four-xor : (a b c d e f g h : ℕ)
    → bytes 4 (xor a e) ++ bytes 4 (xor b f) ++ bytes 4 (xor c g) ++ bytes 4 (xor d h)
    ≡ xors (bytes 4 a ++ bytes 4 b ++ bytes 4 c ++ bytes 4 d) (bytes 4 e ++ bytes 4 f ++ bytes 4 g ++ bytes 4 h)
unfolding bytes
four-xor a b c d e f g h = four (bytes-xor 4 a e) (bytes-xor 4 b f) (bytes-xor 4 c g) (bytes-xor 4 d h)

-- the columns are known one by one, and by their bytes
pub same_columns : (x y : Columns) → x.a ≡ y.a → x.b ≡ y.b → x.c ≡ y.c → x.d ≡ y.d → x ≡ y
same_columns x y p q r s =
    ap₂ (λ (a b : ℕ). record { a = a; b = b; c = x.c; d = x.d }) p q ∙ ap₂ (λ (c d : ℕ). record { a = y.a; b = y.b; c = c; d = d }) r s

abbrev pub Fit : Columns → Type 0
Fit x = (x.a < 2 ^ 32) × (x.b < 2 ^ 32) × (x.c < 2 ^ 32) × (x.d < 2 ^ 32)

pub told_only : (x y : Columns) → Fit x → Fit y → bytes_of x ≡ bytes_of y → x ≡ y
unfolding bytes
told_only x y f g e =
    same_columns x y
    (bytes_inj 4 f.0 g.0 (ap (λ (l : List ℕ). part 4 l 0) e))
    (bytes_inj 4 f.1 g.1 (ap (λ (l : List ℕ). part 4 l 4) e))
    (bytes_inj 4 f.2 g.2 (ap (λ (l : List ℕ). part 4 l 8) e))
    (bytes_inj 4 f.3 g.3 (ap (λ (l : List ℕ). part 4 l 12) e))

-- ---- the round key after k: its last column turned is t, and t through the S-box is s

pub key_columns : (k n : Columns) (t s rc : ℕ) → bytes 4 t ≡ rot_word (bytes 4 k.d) → bytes 4 s ≡ sub_word (bytes 4 t)
    → (n.a ≡ xor k.a (xor s rc)) × (n.b ≡ xor k.b n.a) × (n.c ≡ xor k.c n.b) × (n.d ≡ xor k.d n.c) → Expands k (bytes 4 rc) n
key_columns k n t s rc f e h = (
  ap (bytes 4) h.0 ∙ bytes-xor 4 k.a (xor s rc)
      ∙ ap (xors (bytes 4 k.a)) (bytes-xor 4 s rc ∙ ap (λ (l : List ℕ). xors l (bytes 4 rc)) (e ∙ ap sub_word f)),
  h.1,
  h.2,
  h.3,
)

pub key_turn : (k n : Columns) (t s rc : ℕ) → bytes 4 t ≡ rot_word (bytes 4 k.d) → bytes 4 s ≡ sub_word (bytes 4 t)
    → (n.a ≡ xor k.a (xor s rc)) × (n.b ≡ xor k.b n.a) × (n.c ≡ xor k.c n.b) × (n.d ≡ xor k.d n.c)
    → Follows (bytes_of k) (bytes 4 rc) (bytes_of n)
key_turn k n t s rc f e h key i p q =
    next_key key i (bytes 4 k.a) (bytes 4 k.b) (bytes 4 k.c) (bytes 4 k.d) (bytes 4 n.a) (bytes 4 n.b) (bytes 4 n.c) (bytes 4 n.d)
    (length-bytes 4 k.a) (length-bytes 4 k.b) (length-bytes 4 k.c) p
    (ap (bytes 4) h.0 ∙ bytes-xor 4 k.a (xor s rc) ∙ ap (xors (bytes 4 k.a)) (bytes-xor 4 s rc ∙ ap₂ xors (e ∙ ap sub_word f) q))
    (ap (bytes 4) h.1 ∙ bytes-xor 4 k.b n.a) (ap (bytes 4) h.2 ∙ bytes-xor 4 k.c n.b) (ap (bytes 4) h.3 ∙ bytes-xor 4 k.d n.c)

-- ---- a column turned and mixed

-- row r is row r + 1 of x
pub turned : (x : ℕ) → x < 0x100000000 → bytes 4 (x / 256 + x * 0x1000000 % 0x100000000) ≡ rot_word (bytes 4 x)
unfolding bytes
turned x h =
    let e : x / 256 + x * 0x1000000 % 0x100000000 ≡ x / 256 + 0x1000000 * (x % 256) = omega arith in
    let f : x % 256 % 256 ≡ x % 256 = omega arith in
    ap (bytes 4) e
    ∙ bytes-join 3 1 (x / 256) (x % 256) (omega arith)
    ∙ ap (λ (v : ℕ). bytes 3 (x / 256) ++ (v ∷ [])) f

mixed-cell : (a b c d : ℕ) → xor (xor (xtime (xor a b)) b) (xor c d) ≡ mixed a b c d
mixed-cell a b c d =
    sym (assoc (xor (xtime (xor a b)) b) c d)
    ∙ ap (λ (v : ℕ). xor (xor v c) d) (ap (λ (v : ℕ). xor v b) (xtime_sum a b) ∙ assoc (xtime a) (xtime b) b)
    ∙ sym (ap₂ (λ (u v : ℕ). xor (xor (xor u v) c) d) (two_product a) (three_product b))

-- y is x turned, q the sum of both turned twice, and v that sum doubled
pub mixed_column : (x y p q v : ℕ) → bytes 4 y ≡ rot_word (bytes 4 x) → bytes 4 v ≡ map xtime (bytes 4 (xor x y))
    → bytes 4 p ≡ rot_word (bytes 4 (xor x y)) → bytes 4 q ≡ rot_word (bytes 4 p) → bytes 4 (xor (xor v y) q) ≡ mix_column (bytes 4 x)
unfolding bytes
mixed_column x y p q v ey ev ep eq =
    let l = bytes 4 x in
    let fw : bytes 4 (xor x y) ≡ xors l (rot_word l) = bytes-xor 4 x y ∙ ap (xors l) ey in
    let fq : bytes 4 q ≡ rot_word (rot_word (xors l (rot_word l))) = eq ∙ ap rot_word (ep ∙ ap rot_word fw) in
    let at : ℕ → ℕ → ℕ = λ r k. get_or l ((r + k) % 4) 0 in
    bytes-xor 4 (xor v y) q
    ∙ ap₂ xors (bytes-xor 4 v y ∙ ap₂ xors (ev ∙ ap (map xtime) fw) ey) fq
    ∙ from-same (λ r. xor (xor (xtime (xor (at r 0) (at r 1))) (at r 1)) (xor (at r 2) (at r 3)))
    (λ r. mixed (at r 0) (at r 1) (at r 2) (at r 3))
    (λ r. mixed-cell (at r 0) (at r 1) (at r 2) (at r 3)) 0 4
