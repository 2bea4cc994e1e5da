-- A table is the S-box by one computed test of its entries: each, taken back through the affine map, is an inverse of its place.
use mathlib.Core.Path.{◌≡◌, sym, ap, ◌∙◌, subst}
use mathlib.Core.Bool.{Bool}
use mathlib.Core.List.{List}
use Prim.Native.Nat.{ℕ, ◌<◌}
use lib.Dec.{T, eqb, eqb→eq, ltb, ltb→lt}
use lib.ListN.{length, get_or}
use lib.Seq.{ext_get_or}
use Rattle.block.specs.Words.{xor, rotl}
use Rattle.block.proofs.Table.{both, both_left, both_right, every, at, below, at_below}
use Rattle.aes_spec.specs.Field.{◌⊕◌, inverse}
use Rattle.aes_spec.specs.Sbox.{affine, sub_byte, IsSbox}
use Rattle.aes_spec.proofs.Inverse.{inverts, inverse_told, inverse_is, inverse-only, inverse-twice}

-- ---- the affine map has an inverse

abbrev pub unaffine : ℕ → ℕ
unaffine s = rotl 8 1 s ⊕ rotl 8 3 s ⊕ rotl 8 6 s ⊕ 0x05

undoes : ℕ → Bool
undoes y = both (ltb (affine y) 256) (eqb (unaffine (affine y)) y)

all_undone : T (below undoes 256)
unfolding undoes affine xor
all_undone = tt

affine-byte : (y : ℕ) → y < 256 → affine y < 256
unfolding undoes
affine-byte y h = ltb→lt (affine y) 256 (both_left (ltb (affine y) 256) _ (at_below undoes 256 all_undone y h))

unaffine_affine : (y : ℕ) → y < 256 → unaffine (affine y) ≡ y
unfolding undoes
unaffine_affine y h = eqb→eq (unaffine (affine y)) y (both_right (ltb (affine y) 256) _ (at_below undoes 256 all_undone y h))

-- ---- the S-box of a byte

pub sub_byte_lem : (x : ℕ) → x < 256 → sub_byte x < 256
unfolding sub_byte
sub_byte_lem x h = affine-byte (inverse x) (inverse_is x h).byte

-- and it can be undone
pub unsub : ℕ → ℕ
unsub s = inverse (unaffine s)

pub unsub_sub : (x : ℕ) → x < 256 → unsub (sub_byte x) ≡ x
unfolding unsub sub_byte
unsub_sub x h = ap inverse (unaffine_affine (inverse x) (inverse_is x h).byte) ∙ sym (inverse-twice x h)

-- ---- a table

-- the entry s at x is the affine map of an inverse of x
abbrev pub obeys : ℕ → ℕ → Bool
obeys x s = both (inverts x (unaffine s)) (eqb s (affine (unaffine s)))

pub entry_told : (x s : ℕ) → x < 256 → T (obeys x s) → s ≡ sub_byte x
unfolding sub_byte
entry_told x s h t =
    eqb→eq s (affine (unaffine s)) (both_right (inverts x (unaffine s)) _ t)
    ∙ ap affine (inverse-only x (unaffine s) h (inverse_told x (unaffine s) (both_left (inverts x (unaffine s)) _ t)))

pub table_rule : (t : List ℕ) → length t ≡ 256 → T (every obeys 0 t) → IsSbox t
table_rule t l e = record { size = l; entry = λ x h. entry_told x (get_or t x 0) h (at 0 obeys t e x (subst (λ (n : ℕ). x < n) (sym l) h)) }

-- the rule leaves one table
pub table_only : (s t : List ℕ) → IsSbox s → IsSbox t → s ≡ t
table_only s t hs ht =
    ext_get_or 0 s t (hs.size ∙ sym ht.size)
    (λ x h. let k : x < 256 = subst (λ (n : ℕ). x < n) hs.size h in hs.entry x k ∙ sym (ht.entry x k))
