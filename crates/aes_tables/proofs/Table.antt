-- A table obeys the rule of the tables by one computed test of its entries; each holds the S-box's byte once, which is tested as the S-box's table is.
use mathlib.Core.Path.{◌≡◌, sym, ap, ◌∙◌, subst}
use mathlib.Core.Bool.{Bool}
use mathlib.Core.List.{List, []}
use Prim.Native.Nat.{ℕ, ◌+◌, ◌%◌, ◌<◌}
use lib.Dec.{T, eqb, eqb→eq}
use lib.ListN.{length, get_or}
use lib.Seq.{ext_get_or}
use Rattle.block.specs.Bytes.{value, bytes}
use Rattle.block.proofs.Table.{both, both_left, both_right, every, at}
use Rattle.aes_spec.specs.Sbox.{sub_byte}
use Rattle.aes_spec.proofs.Sbox.{obeys, entry_told}
use Rattle.aes_tables.specs.Tables.{share, IsTables}

-- the byte of an entry of row p that is taken once
abbrev pub once : ℕ → ℕ → ℕ
once p e = get_or (bytes 4 e) ((p + 1) % 4) 0

-- the entry e at x of row p: that byte is the S-box's, and the others are its multiples
abbrev pub stands : ℕ → ℕ → ℕ → Bool
stands p x e = both (obeys x (once p e)) (eqb e (value (share p (once p e))))

abbrev pub row_stands : ℕ → List ℕ → Bool
row_stands p l = both (eqb (length l) 256) (every (stands p) 0 l)

entry_stands : (p x e : ℕ) → x < 256 → T (stands p x e) → e ≡ value (share p (sub_byte x))
entry_stands p x e h t =
    eqb→eq e (value (share p (once p e))) (both_right (obeys x (once p e)) _ t)
    ∙ ap (λ (s : ℕ). value (share p s)) (entry_told x (once p e) h (both_left (obeys x (once p e)) _ t))

pub table_rule : (t : List (List ℕ)) → length t ≡ 4 → T (every row_stands 0 t) → IsTables t
table_rule t l e = record { rows = l; size = long; entry = λ p x h k. entry_stands p x (get_or (get_or t p []) x 0) k (held p x h k) }
  where
    stood : (p : ℕ) → p < 4 → T (row_stands p (get_or t p []))
    stood p h = at [] row_stands t e p (subst (λ (n : ℕ). p < n) (sym l) h)

    long : (p : ℕ) → p < 4 → length (get_or t p []) ≡ 256
    long p h = eqb→eq (length (get_or t p [])) 256 (both_left (eqb (length (get_or t p [])) 256) _ (stood p h))

    held : (p x : ℕ) → p < 4 → x < 256 → T (stands p x (get_or (get_or t p []) x 0))
    held p x h k =
        at 0 (stands p) (get_or t p []) (both_right (eqb (length (get_or t p [])) 256) _ (stood p h)) x (subst (λ (n : ℕ). x < n) (sym (long p h)) k)

-- the rule leaves one table
pub table_only : (s t : List (List ℕ)) → IsTables s → IsTables t → s ≡ t
table_only s t hs ht =
    ext_get_or [] s t (hs.rows ∙ sym ht.rows)
    (λ p h.
    let k : p < 4 = subst (λ (n : ℕ). p < n) hs.rows h in
    ext_get_or 0 (get_or s p []) (get_or t p []) (hs.size p k ∙ sym (ht.size p k))
    (λ x g. let i : x < 256 = subst (λ (n : ℕ). x < n) (hs.size p k) g in hs.entry p x k i ∙ sym (ht.entry p x k i)))
