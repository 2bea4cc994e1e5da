-- The nonce bytes that a suite reads: where the others are 0, all sixteen tell what is read, and on a file that passes no two
-- rows of one suite and key number read the same.
use Prim.Native.Nat.{ℕ, ◌+◌, ◌-◌, ◌<◌}
use native.Mathlib.Nat.{not-suc-le-zero}
use native.Mathlib.Decide.{dec_lt}
use native.Mathlib.Omega.{arith}
use mathlib.Core.Path.{◌≡◌, refl, sym, ap, ap₂, ◌∙◌, subst}
use mathlib.Core.Bool.{Bool, true, false, ◌&&◌, true≢false, and-true, and-false}
use mathlib.Core.List.{List}
use lib.ListN.{length, take, replicate}
use lib.Seq.{take-append_seam}
use lib.Dec.{eqb}
use borrow.Author.Tests.{eq-eqb, eqb-true, not-false}
use Rattle.block.specs.Bytes.{same_bytes}
use Rattle.block.proofs.SameBytes.{same_refl, same_true}
use Rattle.block.specs.Blocks.{filled}
use Rattle.cipher.specs.Cipher.{nonce_of}
use Rattle.shift_format.specs.declared.row.Row.{Row}
use Rattle.shift_format.specs.Format.{row_at, nonce_at, nonce_read_at}
use Rattle.shift_check.specs.Check.{unread_set, clash, nonce_seen}
use Rattle.shift_format.specs.Inside.{RowIn}
use Rattle.shift_check.specs.Spared.{Spared}
use Rattle.shift_check.proofs.Searches.{any_hit}
use Rattle.shift_format.proofs.Rows.{read_length}
use Rattle.shift_check.proofs.Passed.{Walked}

-- ---- what is read

-- filled up, bytes of one length are told apart as before
filled-same : (s t : List ℕ) → length s ≡ length t → same_bytes (filled s) (filled t) ≡ same_bytes s t
filled-same s t l = same_case (same_bytes (filled s) (filled t)) (same_bytes s t) refl refl
  where
    same_case : (a b : Bool) → same_bytes (filled s) (filled t) ≡ a → same_bytes s t ≡ b → a ≡ b
    same_case true true p q = refl
    same_case false false p q = refl
    same_case true false p q =
        let e : s ≡ t = sym (take-append_seam s (replicate (16 - length s) 0)) ∙ ap₂ take l (same_true (filled s) (filled t) p)
        ∙ take-append_seam t (replicate (16 - length t) 0) in
        sym (same_refl t) ∙ ap (λ (u : List ℕ). same_bytes u t) (sym e) ∙ q
    same_case false true p q =
        sym p ∙ ap (λ (u : List ℕ). same_bytes (filled u) (filled t)) (same_true s t q) ∙ same_refl (filled t)

-- 34 does not apply: the nonce is what is read, and zeros
pub spare_nonce : (w : ℕ) (f : List ℕ) (i : ℕ) → unread_set w f i ≡ false → nonce_at w f i ≡ filled (nonce_read_at w f i)
unfolding unread_set
spare_nonce w f i e = same_true _ _ (not-false _ e)

-- ---- two rows to which 34 does not apply

module _ (w : ℕ) (f : List ℕ) (i j : ℕ) (hi : RowIn w f i) (hj : RowIn w f j) (si : unread_set w f i ≡ false) (sj : unread_set w f j ≡ false) where
  abbrev keys : Row → Row → Bool
  keys a b = eqb a.suite b.suite && eqb a.key b.key

  -- of one suite: sixteen bytes tell what is read
  reads_same : (row_at w f i).suite ≡ (row_at w f j).suite → same_bytes (nonce_read_at w f i) (nonce_read_at w f j) ≡ same_bytes (nonce_at w f i) (nonce_at w f j)
  reads_same s =
      let l : length (nonce_read_at w f i) ≡ length (nonce_read_at w f j) =
      read_length w f i (row_at w f i).suite hi ∙ ap nonce_of s ∙ sym (read_length w f j (row_at w f j).suite hj) in
      sym (filled-same (nonce_read_at w f i) (nonce_read_at w f j) l) ∙ sym (ap₂ same_bytes (spare_nonce w f i si) (spare_nonce w f j sj))

  clash-whole : clash w f i j ≡ (keys (row_at w f i) (row_at w f j) && same_bytes (nonce_at w f i) (nonce_at w f j))
  unfolding clash
  clash-whole = suite-case (eqb (row_at w f i).suite (row_at w f j).suite) refl
    where
      suite-case : (b : Bool) → eqb (row_at w f i).suite (row_at w f j).suite ≡ b
          → (b && (eqb (row_at w f i).key (row_at w f j).key && same_bytes (nonce_read_at w f i) (nonce_read_at w f j)))
          ≡ ((b && eqb (row_at w f i).key (row_at w f j).key) && same_bytes (nonce_at w f i) (nonce_at w f j))
      suite-case true e = ap (λ (d : Bool). eqb (row_at w f i).key (row_at w f j).key && d) (reads_same (eqb-true _ _ e))
      suite-case false e = refl

  -- equal nonces: suite and key number are left to compare
  pub clash-keys : (a b : Row) → a ≡ row_at w f i → b ≡ row_at w f j → same_bytes (nonce_at w f i) (nonce_at w f j) ≡ true → keys a b ≡ clash w f i j
  clash-keys a b p q e =
      ap₂ keys p q
      ∙ sym (clash-whole ∙ ap (λ (d : Bool). keys (row_at w f i) (row_at w f j) && d) e ∙ and-true (keys (row_at w f i) (row_at w f j)))

  -- others: no clash
  pub clash-none : same_bytes (nonce_at w f i) (nonce_at w f j) ≡ false → false ≡ clash w f i j
  clash-none e = sym (clash-whole ∙ ap (λ (d : Bool). keys (row_at w f i) (row_at w f j) && d) e ∙ and-false (keys (row_at w f i) (row_at w f j)))

-- ---- the rows before a row, as the loop goes through them

pub spared_none : (w : ℕ) (f : List ℕ) → Spared w f 0
spared_none w f = record { spare = λ j l. absurd (not-suc-le-zero l) }

pub spared_more : (w : ℕ) (f : List ℕ) (i : ℕ) → Spared w f i → unread_set w f i ≡ false → Spared w f (i + 1)
spared_more w f i h e =
    record {
      spare = λ j l. elim (dec_lt j i) [
        | yes m ↦ h.spare j m
        | no m ↦ subst (λ (k : ℕ). unread_set w f k ≡ false) (let q : i ≡ j = omega arith in q) e
      ];
    }

-- ---- a file that passes

pub earlier : (w : ℕ) (f : List ℕ) (n : ℕ) → Walked w f n → (i j : ℕ) → i < n → j < i
    → (row_at w f i).suite ≡ (row_at w f j).suite → (row_at w f i).key ≡ (row_at w f j).key → nonce_read_at w f i ≡ nonce_read_at w f j → ⊥
unfolding nonce_seen clash
earlier w f n h i j l m s k q =
    let c : clash w f i j ≡ true =
    ap₂ (λ (a b : Bool). a && (b && same_bytes (nonce_read_at w f i) (nonce_read_at w f j))) (eq-eqb _ _ s) (eq-eqb _ _ k)
    ∙ ap (λ (t : List ℕ). same_bytes t (nonce_read_at w f j)) q ∙ same_refl (nonce_read_at w f j) in
    true≢false (sym (any_hit (clash w f i) j i m c) ∙ (h.rows i l).fresh)
