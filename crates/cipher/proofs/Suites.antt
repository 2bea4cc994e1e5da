-- The facts of a suite: what every line of the table has, and the line that a test leads to.
use mathlib.Core.Path.{◌≡◌, refl, sym, ap, ◌∙◌, subst}
use mathlib.Core.Bool.{Bool, true, false, cond, not, true≢false, false≢true}
use mathlib.Core.List.{List, []}
use mathlib.Core.Logic.{◌⊎◌, inl, inr}
use Prim.Native.Nat.{ℕ, ◌≤◌, ◌<◌}
use native.Mathlib.Omega.{arith}
use native.Mathlib.Decide.{dec_le}
use lib.Dec.{leb, eqb}
use borrow.Author.Tests.{le-leb, lt-leb, eqb-true, eq-eqb, ne_eqb, not-false}
use Rattle.block.proofs.Tests.{both_true}
use Rattle.aes_spec.specs.Cipher.{cipher}
use Rattle.cham_spec.specs.Cham.{cham}
use Rattle.speck.specs.Speck.{speck}
use Rattle.cipher.specs.Cipher.{Version, one, two, is_two, BlockCipher, aes128, cham128, speck64, cham64, image_of, has_tables, Facts, facts, facts_of}
use Rattle.cipher.specs.Cipher.{size_of, nonce_of, engine_of, version_of, needs_tables, TablesFit, is_suite, IsSuite, retired, seals, Seals}

abbrev pub Engine : Type 0
Engine = List ℕ → List ℕ → List ℕ

-- ---- what each line has, every suite has

module _ (P : Facts → Type 0) where
  either : (t : Bool) (x y : Facts) → P x → P y → P (cond t x y)
  either true x y p q = p
  either false x y p q = q

  pub each : P (facts 16 16 16 one aes128) → P (facts 16 16 16 one cham128) → P (facts 8 15 8 one speck64) → P (facts 8 15 8 one cham64)
      → P (facts 16 16 16 two aes128) → P (facts 8 15 8 two speck64) → (s : ℕ) → P (facts_of s)
  unfolding facts_of
  each p q r t u w s =
      either (leb s 1) _ _ p (either (leb s 2) _ _ q (either (leb s 3) _ _ r (either (leb s 4) _ _ t (either (leb s 5) _ _ u w))))

-- block, nonce and tag go together
record Shape (b n t : ℕ) (f : Facts) : Type 0 where
  block : f.block ≡ b
  nonce : f.nonce ≡ n
  tag : f.tag ≡ t

abbrev Shaped : Facts → Type 0
Shaped f = Shape 16 16 16 f ⊎ Shape 8 15 8 f

shaped : (s : ℕ) → Shaped (facts_of s)
shaped =
    each Shaped
    (inl (record { block = refl; nonce = refl; tag = refl })) (inl (record { block = refl; nonce = refl; tag = refl }))
    (inr (record { block = refl; nonce = refl; tag = refl })) (inr (record { block = refl; nonce = refl; tag = refl }))
    (inl (record { block = refl; nonce = refl; tag = refl })) (inr (record { block = refl; nonce = refl; tag = refl }))

-- ---- a suite that seals

pub seals-has : (s : ℕ) → Seals s → IsSuite s
unfolding seals
seals-has s h = (both_true (is_suite s) (not (retired s)) h).0

-- of the suites that we have, the fourth alone does not seal
pub only-four : (s : ℕ) → IsSuite s → seals s ≡ false → s ≡ 4
unfolding seals retired
only-four s h e = eqb-true s 4 (not-false (eqb s 4) (sym (simp h) ∙ e))

-- ---- sizes

pub sizes_two : (s : ℕ) → (size_of s ≡ 16) ⊎ (size_of s ≡ 8)
unfolding size_of
sizes_two s = two (shaped s)
  where
    two : Shaped (facts_of s) → ((facts_of s).block ≡ 16) ⊎ ((facts_of s).block ≡ 8)
    two (inl h) = inl h.block
    two (inr h) = inr h.block

pub size_most : (s : ℕ) → size_of s ≤ 16
size_most s = most (sizes_two s)
  where
    most : (size_of s ≡ 16) ⊎ (size_of s ≡ 8) → size_of s ≤ 16
    most (inl e) = omega arith
    most (inr e) = omega arith

-- so has a full block
pub full_two : (k s : ℕ) → k ≡ size_of s → (k ≡ 16) ⊎ (k ≡ 8)
full_two k s e = subst (λ (j : ℕ). (j ≡ 16) ⊎ (j ≡ 8)) (sym e) (sizes_two s)

-- a block that has not 16 bytes has 8
pub size_other : (s : ℕ) → (size_of s ≡ 16 → ⊥) → size_of s ≡ 8
size_other s n = other (sizes_two s)
  where
    other : (size_of s ≡ 16) ⊎ (size_of s ≡ 8) → size_of s ≡ 8
    other (inl e) = absurd (n e)
    other (inr e) = e

-- a tag has as many bytes as a block
pub tag_size_lem : (s : ℕ) → (facts_of s).tag ≡ size_of s
unfolding size_of
tag_size_lem s = two (shaped s)
  where
    two : Shaped (facts_of s) → (facts_of s).tag ≡ (facts_of s).block
    two (inl h) = h.tag ∙ sym h.block
    two (inr h) = h.tag ∙ sym h.block

-- a nonce has 16 bytes where a block has, else 15
pub nonce_wide : (s : ℕ) → size_of s ≡ 16 → nonce_of s ≡ 16
unfolding size_of nonce_of
nonce_wide s e = two (shaped s)
  where
    two : Shaped (facts_of s) → (facts_of s).nonce ≡ 16
    two (inl h) = h.nonce
    two (inr h) = absurd (omega (arith, h.block))

pub nonce_narrow : (s : ℕ) → size_of s ≡ 8 → nonce_of s ≡ 15
unfolding size_of nonce_of
nonce_narrow s e = two (shaped s)
  where
    two : Shaped (facts_of s) → (facts_of s).nonce ≡ 15
    two (inl h) = absurd (omega (arith, h.block))
    two (inr h) = h.nonce

pub nonce_most : (s : ℕ) → nonce_of s ≤ 16
nonce_most s = most (sizes_two s)
  where
    most : (size_of s ≡ 16) ⊎ (size_of s ≡ 8) → nonce_of s ≤ 16
    most (inl e) = omega (arith, nonce_wide s e)
    most (inr e) = omega (arith, nonce_narrow s e)

-- ---- the line that a test leads to

line_1 : (s : ℕ) → s ≤ 1 → facts_of s ≡ facts 16 16 16 one aes128
unfolding facts_of
line_1 s h = simp (le-leb s 1 h)

line_2 : (s : ℕ) → 1 < s → s ≤ 2 → facts_of s ≡ facts 16 16 16 one cham128
unfolding facts_of
line_2 s g h = simp (lt-leb s 1 g, le-leb s 2 h)

line_3 : (s : ℕ) → s ≡ 3 → facts_of s ≡ facts 8 15 8 one speck64
unfolding facts_of
line_3 s e = ap facts_of e

line_4 : (s : ℕ) → s ≡ 4 → facts_of s ≡ facts 8 15 8 one cham64
unfolding facts_of
line_4 s e = ap facts_of e

line_5 : (s : ℕ) → s ≡ 5 → facts_of s ≡ facts 16 16 16 two aes128
unfolding facts_of
line_5 s e = ap facts_of e

line_6 : (s : ℕ) → 5 < s → facts_of s ≡ facts 8 15 8 two speck64
unfolding facts_of
line_6 s h =
    let a : 1 < s = omega arith in
    let b : 2 < s = omega arith in
    let c : 3 < s = omega arith in
    let d : 4 < s = omega arith in
    simp (lt-leb s 1 a, lt-leb s 2 b, lt-leb s 3 c, lt-leb s 4 d, lt-leb s 5 h)

-- sizes
pub size_16 : (s : ℕ) → s ≤ 2 → size_of s ≡ 16
unfolding size_of
size_16 s h =
    elim (dec_le s 1) [
      | yes k ↦ ap (λ (f : Facts). f.block) (line_1 s k)
      | no k ↦ ap (λ (f : Facts). f.block) (line_2 s (omega arith) h)
    ]

pub size_five : (s : ℕ) → s ≡ 5 → size_of s ≡ 16
unfolding size_of
size_five s e = ap (λ (f : Facts). f.block) (line_5 s e)

pub size_8 : (s : ℕ) → 2 < s → (s ≡ 5 → ⊥) → size_of s ≡ 8
unfolding size_of
size_8 s h n =
    elim (dec_le s 3) [
      | yes k ↦ ap (λ (f : Facts). f.block) (line_3 s (omega arith))
      | no k ↦ elim (dec_le s 4) [
        | yes i ↦ ap (λ (f : Facts). f.block) (line_4 s (omega arith))
        | no i ↦ ap (λ (f : Facts). f.block) (line_6 s (omega (arith, n)))
      ]
    ]

-- versions
pub version_one : (s : ℕ) → s ≤ 4 → version_of s ≡ one
unfolding version_of
version_one s h =
    elim (dec_le s 1) [
      | yes a ↦ ap (λ (f : Facts). f.version) (line_1 s a)
      | no a ↦ elim (dec_le s 2) [
        | yes b ↦ ap (λ (f : Facts). f.version) (line_2 s (omega arith) b)
        | no b ↦ elim (dec_le s 3) [
          | yes c ↦ ap (λ (f : Facts). f.version) (line_3 s (omega arith))
          | no c ↦ ap (λ (f : Facts). f.version) (line_4 s (omega arith))
        ]
      ]
    ]

pub version_two : (s : ℕ) → 4 < s → version_of s ≡ two
unfolding version_of
version_two s h =
    elim (dec_le s 5) [
      | yes a ↦ ap (λ (f : Facts). f.version) (line_5 s (omega arith))
      | no a ↦ ap (λ (f : Facts). f.version) (line_6 s (omega arith))
    ]

-- the version, from what its test gave
pub is_one : (v : Version) → is_two v ≡ false → v ≡ one
is_one one e = refl
is_one two e = absurd (true≢false e)

pub is_two_lem : (v : Version) → is_two v ≡ true → v ≡ two
is_two_lem one e = absurd (false≢true e)
is_two_lem two e = refl

-- engines
pub engine_1 : (s : ℕ) → needs_tables s ≡ true → engine_of s ≡ cipher
unfolding needs_tables engine_of
engine_1 s = lent (facts_of s).engine
  where
    lent : (c : BlockCipher) → has_tables c ≡ true → image_of c ≡ cipher
    lent aes128 e = refl
    lent cham128 e = absurd (false≢true e)
    lent speck64 e = absurd (false≢true e)
    lent cham64 e = absurd (false≢true e)

abbrev Wide : Facts → Type 0
Wide f = has_tables f.engine ≡ false → f.block ≡ 16 → image_of f.engine ≡ cham 32

pub engine_2 : (s : ℕ) → needs_tables s ≡ false → size_of s ≡ 16 → engine_of s ≡ cham 32
unfolding needs_tables engine_of size_of
engine_2 = each Wide (λ g e. absurd (true≢false g)) (λ g e. refl) narrow narrow (λ g e. absurd (true≢false g)) narrow
  where
    narrow : {P Q : Type 0} → Q → ◌≡◌ {A = ℕ} 8 16 → P
    narrow g e = absurd (omega arith)

pub engine_3 : (s : ℕ) → size_of s ≡ 8 → (s ≡ 4 → ⊥) → engine_of s ≡ speck
unfolding engine_of
engine_3 s e n =
    elim (dec_le s 2) [
      | yes g ↦ absurd (omega (arith, size_16 s g))
      | no g ↦ elim (dec_le s 3) [
        | yes h ↦ ap (λ (f : Facts). image_of f.engine) (line_3 s (omega arith))
        | no h ↦ elim (dec_le s 5) [
          | yes i ↦ absurd (omega (arith, size_five s (omega (arith, n))))
          | no i ↦ ap (λ (f : Facts). image_of f.engine) (line_6 s (omega arith))
        ]
      ]
    ]

pub engine_4 : (s : ℕ) → s ≡ 4 → engine_of s ≡ cham 16
unfolding engine_of
engine_4 s e = ap (λ (f : Facts). image_of f.engine) (line_4 s e)

-- ---- the tables that they borrow

abbrev tables_by : Facts → Bool
tables_by f = has_tables f.engine

pub needs_tables_early : (s : ℕ) → s ≤ 1 → needs_tables s ≡ true
unfolding needs_tables
needs_tables_early s h = ap tables_by (line_1 s h)

pub needs_tables-late : (s : ℕ) → 1 < s → needs_tables s ≡ eqb s 5
unfolding needs_tables
needs_tables-late s h =
    elim (dec_le s 2) [
      | yes a ↦ ap tables_by (line_2 s h a) ∙ sym (ne_eqb s 5 (λ e. omega arith))
      | no a ↦ elim (dec_le s 3) [
        | yes b ↦ ap tables_by (line_3 s (omega arith)) ∙ sym (ne_eqb s 5 (λ e. omega arith))
        | no b ↦ elim (dec_le s 4) [
          | yes c ↦ ap tables_by (line_4 s (omega arith)) ∙ sym (ne_eqb s 5 (λ e. omega arith))
          | no c ↦ elim (dec_le s 5) [
            | yes d ↦ ap tables_by (line_5 s (omega arith)) ∙ sym (eq-eqb s 5 (omega arith))
            | no d ↦ ap tables_by (line_6 s (omega arith)) ∙ sym (ne_eqb s 5 (λ e. omega arith))
          ]
        ]
      ]
    ]

-- for a suite whose engine needs no tables, the empty slice fits
pub none_ready : (s : ℕ) → needs_tables s ≡ false → TablesFit s []
none_ready s h = record { full = λ e. absurd (true≢false (sym e ∙ h)) }
