-- Of two rows that read the same under one suite and key number the later would be refused with 29; and a nonce of sixteen bytes has at most its last unread.
use Prim.Native.Nat.{ℕ, zero, suc, ◌-◌}
use native.Mathlib.Decide.{dec_lt}
use native.Mathlib.Omega.{arith}
use mathlib.Core.Path.{◌≡◌, refl, sym, ap, ◌∙◌}
use mathlib.Core.Logic.{◌↔◌, ⊎_elim}
use mathlib.Core.List.{List, [], ◌∷◌, ◌++◌, append-nil}
use lib.ListN.{length, get_or, take, replicate, length-take}
use lib.Seq.{take_all}
use Rattle.block.proofs.Lists.{append_inj}
use Rattle.block.specs.Blocks.{filled}
use Rattle.cipher.specs.Cipher.{nonce_of}
use Rattle.cipher.proofs.Suites.{sizes_two, nonce_wide, nonce_narrow}
use Rattle.shift_format.specs.Format.{edition_of, count_of, row_size_of, row_of, nonce_at}
use Rattle.shift_format.proofs.Rows.{row_broad, nonce_length}
use Rattle.shift_check.proofs.Passed.{passes}
use Rattle.shift_check.proofs.Nonces.{earlier}
use Rattle.shift_jobs.specs.Nonces.{NoncesOnce, UnreadByte}

pub nonces_once : NoncesOnce
nonces_once low high f z i j li lj e =
    let h = (passes low high f z).walk in
    elim (dec_lt i j) [
      | yes m ↦ absurd (earlier (row_size_of f) f (count_of f) h j i lj m (sym e.suite) (sym e.key) (sym e.nonce))
      | no m ↦ elim (dec_lt j i) [
        | yes k ↦ absurd (earlier (row_size_of f) f (count_of f) h i j li k e.suite e.key e.nonce)
        | no k ↦ omega arith
      ]
    ]

-- ---- sixteen bytes

abbrev Unread : List ℕ → ℕ → Type 0
Unread l k = (l ≡ filled (take k l) → ⊥) ↔ ((k ≡ 15) × (get_or l 15 0 ≡ 0 → ⊥))

-- all but the last, and the last
last_of : (n : ℕ) (l : List ℕ) → length l ≡ suc n → l ≡ take n l ++ (get_or l n 0 ∷ [])
last_of n [] e = absurd (let z : ◌≡◌ {A = ℕ} 0 1 = omega arith in omega arith)
last_of zero (x ∷ []) e = refl
last_of zero (x ∷ (y ∷ l)) e = absurd (let z : ◌≡◌ {A = ℕ} 0 1 = omega arith in omega arith)
last_of (suc n) (x ∷ l) e = ap (λ (r : List ℕ). x ∷ r) (last_of n l (omega arith))

all_read : (l : List ℕ) (k : ℕ) → length l ≡ 16 → k ≡ 16 → Unread l k
all_read l k e q = (λ n. absurd (n (sym whole)), λ h. absurd (omega (arith, h.0, q)))
  where
    own : take k l ≡ l
    own = take_all k l (omega arith)

    whole : filled (take k l) ≡ l
    whole = ap filled own ∙ ap (λ (m : ℕ). l ++ replicate (16 - m) 0) e ∙ append-nil l

one_unread : (l : List ℕ) (k : ℕ) → length l ≡ 16 → k ≡ 15 → Unread l k
one_unread l k e q = (
  λ n. (q, λ z. n (last_of 15 l e ∙ ap (λ (b : ℕ). take 15 l ++ (b ∷ [])) z ∙ sym front)),
  λ h p. h.1 (ap (λ (r : List ℕ). get_or r 0 0) (append_inj (take 15 l) (get_or l 15 0 ∷ []) (take 15 l) (0 ∷ []) refl (sym (last_of 15 l e) ∙ p ∙ front)).1),
)
  where
    long : length (take 15 l) ≡ 15
    long = length-take 15 l ∙ omega arith

    front : filled (take k l) ≡ take 15 l ++ (0 ∷ [])
    front = ap (λ (m : ℕ). filled (take m l)) q ∙ ap (λ (m : ℕ). take 15 l ++ replicate (16 - m) 0) long

pub unread_byte : UnreadByte
unread_byte f i fits =
    let w = row_size_of f in
    let s = (row_of f i).suite in
    let long = nonce_length w f i (record { broad = row_broad (edition_of f); fits = fits }) in
    ⊎_elim (λ q. all_read (nonce_at w f i) (nonce_of s) long (nonce_wide s q)) (λ q. one_unread (nonce_at w f i) (nonce_of s) long (nonce_narrow s q)) (sizes_two s)
