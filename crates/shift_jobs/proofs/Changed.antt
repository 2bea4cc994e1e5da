-- An entry whose tag is right, and the same entry changed inside one block alone: then its tag is wrong (demand 3).
use Prim.Native.Nat.{ℕ, ◌+◌, ◌*◌, ◌≤◌, ◌<◌}
use native.Mathlib.Decide.{dec_lt}
use native.Mathlib.Omega.{arith}
use mathlib.Core.Path.{◌≡◌, refl, sym, ap, ◌∙◌}
use mathlib.Core.Bool.{Bool, true, false}
use mathlib.Core.List.{List, []}
use mathlib.Core.Logic.{◌⊎◌, inl, inr}
use lib.ListN.{length, get_or, take, drop, length-take, get_or-eq_default}
use lib.Seq.{get_or-take, get_or-drop}
use Rattle.block.specs.Bytes.{AllBytes, same_bytes}
use Rattle.block.proofs.SameBytes.{same_true}
use Rattle.block.proofs.Lists.{all_nil, all_take, all_drop}
use Rattle.cipher.specs.Cipher.{Block, cipher_of, size_of, nonce_of}
use Rattle.cipher.proofs.Lawful.{lawful}
use Rattle.mode.specs.Mode.{nonce_size, tag_out}
use Rattle.mode.proofs.Start.{suite_nonce}
use Rattle.mode.proofs.Demand2.{empty_tag}
use Rattle.mode.proofs.Demand3.{same-before, same_behind, data-told}
use Rattle.mode.proofs.LastBlock.{last-told}
use Rattle.shift_format.specs.Part.{stretch}
use Rattle.shift_format.specs.Format.{row_size_of, nonce_start, nonce_at, row_of, data_of, text_of, tag_of, body_end}
use Rattle.shift_format.specs.Inside.{EntryIn}
use Rattle.shift_format.proofs.Rows.{stretch-length}
use Rattle.shift_jobs.specs.Opening.{ring_key, nonce_read}
use Rattle.shift_jobs.proofs.Entries.{entry_right, key-long, nonce-long}

pub all_stretch : (f : List ℕ) (at n : ℕ) → AllBytes f → AllBytes (stretch f at n)
all_stretch f at n h = all_take n (drop at f) (all_drop at f h)

-- byte k of a stretch
pub stretch_at : (f : List ℕ) (at n k : ℕ) → k < n → get_or (stretch f at n) k 0 ≡ get_or f (at + k) 0
stretch_at f at n k l = get_or-take n (drop at f) k 0 l ∙ get_or-drop at f k 0

pub nonce_bytes : (f : List ℕ) (i : ℕ) → AllBytes f → AllBytes (nonce_read f i)
unfolding nonce_at
nonce_bytes f i h = all_take (nonce_of (row_of f i).suite) (nonce_at (row_size_of f) f i) (all_stretch f (nonce_start (row_size_of f) i) 16 h)

-- and the nonce is as long as the mode wants it
pub nonce_full : (f ring : List ℕ) (i : ℕ) → EntryIn (row_size_of f) f i → length ring ≡ 256 → length (nonce_read f i) ≡ nonce_size (cipher_of (row_of f i).suite)
nonce_full f ring i h full = nonce-long f ring i h full ∙ sym (suite_nonce (row_of f i).suite)

pub key_block : (f ring : List ℕ) (i : ℕ) → EntryIn (row_size_of f) f i → length ring ≡ 256 → AllBytes ring → Block 16 (ring_key ring (row_of f i).key)
key_block f ring i h full hr = record { long = key-long f ring i h full; bytes = all_stretch ring (16 * (row_of f i).key) 16 hr }

-- two stretches of files that are alike outside of a to b: every difference lies there
inside : (f g : List ℕ) (at n a b : ℕ) → ((k : ℕ) → (k < at + a) ⊎ (at + b ≤ k) → get_or g k 0 ≡ get_or f k 0)
    → (k : ℕ) → (get_or (stretch f at n) k 0 ≡ get_or (stretch g at n) k 0 → ⊥) → (a ≤ k) × (k < b)
inside f g at n a b same k ne =
    let alike : (at + k < at + a) ⊎ (at + b ≤ at + k) → ⊥ =
    λ o. ne (elim (dec_lt k n) [
      | yes l ↦ stretch_at f at n k l ∙ sym (same (at + k) o) ∙ sym (stretch_at g at n k l)
      | no l ↦ get_or-eq_default (stretch f at n) 0 {n = k} (omega (arith, length-take n (drop at f)))
          ∙ sym (get_or-eq_default (stretch g at n) 0 {n = k} (omega (arith, length-take n (drop at g))))
    ]) in
    elim (dec_lt k a) [
      | yes l ↦ absurd (alike (inl (omega arith)))
      | no l ↦ elim (dec_lt k b) [
        | yes m ↦ (omega arith, m)
        | no m ↦ absurd (alike (inr (omega arith)))
      ]
    ]

-- row i stands in both files, with its nonce and its tag
module _ (f g ring : List ℕ) (i : ℕ) (h : EntryIn (row_size_of f) f i) (full : length ring ≡ 256) (hf : AllBytes f) (hg : AllBytes g) (hr : AllBytes ring)
    (long : length g ≡ length f)
    (row : row_of g i ≡ row_of f i) (nonce : nonce_at (row_size_of g) g i ≡ nonce_at (row_size_of f) f i) (tag : tag_of g (row_of f i) ≡ tag_of f (row_of f i))
    (right : entry_right f ring i ≡ true) where
  -- the tag that the opener computes of associated data and text
  abbrev worked : List ℕ → List ℕ → List ℕ
  worked ad text = tag_out (cipher_of (row_of f i).suite) true (ring_key ring (row_of f i).key) (nonce_read f i) ad text

  right-other : entry_right g ring i ≡ same_bytes (worked (data_of g (row_of f i)) (text_of g (row_of f i))) (tag_of f (row_of f i))
  right-other =
      (λ t. same_bytes (tag_out (cipher_of (row t).suite) true (ring_key ring (row t).key) (take (nonce_of (row t).suite) (nonce t)) (data_of g (row t))
      (text_of g (row t))) (tag_of g (row t)))
      ∙ ap (same_bytes (worked (data_of g (row_of f i)) (text_of g (row_of f i)))) tag

  -- where it is another, the tag is wrong
  pub wrong-other : (worked (data_of f (row_of f i)) (text_of f (row_of f i)) ≡ worked (data_of g (row_of f i)) (text_of g (row_of f i)) → ⊥)
      → entry_right g ring i ≡ false
  wrong-other ne = wrong (entry_right g ring i) refl
    where
      wrong : (b : Bool) → entry_right g ring i ≡ b → b ≡ false
      wrong true q = absurd (ne (same_true _ _ right ∙ sym (same_true _ _ (sym right-other ∙ q))))
      wrong false q = refl

  -- a stretch of the body is as long in both
  part-long : (at n : ℕ) → at + n ≤ body_end (row_of f i) → length (stretch f at n) ≡ length (stretch g at n)
  part-long at n b = stretch-length f at n (omega (arith, h.body-in)) ∙ sym (stretch-length g at n (omega (arith, h.body-in)))

  -- changed inside block j of the associated data, of an entry with an empty message
  pub data-wrong : (j : ℕ) → (row_of f i).text_len ≡ 0 → (data_of f (row_of f i) ≡ data_of g (row_of f i) → ⊥)
      → ((k : ℕ) → (k < (row_of f i).ad_at + j * size_of (row_of f i).suite)
      ⊎ ((row_of f i).ad_at + (j * size_of (row_of f i).suite + size_of (row_of f i).suite) ≤ k) → get_or g k 0 ≡ get_or f k 0)
      → entry_right g ring i ≡ false
  unfolding body_end
  data-wrong j empty ne same =
      let r = row_of f i in
      let κ = cipher_of r.suite in
      let n = size_of r.suite in
      let key = ring_key ring r.key in
      let v = nonce_read f i in
      let x = data_of f r in
      let y = data_of g r in
      let l : length x ≡ length y = part-long r.ad_at r.ad_len (omega arith) in
      let only = inside f g r.ad_at r.ad_len (j * n) (j * n + n) same in
      let no_text : (z : List ℕ) → text_of z r ≡ [] = λ z. ap (stretch z (r.ad_at + r.ad_len)) empty in
      wrong-other (λ e. ne
      (data-told κ (lawful r.suite) j x y (all_stretch f r.ad_at r.ad_len hf) (all_stretch g r.ad_at r.ad_len hg) l
      (same-before n j x y l only) (same_behind n j x y l only) key v [] (key_block f ring i h full hr) (nonce_bytes f i hf)
      (nonce_full f ring i h full) all_nil
      (sym (empty_tag κ key v x) ∙ ap (worked x) (sym (no_text f)) ∙ e ∙ ap (worked y) (no_text g) ∙ empty_tag κ key v y)))

  -- changed inside the last block of the ciphertext, which is block j
  pub text-wrong : (j : ℕ) → data_of g (row_of f i) ≡ data_of f (row_of f i) → (text_of f (row_of f i) ≡ text_of g (row_of f i) → ⊥)
      → j * size_of (row_of f i).suite < (row_of f i).text_len → (row_of f i).text_len ≤ j * size_of (row_of f i).suite + size_of (row_of f i).suite
      → ((k : ℕ) → (k < (row_of f i).ad_at + (row_of f i).ad_len + j * size_of (row_of f i).suite)
      ⊎ ((row_of f i).ad_at + (row_of f i).ad_len + (j * size_of (row_of f i).suite + size_of (row_of f i).suite) ≤ k) → get_or g k 0 ≡ get_or f k 0)
      → entry_right g ring i ≡ false
  unfolding body_end
  text-wrong j kept ne from last same =
      let r = row_of f i in
      let n = size_of r.suite in
      let s = r.ad_at + r.ad_len in
      let x = text_of f r in
      let y = text_of g r in
      let lx : length x ≡ r.text_len = stretch-length f s r.text_len (omega (arith, h.body-in)) in
      let l : length x ≡ length y = part-long s r.text_len (omega arith) in
      let only = inside f g s r.text_len (j * n) (j * n + n) same in
      wrong-other (λ e. ne
      (last-told (cipher_of r.suite) (lawful r.suite) j (ring_key ring r.key) (nonce_read f i) (data_of f r) x y
      (all_stretch f s r.text_len hf) (all_stretch g s r.text_len hg) l (omega arith) (omega arith) (same-before n j x y l only)
      (key_block f ring i h full hr) (nonce_bytes f i hf) (nonce_full f ring i h full) (all_stretch f r.ad_at r.ad_len hf)
      (e ∙ ap (λ (d : List ℕ). worked d y) kept)))
