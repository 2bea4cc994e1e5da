-- Demand 2 by citation: sealing and opening undo each other, so the pairs that open are those that sealing makes.
use mathlib.Core.Path.{◌≡◌, refl, sym, ap, ap₂, ◌∙◌, subst}
use mathlib.Core.Bool.{true, false}
use Prim.Native.Nat.{ℕ, zero, suc, ◌≤◌}
use native.Mathlib.Nat.{suc-ne-zero}
use mathlib.Core.List.{List}
use lib.ListN.{length}
use Rattle.block.specs.Bytes.{AllBytes}
use Rattle.cipher.specs.Cipher.{Block, cipher_of, limit}
use Rattle.cipher.proofs.Lawful.{lawful}
use Rattle.mode.specs.Mode.{ciphertext, tag, text_out, tag_out}
use Rattle.mode.proofs.Demand2.{text-length, text-bytes, text-back, tag_back, tag-block}
use Rattle.comet.specs.Answers.{Sealed, sealed_as, sealing, Opened}
use Rattle.status.specs.Verdicts.{refusal}
use Rattle.status.proofs.Refuse.{none_bad}
use Rattle.promises.specs.Input.{Input}
use Rattle.promises.specs.Demand2.{Sealing, Accepting, AcceptsSealed, Returning, RoundTrip}
use Rattle.promises.proofs.Answers.{fits, nonce-right, opens, opened-tag}

pub sealing_is : Sealing
unfolding sealing
sealing_is suite key nonce ad msg out₀ tag₀ i s lo lt =
    ap (λ (n : ℕ). sealed_as n (ciphertext (cipher_of suite) key nonce ad msg) (tag (cipher_of suite) key nonce ad msg) out₀ tag₀)
    (none_bad false suite (length key) (length nonce) (length ad) (length msg) (length out₀) (length tag₀) s (fits suite key nonce ad msg out₀ tag₀ i lo lt))

pub returning : Returning
returning suite key nonce ad c t out₀ m i lo lt hm ec et =
    let κ = cipher_of suite in
    let L = lawful suite in
    let eg : tag_out κ true key nonce ad c ≡ t = ap (tag_out κ true key nonce ad) (sym ec) ∙ tag_back κ L key nonce ad false m hm ∙ et in
    let em : text_out κ true key nonce ad c ≡ m = ap (text_out κ true key nonce ad) (sym ec) ∙ text-back κ L key nonce ad false m hm in
    opens suite key nonce ad c t out₀ i lo lt eg ∙ message-path em
  where
    message-path : {x y : List ℕ} → x ≡ y → ◌≡◌ {A = Opened} (record { number = 0; out = x }) (record { number = 0; out = y })
    message-path p = λ i. record { number = 0; out = p i }

pub accepting : Accepting
accepting suite key nonce ad c t out₀ i lo lt =
    let κ = cipher_of suite in
    let L = lawful suite in
    let m = text_out κ true key nonce ad c in (
      λ e. (
        m,
        text-bytes κ L key nonce ad true c i.texts.text-bytes,
        text-back κ L key nonce ad true c i.texts.text-bytes,
        tag_back κ L key nonce ad true c i.texts.text-bytes ∙ opened-tag suite key nonce ad c t out₀ i lo lt e,
      ),
      λ w. ap (λ (r : Opened). r.number) (returning suite key nonce ad c t out₀ w.0 i lo lt w.1 w.2 w.3),
    )

-- the same input with another text of the same length
with_text : (suite : ℕ) (key nonce ad text other : List ℕ) → Input suite key nonce ad text → AllBytes other → length other ≡ length text
    → Input suite key nonce ad other
with_text suite key nonce ad text other i h e =
    let x = i.texts in
    record {
      texts = record {
        suite-is = x.suite-is;
        key-bytes = x.key-bytes;
        key-length = x.key-length;
        nonce_bytes = x.nonce_bytes;
        nonce_length = x.nonce_length;
        ad-bytes = x.ad-bytes;
        text-bytes = h;
      };
      ad-most = i.ad-most;
      text-most = subst (λ (n : ℕ). n ≤ limit) (sym e) i.text-most;
    }

-- what the sealer leaves with 0 is what it computed
sealed-pair : (n : ℕ) (text tag out₁ tag₁ c t : List ℕ) → sealed_as n text tag out₁ tag₁ ≡ record { number = 0; out = c; tag = t } → (text ≡ c) × (tag ≡ t)
sealed-pair zero text tag out₁ tag₁ c t e = (ap (λ (r : Sealed). r.out) e, ap (λ (r : Sealed). r.tag) e)
sealed-pair (suc n) text tag out₁ tag₁ c t e = absurd (suc-ne-zero n (ap (λ (r : Sealed). r.number) e))

sealing-pair : (suite : ℕ) (key nonce ad m out₁ tag₁ c t : List ℕ) → sealing suite key nonce ad m out₁ tag₁ ≡ record { number = 0; out = c; tag = t }
    → (ciphertext (cipher_of suite) key nonce ad m ≡ c) × (tag (cipher_of suite) key nonce ad m ≡ t)
unfolding sealing
sealing-pair suite key nonce ad m out₁ tag₁ c t e =
    sealed-pair (refusal false suite (length key) (length nonce) (length ad) (length m) (length out₁) (length tag₁)) _ _ out₁ tag₁ c t e

pub accepts_sealed : AcceptsSealed
accepts_sealed suite key nonce ad c t out₀ i s lo lt =
    let κ = cipher_of suite in (
      λ e.
          let w = (accepting suite key nonce ad c t out₀ i lo lt).0 e in
          let m = w.0 in
          let lm : length m ≡ length c = sym (text-length κ (lawful suite) key nonce ad false m w.1) ∙ ap length w.2 in (
            m,
            m,
            t,
            w.1,
            sealing_is suite key nonce ad m m t (with_text suite key nonce ad c m i w.1 lm) s refl lt
                ∙ ap₂ (λ (o g : List ℕ). record { number = 0; out = o; tag = g }) w.2 w.3,
          ),
      λ w.
          let p = sealing-pair suite key nonce ad w.0 w.1 w.2 c t w.4 in
          (accepting suite key nonce ad c t out₀ i lo lt).1 (w.0, w.3, p.0, p.1),
    )

pub round_trip : RoundTrip
round_trip suite key nonce ad msg out₀ i lo =
    let x = i.texts in
    let κ = cipher_of suite in
    let L = lawful suite in
    let c = ciphertext κ key nonce ad msg in
    let lc : length c ≡ length msg = text-length κ L key nonce ad false msg x.text-bytes in
    let hk : Block 16 key = record { long = x.key-length; bytes = x.key-bytes } in
    let ic : Input suite key nonce ad c = with_text suite key nonce ad msg c i (text-bytes κ L key nonce ad false msg x.text-bytes) lc in
    returning suite key nonce ad c (tag κ key nonce ad msg) out₀ msg ic (lo ∙ sym lc)
    (tag-block κ L key nonce ad false msg hk x.nonce_bytes (nonce-right suite key nonce ad msg x) x.ad-bytes x.text-bytes).long
    x.text-bytes refl refl
