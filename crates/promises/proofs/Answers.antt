-- The opener by cases: lengths right and the tag right, or wrong.
use mathlib.Core.Path.{◌≡◌, refl, sym, ap, ◌∙◌}
use mathlib.Core.Bool.{Bool, true, false}
use Prim.Native.Nat.{ℕ}
use mathlib.Core.List.{List}
use lib.ListN.{length, replicate}
use Rattle.block.specs.Bytes.{same_bytes}
use Rattle.block.proofs.SameBytes.{same_refl, same_true}
use Rattle.cipher.specs.Cipher.{cipher_of, size_of}
use Rattle.mode.specs.Mode.{nonce_size, text_out, tag_out}
use Rattle.mode.proofs.Start.{suite_nonce}
use Rattle.comet.specs.Answers.{Opened, opened_as, opening}
use Rattle.status.proofs.Refuse.{Passed, none_bad}
use Rattle.comet.proofs.Left.{tag_right}
use Rattle.promises.specs.Input.{Texts, Input}

-- ---- lengths that are right

-- the nonce's, as the mode knows it
pub nonce-right : (suite : ℕ) (key nonce ad text : List ℕ) → Texts suite key nonce ad text → length nonce ≡ nonce_size (cipher_of suite)
nonce-right suite key nonce ad text i = i.nonce_length ∙ sym (suite_nonce suite)

pub fits : (suite : ℕ) (key nonce ad text out tag : List ℕ) → Input suite key nonce ad text → length out ≡ length text → length tag ≡ size_of suite
    → Passed suite (length key) (length nonce) (length ad) (length text) (length out) (length tag)
fits suite key nonce ad text out tag i lo lt =
    record {
      suite = i.texts.suite-is;
      key = i.texts.key-length;
      nonce = i.texts.nonce_length;
      extra = i.ad-most;
      text = i.text-most;
      room = lo;
      tag = lt;
    }

module _ (suite : ℕ) (key nonce ad c t out₀ : List ℕ) (i : Input suite key nonce ad c) (lo : length out₀ ≡ length c) (lt : length t ≡ size_of suite) where
  pub by-tag : opening suite key nonce ad c t out₀ ≡ opened_as 0 (same_bytes (tag_out (cipher_of suite) true key nonce ad c) t)
      (text_out (cipher_of suite) true key nonce ad c) out₀
  unfolding opening
  by-tag =
      ap (λ (n : ℕ). opened_as n (same_bytes (tag_out (cipher_of suite) true key nonce ad c) t) (text_out (cipher_of suite) true key nonce ad c) out₀)
      (none_bad true suite (length key) (length nonce) (length ad) (length c) (length out₀) (length t) refl (fits suite key nonce ad c out₀ t i lo lt))

  -- the right tag opens
  pub opens : tag_out (cipher_of suite) true key nonce ad c ≡ t → opening suite key nonce ad c t out₀
      ≡ record { number = 0; out = text_out (cipher_of suite) true key nonce ad c }
  opens e =
      by-tag
      ∙ ap (λ (b : Bool). opened_as 0 b (text_out (cipher_of suite) true key nonce ad c) out₀)
      (ap (λ (g : List ℕ). same_bytes g t) e ∙ same_refl t)

  -- what opens has the right tag
  pub opened-tag : (opening suite key nonce ad c t out₀).number ≡ 0 → tag_out (cipher_of suite) true key nonce ad c ≡ t
  opened-tag e =
      same_true (tag_out (cipher_of suite) true key nonce ad c) t
      (tag_right (same_bytes (tag_out (cipher_of suite) true key nonce ad c) t) (text_out (cipher_of suite) true key nonce ad c) out₀
      (sym (ap (λ (r : Opened). r.number) by-tag) ∙ e))

  -- any other is refused with 8, and zeros
  pub refuses : (tag_out (cipher_of suite) true key nonce ad c ≡ t → ⊥) → opening suite key nonce ad c t out₀
      ≡ record { number = 8; out = replicate (length out₀) 0 }
  refuses ne = by-tag ∙ go (same_bytes (tag_out (cipher_of suite) true key nonce ad c) t) refl
    where
      go : (b : Bool) → same_bytes (tag_out (cipher_of suite) true key nonce ad c) t ≡ b
          → opened_as 0 b (text_out (cipher_of suite) true key nonce ad c) out₀ ≡ record { number = 8; out = replicate (length out₀) 0 }
      go true e = absurd (ne (same_true (tag_out (cipher_of suite) true key nonce ad c) t e))
      go false e = refl
