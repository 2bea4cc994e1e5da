-- A row of a file that passes has a suite and lengths that sealer and opener take, so their refusals cannot come out.
use Prim.Native.Nat.{ℕ, ◌≤◌}
use native.Mathlib.Omega.{arith}
use mathlib.Core.Path.{◌≡◌, sym, ap, ◌∙◌}
use mathlib.Core.Bool.{Bool, true, false}
use mathlib.Core.List.{List}
use mathlib.Core.Logic.{◌⊎◌, inl, inr}
use lib.ListN.{length, length-take}
use borrow.Author.Tests.{eq-eqb}
use Rattle.cipher.specs.Cipher.{Seals, size_of, nonce_of, limit}
use Rattle.cipher.proofs.Suites.{nonce_most, seals-has}
use Rattle.comet.specs.Answers.{Sealed, sealed_as, sealing, Opened, opened_as}
use Rattle.status.proofs.Refuse.{none_bad}
use Rattle.shift_format.specs.Format.{row_size_of, nonce_at, row_of, text_of}
use Rattle.shift_format.specs.Inside.{EntryIn}
use Rattle.shift_format.proofs.Rows.{nonce_length}
use Rattle.shift_jobs.specs.Opening.{entry_sealing_as, entry_sealing, entry_opening}
use Rattle.shift_jobs.proofs.Entries.{key-long, data-long, text-long, entry-opened}
use Rattle.shift_draft.specs.Files.{text_as, tag_as, entry_out, entry_tag}
use Rattle.shift_draft.specs.Answers.{tag_right}
use Rattle.shift_draft.specs.Promised.{SealerTakes, OpenerTakes}
use Rattle.shift_draft.proofs.Pieces.{entry_at}
use Rattle.shift_draft.proofs.Back.{plain_draft, plain_file}

module _ (f ring : List ℕ) (i : ℕ) (h : EntryIn (row_size_of f) f i) (g : length ring ≡ 256) where
  -- the sealer gives text and tag, of any text under any suite that seals
  pub as-done : (suite : ℕ) (text out tag : List ℕ) → Seals suite → length text ≤ limit → length out ≡ length text → length tag ≡ size_of suite
      → entry_sealing_as f ring i suite text out tag ≡ record { number = 0; out = text_as false f ring i suite text; tag = tag_as false f ring i suite text }
  unfolding sealing
  as-done suite text out tag s m lo lt =
      ap (λ (n : ℕ). sealed_as n (text_as false f ring i suite text) (tag_as false f ring i suite text) out tag)
      (none_bad false _ _ _ _ _ _ _ s (record {
        suite = seals-has suite s;
        key = key-long f ring i h g;
        nonce = length-take (nonce_of suite) (nonce_at (row_size_of f) f i) ∙ omega (arith, nonce_length (row_size_of f) f i h.row_in, nonce_most suite);
        extra = omega (arith, data-long f ring i h g, h.data-high);
        text = m;
        room = lo;
        tag = lt;
      }))

  -- of the entry's own text, under its own suite
  seal-done : (out tag : List ℕ) → Seals (row_of f i).suite → length out ≡ (row_of f i).text_len → length tag ≡ size_of (row_of f i).suite
      → entry_sealing f ring i out tag ≡ record { number = 0; out = entry_out false f ring i; tag = entry_tag false f ring i }
  unfolding entry_sealing entry_out entry_tag
  seal-done out tag s lo lt =
      let l = text-long f ring i h g in
      as-done (row_of f i).suite (text_of f (row_of f i)) out tag s (omega (arith, l, h.text-high)) (lo ∙ sym l) lt

  -- the opener goes by the tag
  pub open_done : (out : List ℕ) → length out ≡ (row_of f i).text_len → entry_opening f ring i out ≡ opened_as 0 (tag_right f ring i) (entry_out true f ring i) out
  unfolding tag_right entry_tag entry_out
  open_done out l = rw (eq-eqb _ _ l) at (entry-opened f ring i h g out)

pub sealer_takes : SealerTakes
sealer_takes draft ring out tag i z g l s lo lt = ap (λ (x : Sealed). x.number) (seal-done draft ring i (entry_at _ draft plain_draft z i l) g out tag s lo lt)

pub opener_takes : OpenerTakes
opener_takes file ring out i z g l lo =
    let q = ap (λ (x : Opened). x.number) (open_done file ring i (entry_at _ file plain_file z i l) g out lo) in
    tag-case (tag_right file ring i) q
  where
    tag-case : (b : Bool) → (entry_opening file ring i out).number ≡ (opened_as 0 b (entry_out true file ring i) out).number
        → ((entry_opening file ring i out).number ≡ 0) ⊎ ((entry_opening file ring i out).number ≡ 8)
    tag-case true q = inl q
    tag-case false q = inr q
