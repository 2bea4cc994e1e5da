-- There and back (document 02, W4): each piece is put back unchanged, and all else was kept.
use Prim.Native.Nat.{ℕ, ◌+◌, ◌<◌}
use mathlib.Core.Path.{◌≡◌, refl, sym, ap, ap₂, ◌∙◌}
use mathlib.Core.Bool.{Bool, true, false, not}
use mathlib.Core.List.{List, ◌++◌}
use lib.ListN.{length, replicate, length-append, length-replicate}
use lib.Dec.{lit<}
use Rattle.cipher.specs.Cipher.{size_of}
use Rattle.shift_format.specs.declared.row.Row.{Row}
use Rattle.status.specs.declared.checked.Answer.{Answer}
use Rattle.shift_format.specs.Format.{count_of, first_edition, row_size, row_size_of, nonce_at, row_of, data_of, text_of, tag_of}
use Rattle.status.specs.Answers.{answer}
use Rattle.shift_check.specs.Check.{check_as}
use Rattle.shift_format.specs.Inside.{EntryIn}
use Rattle.shift_draft.specs.Files.{draft_edition, piece_size, entry_out, entry_tag, sealed_piece, draft_piece, rewritten, sealed_file, draft_file}
use Rattle.shift_draft.specs.Answers.{FileWritten, writes, file_sealing, file_unsealing}
use Rattle.shift_draft.specs.Promised.{Valid, AllSeal, Genuine, WithRing, SealedBack, UnsealedBack}
use Rattle.shift_draft.proofs.Rewritten.{Plain, same_length, same_row, same-nonce, same-data, same_count, parts_are, passes-again, put_back}
use Rattle.shift_draft.proofs.Pieces.{entry_at, out-long, tag_size_lem, own-piece, out-back, mark-back}
use Rattle.shift_draft.proofs.Answers.{sealing, unsealing}

pub plain_draft : Plain draft_edition
unfolding row_size
plain_draft = (refl, lit< tt)

pub plain_file : Plain first_edition
plain_file = (refl, lit< tt)

-- ---- a file that passes, rewritten: its text is what direction d makes of it, and `tag` follows it

module _ (e₀ e : ℕ) (p₀ : Plain e₀) (p : Plain e) (d : Bool) (f ring : List ℕ) (lent : WithRing f ring) (z : (check_as e₀ f).number ≡ 0)
    (tag : ℕ → List ℕ) (tag-long : (i : ℕ) → i < count_of f → length (tag i) ≡ size_of (row_of f i).suite) where
  abbrev piece : ℕ → List ℕ
  piece i = entry_out d f ring i ++ tag i

  abbrev new : List ℕ
  new = rewritten e piece f

  taken : (i : ℕ) → i < count_of f → EntryIn (row_size_of f) f i
  taken = entry_at e₀ f p₀ z

  piece-long : (i : ℕ) → i < count_of f → length (piece i) ≡ piece_size f i
  piece-long i l =
      length-append (entry_out d f ring i) (tag i)
      ∙ ap₂ (λ (a b : ℕ). a + b) (out-long f ring i (taken i l) lent.ring_long lent.file-bytes lent.ring-bytes d) (tag-long i l)

  new-passes : check_as e new ≡ answer 0 0
  new-passes = passes-again e₀ f p₀ z e p piece piece-long

  new-length : length new ≡ length f
  new-length = same_length e₀ f p₀ z e p piece piece-long

  new-count : count_of new ≡ count_of f
  new-count = same_count e₀ f p₀ z e p piece piece-long

  module _ (i : ℕ) (l : i < count_of f) where
    new_row : row_of new i ≡ row_of f i
    new_row = same_row e₀ f p₀ z e p piece piece-long i l

    new-nonce : nonce_at (row_size_of new) new i ≡ nonce_at (row_size_of f) f i
    new-nonce = same-nonce e₀ f p₀ z e p piece piece-long i l

    new-data : data_of new (row_of f i) ≡ data_of f (row_of f i)
    new-data = same-data e₀ f p₀ z e p piece piece-long i l

    new-parts : (text_of new (row_of f i) ≡ entry_out d f ring i) × (tag_of new (row_of f i) ≡ tag i)
    new-parts =
        parts_are e₀ f p₀ z e p piece piece-long i l (entry_out d f ring i) (tag i) refl
        (out-long f ring i (taken i l) lent.ring_long lent.file-bytes lent.ring-bytes d)

    new-tag : tag_of new (row_of new i) ≡ tag i
    new-tag = ap (tag_of new) new_row ∙ new-parts.1

    -- the other direction computes the same tag, and gives the text back
    other_tag : entry_tag (not d) new ring i ≡ entry_tag d f ring i
    other_tag = mark-back f ring i (taken i l) lent.ring_long lent.file-bytes lent.ring-bytes d new new_row new-nonce new-data new-parts.0

    other-out : entry_out (not d) new ring i ≡ text_of f (row_of f i)
    other-out = out-back f ring i (taken i l) lent.ring_long lent.file-bytes lent.ring-bytes d new new_row new-nonce new-data new-parts.0

  -- so, with the old tags after it, the old file is there again
  there-again : (old : ℕ → List ℕ) → ((i : ℕ) → i < count_of f → old i ≡ tag_of f (row_of f i)) → rewritten e₀ (λ i. entry_out (not d) new ring i ++ old i) new ≡ f
  there-again old own =
      put_back e₀ f p₀ z e p piece piece-long lent.file-bytes (λ i. entry_out (not d) new ring i ++ old i)
      (λ i l.
      ap₂ (λ (a b : List ℕ). a ++ b) (other-out i l) (own i l)
      ∙ own-piece f ring i (taken i l) lent.ring_long lent.file-bytes lent.ring-bytes)

-- ---- sealing: the tag is the one that goes with the text

module _ (draft ring : List ℕ) (lent : WithRing draft ring) (z : (check_as draft_edition draft).number ≡ 0) where
  right-long : (i : ℕ) → i < count_of draft → length (entry_tag false draft ring i) ≡ size_of (row_of draft i).suite
  right-long i l = tag_size_lem draft ring i (entry_at draft_edition draft plain_draft z i l) lent.ring_long lent.file-bytes lent.ring-bytes false

  abbrev sealed : List ℕ
  sealed = new draft_edition first_edition plain_draft plain_file false draft ring lent z (entry_tag false draft ring) right-long

  sealed-is : sealed_file draft ring ≡ sealed
  unfolding sealed_file sealed_piece
  sealed-is = refl

  sealed-length : length sealed ≡ length draft
  sealed-length = new-length draft_edition first_edition plain_draft plain_file false draft ring lent z (entry_tag false draft ring) right-long

  sealed-genuine : Genuine sealed ring
  sealed-genuine = record {
    checked = new-passes draft_edition first_edition plain_draft plain_file false draft ring lent z (entry_tag false draft ring) right-long;
    right = λ i l.
        let m : i < count_of draft = rw (sym (new-count draft_edition first_edition plain_draft plain_file false draft ring lent z
        (entry_tag false draft ring) right-long)) l in
        other_tag draft_edition first_edition plain_draft plain_file false draft ring lent z (entry_tag false draft ring) right-long i m
        ∙ sym (new-tag draft_edition first_edition plain_draft plain_file false draft ring lent z (entry_tag false draft ring) right-long i m);
  }

  sealed-back : Valid draft → draft_file sealed ring ≡ draft
  unfolding draft_file draft_piece
  sealed-back v =
      there-again draft_edition first_edition plain_draft plain_file false draft ring lent z (entry_tag false draft ring) right-long
      (λ i. replicate (size_of (row_of sealed i).suite) 0)
      (λ i l.
      ap (λ (r : Row). replicate (size_of r.suite) 0) (new_row draft_edition first_edition plain_draft plain_file false draft ring lent z
      (entry_tag false draft ring) right-long i l)
      ∙ sym (v.zeros i l))

-- ---- unsealing: the tag is zeros

module _ (file ring : List ℕ) (lent : WithRing file ring) (z : (check_as first_edition file).number ≡ 0) where
  abbrev zeros : ℕ → List ℕ
  zeros i = replicate (size_of (row_of file i).suite) 0

  zeros-long : (i : ℕ) → i < count_of file → length (zeros i) ≡ size_of (row_of file i).suite
  zeros-long i l = length-replicate (size_of (row_of file i).suite) 0

  abbrev opened : List ℕ
  opened = new first_edition draft_edition plain_file plain_draft true file ring lent z zeros zeros-long

  opened-is : draft_file file ring ≡ opened
  unfolding draft_file draft_piece
  opened-is = refl

  opened-length : length opened ≡ length file
  opened-length = new-length first_edition draft_edition plain_file plain_draft true file ring lent z zeros zeros-long

  opened-valid : Valid opened
  opened-valid = record {
    checked = new-passes first_edition draft_edition plain_file plain_draft true file ring lent z zeros zeros-long;
    zeros = λ i l.
        let m : i < count_of file = rw (sym (new-count first_edition draft_edition plain_file plain_draft true file ring lent z zeros zeros-long)) l in
        new-tag first_edition draft_edition plain_file plain_draft true file ring lent z zeros zeros-long i m
        ∙ ap (λ (r : Row). replicate (size_of r.suite) 0)
        (sym (new_row first_edition draft_edition plain_file plain_draft true file ring lent z zeros zeros-long i m));
  }

  opened-seals : AllSeal file → AllSeal opened
  opened-seals a i l =
      let m : i < count_of file = rw (sym (new-count first_edition draft_edition plain_file plain_draft true file ring lent z zeros zeros-long)) l in
      rw (new_row first_edition draft_edition plain_file plain_draft true file ring lent z zeros zeros-long i m) (a i m)

  opened_back : Genuine file ring → sealed_file opened ring ≡ file
  unfolding sealed_file sealed_piece
  opened_back g =
      there-again first_edition draft_edition plain_file plain_draft true file ring lent z zeros zeros-long
      (entry_tag false opened ring)
      (λ i l. other_tag first_edition draft_edition plain_file plain_draft true file ring lent z zeros zeros-long i l ∙ g.right i l)

-- ---- the theorems

pub sealed_then_unsealed : SealedBack
sealed_then_unsealed draft ring out₀ out₁ lent o₀ o₁ v a =
    let z = ap (λ (x : Answer). x.number) v.checked in
    let e = (sealing draft ring out₀).done v a lent.ring_long o₀ in
    let x : (file_sealing draft ring out₀).out ≡ sealed draft ring lent z = ap (λ (w : FileWritten). w.out) e ∙ sealed-is draft ring lent z in
    let g = sealed-genuine draft ring lent z in (
      ap (λ (w : FileWritten). w.answer) e,
      rw x g,
      ap (λ (f : List ℕ). file_unsealing f ring out₁) x
          ∙ (unsealing (sealed draft ring lent z) ring out₁).done g lent.ring_long (o₁ ∙ sym (sealed-length draft ring lent z))
          ∙ ap (writes (answer 0 0)) (sealed-back draft ring lent z v),
    )

pub unsealed_then_sealed : UnsealedBack
unsealed_then_sealed file ring out₀ out₁ lent o₀ o₁ g =
    let z = ap (λ (x : Answer). x.number) g.checked in
    let e = (unsealing file ring out₀).done g lent.ring_long o₀ in
    let x : (file_unsealing file ring out₀).out ≡ opened file ring lent z = ap (λ (w : FileWritten). w.out) e ∙ opened-is file ring lent z in
    let v = opened-valid file ring lent z in (
      ap (λ (w : FileWritten). w.answer) e,
      rw x v,
      λ a.
          ap (λ (f : List ℕ). file_sealing f ring out₁) x
          ∙ (sealing (opened file ring lent z) ring out₁).done v (opened-seals file ring lent z a) lent.ring_long (o₁ ∙ sym (opened-length file ring lent z))
          ∙ ap (writes (answer 0 0)) (opened_back file ring lent z g),
    )
