-- The theorems: each follows from what 0 says and from the file that it leaves.
use Prim.Native.Nat.{ℕ, ◌<◌}
use mathlib.Core.Path.{◌≡◌, sym, ap, ◌∙◌}
use mathlib.Core.Bool.{Bool, true, true≢false}
use mathlib.Core.List.{List}
use lib.ListN.{length}
use Rattle.comet.specs.Answers.{Opened, opened_as}
use Rattle.block.specs.Bytes.{AllBytes}
use Rattle.shift_format.specs.declared.row.Row.{Row}
use Rattle.status.specs.declared.checked.Answer.{Answer}
use Rattle.shift_format.specs.Format.{count_of, first_edition, row_size_of, row_of, data_of}
use Rattle.status.specs.Answers.{answer}
use Rattle.shift_check.specs.Check.{nonce_seen, check_as}
use Rattle.shift_check.proofs.Passed.{passes}
use Rattle.shift_jobs.specs.Opening.{entry_opening}
use Rattle.shift_draft.specs.Files.{entry_out}
use Rattle.shift_draft.specs.Answers.{FileWritten, writes}
use Rattle.shift_draft.specs.Promised.{RightTag}
use Rattle.shift_draft.proofs.Answers.{right-test}
use Rattle.shift_draft.proofs.Pieces.{entry_at}
use Rattle.shift_draft.proofs.Takes.{open_done}
use Rattle.shift_draft.proofs.Back.{plain_file}
use Rattle.shift_reseal.specs.Files.{resealed_file}
use Rattle.shift_reseal.specs.Answers.{file_resealing}
use Rattle.shift_reseal.specs.Promised.{HasFour, Calm, Resealed, Renewed, Renewing, NothingRetired, ResealedTwice, ClashOfCheck}
use Rattle.shift_reseal.proofs.Retabled.{clash-of-check, t_same}
use Rattle.shift_reseal.proofs.Resealed.{resealed-passes, resealed-length, resealed-count, resealed-nonce, none_left, row-three, data-three}
use Rattle.shift_reseal.proofs.Resealed.{same-message, right-again, kept-else, unchanged}
use Rattle.shift_reseal.proofs.Answers.{went, resealing}

pub of_check : ClashOfCheck
of_check = clash-of-check

-- without suite 4 the table stays, so that no two rows clash that did not before
calm_same : (f : List ℕ) → (check_as first_edition f).number ≡ 0 → ((i : ℕ) → i < count_of f → HasFour f i → ⊥) → Calm f
calm_same f z none =
    record {
      checked = z;
      calm = λ i l e. true≢false (sym e ∙ ap (λ (x : List ℕ). nonce_seen (row_size_of x) x i) (t_same f z none)
          ∙ ((passes first_edition first_edition f z).walk.rows i l).fresh);
    }

pub nothing-retired : NothingRetired
nothing-retired file ring out₀ z none r o =
    (resealing file ring out₀).done (calm_same file z none) r o (λ i l q. absurd (none i l q))
    ∙ ap (writes (answer 0 0)) (unchanged file ring z none)

-- ---- what 0 leaves

module _ (f ring : List ℕ) (hf : AllBytes f) (hr : AllBytes ring) (c : Calm f) (full : length ring ≡ 256)
    (right : (i : ℕ) → i < count_of f → HasFour f i → RightTag f ring i) where
  abbrev F : List ℕ
  F = resealed_file f ring

  passed : (check_as first_edition F).number ≡ 0
  passed = ap (λ (x : Answer). x.number) (resealed-passes f ring hf hr c full)

  resealed : (i : ℕ) → i < count_of f → HasFour f i → Resealed f ring F i
  resealed i l four =
      let row = row-three f ring hf hr c full i l four in
      let right₃ = right-again f ring hf hr c full i l four in
      let m : i < count_of F = rw (resealed-count f ring hf hr c full) l in
      let same = same-message f ring hf hr c full i l four in
      let old : (room : List ℕ) → length room ≡ (row_of f i).text_len → entry_opening f ring i room ≡ record { number = 0; out = entry_out true f ring i } =
      λ room o. open_done f ring i (entry_at first_edition f plain_file c.checked i l) full room o
      ∙ ap (λ (b : Bool). opened_as 0 b (entry_out true f ring i) room) (right-test f i ring (right i l four)) in
      let new : (room : List ℕ) → length room ≡ (row_of f i).text_len → entry_opening F ring i room ≡ record { number = 0; out = entry_out true F ring i } =
      λ room o.
      open_done F ring i (entry_at first_edition F plain_file passed i m) full room (o ∙ ap (λ (r : Row). r.text_len) (sym row))
      ∙ ap (λ (b : Bool). opened_as 0 b (entry_out true F ring i) room) (right-test F i ring right₃) in
      record {
        suite = ap (λ (r : Row). r.suite) row;
        key = ap (λ (r : Row). r.key) row;
        nonce = resealed-nonce f ring hf hr c full i l;
        ad = ap (data_of F) row ∙ data-three f ring hf hr c full i l four;
        right = right₃;
        opens = λ room o. (
          ap (λ (x : Opened). x.number) (new room o),
          new room o ∙ ap (λ (x : List ℕ). record { number = 0; out = x }) same ∙ sym (old room o),
        );
      }

  renewed : Renewed f ring F
  renewed = record {
    checked = resealed-passes f ring hf hr c full;
    none = none_left f ring hf hr c full;
    again = resealed;
    long = resealed-length f ring hf hr c full;
    kept = kept-else f ring hf hr c full;
  }

pub renewing : Renewing
renewing file ring out₀ hf hr z =
    let w = went file ring out₀ z in
    let q : (file_resealing file ring out₀).out ≡ resealed_file file ring = ap (λ (x : FileWritten). x.out) w.leaves-it in
    rw q (renewed file ring hf hr w.calm w.room.ring_long w.right)

pub resealed_twice : ResealedTwice
resealed_twice file ring out₀ out₁ hf hr o z =
    let w = went file ring out₀ z in
    let F = resealed_file file ring in
    let g = w.room.ring_long in
    ap (λ (x : FileWritten). file_resealing x.out ring out₁) w.leaves-it
    ∙ nothing-retired F ring out₁ (passed file ring hf hr w.calm g w.right) (none_left file ring hf hr w.calm g) g
    (o ∙ sym (resealed-length file ring hf hr w.calm g))
    ∙ sym w.leaves-it
