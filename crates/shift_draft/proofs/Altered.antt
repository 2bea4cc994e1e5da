-- A genuine file, altered inside one block of one entry: every other tag is still right, and this one is wrong (demand 3).
use Prim.Native.Nat.{ℕ, ◌+◌, ◌-◌, ◌≤◌, ◌<◌}
use native.Mathlib.Decide.{dec_lt}
use native.Mathlib.Omega.{arith}
use mathlib.Core.Path.{◌≡◌, sym, ap, ◌∙◌}
use mathlib.Core.Bool.{true, false, cond, true≢false}
use mathlib.Core.List.{List}
use mathlib.Core.Logic.{◌⊎◌, inl, inr, ⊎_elim}
use lib.ListN.{length, get_or, replicate}
use lib.Seq.{ext_get_or}
use Rattle.block.specs.Bytes.{AllBytes}
use Rattle.cipher.specs.Cipher.{size_of}
use Rattle.status.specs.declared.checked.Answer.{Answer}
use Rattle.shift_format.specs.Part.{stretch}
use Rattle.shift_format.specs.Format.{edition_of, count_of, first_edition, row_size, row_size_of, row_at, nonce_at, row_of, text_of, tag_of, body_end}
use Rattle.status.specs.Answers.{answer}
use Rattle.shift_check.specs.Check.{bad_data, check_as}
use Rattle.shift_format.specs.Inside.{EntryIn}
use Rattle.shift_format.proofs.Rows.{row_broad}
use Rattle.shift_check.proofs.Passed.{Passes, passes}
use Rattle.shift_check.proofs.Alike.{AgreeTable, stretch-same, row_same, nonce-same, count_same}
use Rattle.shift_check.proofs.Kept.{body-table, body-edition, body-other, body-check, data_held}
use Rattle.shift_jobs.proofs.Entries.{entry_right}
use Rattle.shift_jobs.proofs.Changed.{stretch_at, data-wrong, text-wrong}
use Rattle.shift_draft.specs.Files.{piece_start, entry_tag}
use Rattle.shift_draft.specs.Answers.{tag_right, writes, file_unsealing}
use Rattle.shift_draft.specs.Promised.{RightTag, Genuine, WithRing, TextAltered, DataAltered}
use Rattle.shift_draft.proofs.Pieces.{entry_at, tag_same}
use Rattle.shift_draft.proofs.Back.{plain_file}
use Rattle.shift_draft.proofs.Answers.{right-test, unsealing}

-- files that are alike outside of a stretch, and in it, are alike
same_file : (f g : List ℕ) (at n : ℕ) → length g ≡ length f → ((k : ℕ) → (k < at) ⊎ (at + n ≤ k) → get_or g k 0 ≡ get_or f k 0) → stretch f at n ≡ stretch g at n
    → g ≡ f
same_file f g at n long same q =
    ext_get_or 0 g f long
    (λ k c. elim (dec_lt k at) [
      | yes a ↦ same k (inl a)
      | no a ↦ elim (dec_lt k (at + n)) [
        | no b ↦ same k (inr (omega arith))
        | yes b ↦
            let m : k - at < n = omega arith in
            let s : at + (k - at) ≡ k = omega arith in
            let e : get_or g (at + (k - at)) 0 ≡ get_or f (at + (k - at)) 0 = sym (stretch_at g at n (k - at) m) ∙ ap (λ (x : List ℕ). get_or x (k - at) 0) (sym q)
            ∙ stretch_at f at n (k - at) m in
            rw s at e
      ]
    ])

-- the files are alike outside of associated data and text of row i
module _ (f g ring : List ℕ) (lent : WithRing f ring) (hg : AllBytes g) (genuine : Genuine f ring) (i : ℕ) (l : i < count_of f) (long : length g ≡ length f)
    (same : (k : ℕ) → (k < (row_of f i).ad_at) ⊎ ((row_of f i).ad_at + (row_of f i).ad_len + (row_of f i).text_len ≤ k) → get_or g k 0 ≡ get_or f k 0) where
  z : (check_as first_edition f).number ≡ 0
  z = ap (λ (x : Answer). x.number) genuine.checked

  P : Passes first_edition first_edition f
  P = passes first_edition first_edition f z

  outside : (k : ℕ) → (k < (row_of f i).ad_at) ⊎ (body_end (row_of f i) ≤ k) → get_or g k 0 ≡ get_or f k 0
  unfolding body_end
  outside k = ⊎_elim (λ a. same k (inl a)) (λ a. same k (inr (omega arith)))

  table : AgreeTable g f long (row_size_of f) (count_of f)
  table = body-table f g long first_edition first_edition P i l outside

  g-row-size : row_size_of g ≡ row_size_of f
  g-row-size = ap row_size (body-edition f g long first_edition first_edition P i l outside)

  g-count : count_of g ≡ count_of f
  g-count = count_same g f long (row_size_of f) (count_of f) (row_broad (edition_of f)) table

  g-row : (k : ℕ) → k < count_of f → row_of g k ≡ row_of f k
  g-row k m = ap (λ (w : ℕ). row_at w g k) g-row-size ∙ row_same g f long (row_size_of f) (count_of f) (row_broad (edition_of f)) table k m

  g-nonce : (k : ℕ) → k < count_of f → nonce_at (row_size_of g) g k ≡ nonce_at (row_size_of f) f k
  g-nonce k m = ap (λ (w : ℕ). nonce_at w g k) g-row-size ∙ nonce-same g f long (row_size_of f) (count_of f) (row_broad (edition_of f)) table k m

  g-tag : tag_of g (row_of f i) ≡ tag_of f (row_of f i)
  g-tag = let r = row_of f i in stretch-same g f long (r.ad_at + r.ad_len + r.text_len) (size_of r.suite) (λ k a b. same k (inr a))

  taken : EntryIn (row_size_of f) f i
  taken = entry_at first_edition f plain_file z i l

  -- every other entry is unchanged
  other-right : (k : ℕ) → k < count_of f → (k ≡ i → ⊥) → RightTag g ring k
  unfolding entry_tag body_end
  other-right k m ne =
      let r = row_of f k in
      let kept : (at n : ℕ) → r.ad_at ≤ at → at + n ≤ body_end r → stretch g at n ≡ stretch f at n =
      λ at n a b. stretch-same g f long at n (λ p c d. body-other f g long first_edition first_edition P i l outside k m ne p (omega arith) (omega arith)) in
      tag_same f g ring k true (text_of f r) (g-row k m) (g-nonce k m) (kept r.ad_at r.ad_len (omega arith) (omega arith))
      (kept (r.ad_at + r.ad_len) r.text_len (omega arith) (omega arith))
      ∙ genuine.right k m
      ∙ sym (ap (tag_of g) (g-row k m) ∙ kept (r.ad_at + r.ad_len + r.text_len) (size_of r.suite) (omega arith) (omega arith))

  was-right : entry_right f ring i ≡ true
  unfolding tag_right entry_tag
  was-right = right-test f i ring (genuine.right i l)

  g-check : check_as first_edition g ≡ cond (bad_data g (row_of f i)) (answer 30 i) (answer 0 0)
  g-check = body-check f g long first_edition first_edition P i l outside

  module _ (out : List ℕ) (o : length out ≡ length f) where
    thirty : bad_data g (row_of f i) ≡ true → file_unsealing g ring out ≡ writes (answer 30 i) out
    thirty b =
        let q : check_as first_edition g ≡ answer 30 i = rw b at g-check in
        (unsealing g ring out).checked (λ e. let w : ◌≡◌ {A = ℕ} 30 0 = sym (ap (λ (x : Answer). x.number) q) ∙ e in omega arith)
        ∙ ap (λ (x : Answer). writes x out) q

    eight : bad_data g (row_of f i) ≡ false → entry_right g ring i ≡ false → file_unsealing g ring out ≡ writes (answer 8 i) (replicate (length out) 0)
    unfolding tag_right entry_tag
    eight b w =
        let q : check_as first_edition g ≡ answer 0 0 = rw b at g-check in
        (unsealing g ring out).tags (ap (λ (x : Answer). x.number) q) lent.ring_long (o ∙ sym long) i (rw g-count l)
        (λ r. true≢false (sym (right-test g i ring r) ∙ w))
        (λ k m. other-right k (omega arith) (λ e. omega arith))

-- ---- the last block of the ciphertext

pub text_altered : TextAltered
unfolding piece_start
text_altered f g ring out i j lent hg o genuine l from last a =
    let r = row_of f i in
    let n = size_of r.suite in
    let s = r.ad_at + r.ad_len in
    let same : (k : ℕ) → (k < r.ad_at) ⊎ (r.ad_at + r.ad_len + r.text_len ≤ k)
    → get_or g k 0 ≡ get_or f k 0 = λ k. ⊎_elim (λ b. a.same k (inl (omega arith))) (λ b. a.same k (inr b)) in
    let z' = z f g ring lent hg genuine i l a.long same in
    let near : (k : ℕ) → r.ad_at ≤ k → k < s → get_or g k 0 ≡ get_or f k 0 = λ k b c. a.same k (inl (omega arith)) in
    let held = (passes first_edition first_edition f z').walk.rows i l in
    let fine = data_held f g (row_size_of f) i held.held (λ k b c. near k b (omega (arith, held.size.ad-low))) in
    eight f g ring lent hg genuine i l a.long same out o fine
    (text-wrong f g ring i (taken f g ring lent hg genuine i l a.long same) lent.ring_long lent.file-bytes hg lent.ring-bytes a.long
    (g-row f g ring lent hg genuine i l a.long same i l) (g-nonce f g ring lent hg genuine i l a.long same i l)
    (g-tag f g ring lent hg genuine i l a.long same) (was-right f g ring lent hg genuine i l a.long same)
    j (stretch-same g f a.long r.ad_at r.ad_len near)
    (λ q. a.changed (same_file f g s r.text_len a.long (λ k. ⊎_elim (λ b. a.same k (inl (omega arith))) (λ b. a.same k (inr b))) q))
    from last
    (λ k. ⊎_elim (λ b. a.same k (inl b)) (λ b. a.same k (inr (omega arith)))))

-- ---- a block of the associated data, where the message is empty

pub data_altered : DataAltered
data_altered f g ring out i j to lent hg o genuine l empty block inside a =
    let r = row_of f i in
    let n = size_of r.suite in
    let same : (k : ℕ) → (k < r.ad_at) ⊎ (r.ad_at + r.ad_len + r.text_len ≤ k)
    → get_or g k 0 ≡ get_or f k 0 = λ k. ⊎_elim (λ b. a.same k (inl (omega arith))) (λ b. a.same k (inr (omega arith))) in (
      (λ fine.
          eight f g ring lent hg genuine i l a.long same out o fine
          (data-wrong f g ring i (taken f g ring lent hg genuine i l a.long same) lent.ring_long lent.file-bytes hg lent.ring-bytes a.long
          (g-row f g ring lent hg genuine i l a.long same i l) (g-nonce f g ring lent hg genuine i l a.long same i l)
          (g-tag f g ring lent hg genuine i l a.long same) (was-right f g ring lent hg genuine i l a.long same)
          j empty
          (λ q. a.changed (same_file f g r.ad_at r.ad_len a.long
          (λ k. ⊎_elim (λ b. a.same k (inl (omega arith))) (λ b. a.same k (inr (omega arith)))) q))
          (λ k. ⊎_elim (λ b. a.same k (inl b)) (λ b. a.same k (inr (omega arith)))))),
      thirty f g ring lent hg genuine i l a.long same out o,
    )
