-- A contract that says what the outcome equals leaves one outcome, since each answer has a number of its own.
use mathlib.Core.Path.{◌≡◌, refl, sym, ap, subst}
use mathlib.Core.Bool.{Bool, true, false, cond, not, true≢false}
use mathlib.Core.Logic.{◌⊎◌, inl, inr, ⊎_elim}
use Prim.Native.Nat.{ℕ, zero, suc, ◌≤◌, ◌<◌}
use native.Mathlib.Nat.{not-suc-le-zero, suc-ne-zero, lt_irrefl}
use native.Mathlib.Omega.{arith}
use mathlib.Core.List.{List}
use lib.ListN.{length, replicate}
use lib.Dec.{ltb, eqb}
use borrow.Author.Tests.{eq-eqb}
use Rattle.block.specs.Bytes.{same_bytes}
use Rattle.block.proofs.Ladder.{rung}
use Rattle.cipher.specs.Cipher.{is_suite, size_of, nonce_of, cipher_of, limit}
use Rattle.mode.specs.Mode.{ciphertext, tag, text_out, tag_out}
use Rattle.status.specs.Verdicts.{takes, refusal}
use Rattle.comet.specs.Answers.{Sealed, sealed_as, sealing, Opened, opened_as, opening, verifying}
use Rattle.comet.proofs.Outcomes as comet
use Rattle.session.proofs.Outcomes as session
use Rattle.shift_check.proofs.Outcomes as table
use Rattle.shift_lookup.proofs.Outcomes as lookups
use Rattle.shift_jobs.proofs.Outcomes as shift
use Rattle.shift_writer.proofs.Outcomes as writer
use Rattle.shift_reseal.proofs.Outcomes as resealer
use Rattle.shift_search.proofs.Outcomes as halving
use Rattle.shift_amend.proofs.Outcomes as amend
use Rattle.shift_editions.proofs.Outcomes as editions
use Rattle.shift_compare.proofs.Outcomes as comparing
use Rattle.shift_reader.proofs.Outcomes as reading
use Rattle.shift_report.proofs.Outcomes as reporting
use Rattle.status.proofs.Refuse.{refusal-most}
use Rattle.promises.specs.Demand1.{EntryPoints, SealKeeps, OpenKeeps, SealInPlace, OpenInPlace, VerifyOpens}

pub entry_points : EntryPoints
entry_points =
    record {
      seal = record { asks_nothing = λ κs a. tt; one-outcome = comet.seal };
      unseal = record { asks_nothing = λ κs a. tt; one-outcome = comet.unseal };
      seal_in_place = record { asks_nothing = λ κs a. tt; one-outcome = comet.seal_in_place };
      unseal_in_place = record { asks_nothing = λ κs a. tt; one-outcome = comet.unseal_in_place };
      verify = record { asks_nothing = λ κs a. tt; one-outcome = comet.verify };
      check = record { asks_nothing = λ κs a. tt; one-outcome = table.check };
      lookup = record { asks_nothing = λ κs a. tt; one-outcome = lookups.lookup };
      entry = record { asks_nothing = λ κs a. tt; one-outcome = lookups.entry };
      open_job = record { asks_nothing = λ κs a. tt; one-outcome = shift.open_job };
      verified = record { asks_nothing = λ κs a. tt; one-outcome = shift.verified };
      session_start = record { asks_nothing = λ κs a. tt; one-outcome = session.start };
      session_data = record { asks_nothing = λ κs a. tt; one-outcome = session.associated };
      session_part = record { asks_nothing = λ κs a. tt; one-outcome = session.message };
      session_end = record { asks_nothing = λ κs a. tt; one-outcome = session.finish };
      search = record { asks_nothing = λ κs a. tt; one-outcome = halving.search };
      associated = record { asks_nothing = λ κs a. tt; one-outcome = lookups.associated };
      seal_file = record { asks_nothing = λ κs a. tt; one-outcome = writer.seal_file };
      unseal_file = record { asks_nothing = λ κs a. tt; one-outcome = writer.unseal_file };
      locate = record { asks_nothing = λ κs a. tt; one-outcome = amend.locate };
      current = record { asks_nothing = λ κs a. tt; one-outcome = amend.current };
      open_current = record { asks_nothing = λ κs a. tt; one-outcome = amend.open_current };
      moved_length = record { asks_nothing = λ κs a. tt; one-outcome = editions.moved_length };
      to_edition2 = record { asks_nothing = λ κs a. tt; one-outcome = editions.to_edition2 };
      to_edition1 = record { asks_nothing = λ κs a. tt; one-outcome = editions.to_edition1 };
      compare = record { asks_nothing = λ κs a. tt; one-outcome = comparing.compare };
      start = record { asks_nothing = λ κs a. tt; one-outcome = reading.start };
      ask = record { asks_nothing = λ κs a. tt; one-outcome = reading.ask };
      report = record { asks_nothing = λ κs a. tt; one-outcome = reporting.report };
      header = record { asks_nothing = λ κs a. tt; one-outcome = reading.header };
      row = record { asks_nothing = λ κs a. tt; one-outcome = reading.row };
      reseal = record { asks_nothing = λ κs a. tt; one-outcome = resealer.reseal };
      seal_counted = record { asks_nothing = λ κs a. tt; one-outcome = comet.seal_counted };
      unseal_counted = record { asks_nothing = λ κs a. tt; one-outcome = comet.unseal_counted };
    }

sealed_keeps : (n : ℕ) (x y o t : List ℕ) → (n ≤ 7) ⊎ (n ≡ 10) → (((sealed_as n x y o t).number ≤ 7) ⊎ ((sealed_as n x y o t).number ≡ 10))
    × (0 < (sealed_as n x y o t).number → ((sealed_as n x y o t).out ≡ o) × ((sealed_as n x y o t).tag ≡ t))
sealed_keeps zero x y o t h = (inl (omega arith), λ p. absurd (not-suc-le-zero p))
sealed_keeps (suc n) x y o t h = (h, λ p. (refl, refl))

pub seal_keeps : SealKeeps
unfolding sealing
seal_keeps suite key nonce ad msg out₀ tag₀ =
    sealed_keeps (refusal false suite (length key) (length nonce) (length ad) (length msg) (length out₀) (length tag₀)) _ _ out₀ tag₀
    (⊎_elim inl (λ h. inr h.0) (refusal-most false suite (length key) (length nonce) (length ad) (length msg) (length out₀) (length tag₀)))

opened_keeps : (n : ℕ) (b : Bool) (x o : List ℕ) → n ≤ 7
    → ((opened_as n b x o).number ≤ 8) × (0 < (opened_as n b x o).number → (opened_as n b x o).number < 8 → (opened_as n b x o).out ≡ o)
    × ((opened_as n b x o).number ≡ 8 → (opened_as n b x o).out ≡ replicate (length o) 0)
opened_keeps zero true x o h = (omega arith, (λ p q. absurd (not-suc-le-zero p)), (λ e. absurd (suc-ne-zero 7 (sym e))))
opened_keeps zero false x o h = (omega arith, (λ p q. absurd (lt_irrefl 8 q)), (λ e. refl))
opened_keeps (suc n) b x o h = (omega arith, (λ p q. refl), (λ e. absurd (lt_irrefl 8 (omega arith))))

pub open_keeps : OpenKeeps
unfolding opening
open_keeps suite key nonce ad text tag out₀ =
    opened_keeps (refusal true suite (length key) (length nonce) (length ad) (length text) (length out₀) (length tag)) _ _ out₀
    (⊎_elim (λ h. h) (λ h. absurd (true≢false h.2)) (refusal-most true suite (length key) (length nonce) (length ad) (length text) (length out₀)
    (length tag)))

-- ---- in place: n is the first number that applies, and o and o' are outputs of one length

sealed_alike : (n : ℕ) (x y o o' t : List ℕ) → (n ≡ 6 → ⊥)
    → ((sealed_as n x y o t).number ≡ (sealed_as n x y o' t).number) × ((sealed_as n x y o t).tag ≡ (sealed_as n x y o' t).tag)
    × ((sealed_as n x y o t).number ≡ 0 → (sealed_as n x y o t).out ≡ (sealed_as n x y o' t).out) × (0 < (sealed_as n x y o t).number → (sealed_as n x y o t).out ≡ o)
    × ((sealed_as n x y o t).number ≡ 6 → ⊥)
sealed_alike zero x y o o' t h = (refl, refl, (λ e. refl), (λ p. absurd (not-suc-le-zero p)), (λ e. suc-ne-zero 5 (sym e)))
sealed_alike (suc n) x y o o' t h = (refl, refl, (λ e. absurd (suc-ne-zero n e)), (λ p. refl), h)

opened_alike : (n : ℕ) (b : Bool) (x o o' : List ℕ) → length o ≡ length o' → n ≤ 7 → (n ≡ 6 → ⊥)
    → ((opened_as n b x o).number ≡ (opened_as n b x o').number) × (((opened_as n b x o).number ≡ 0) ⊎ ((opened_as n b x o).number ≡ 8)
    → (opened_as n b x o).out ≡ (opened_as n b x o').out)
    × (0 < (opened_as n b x o).number → (opened_as n b x o).number < 8 → (opened_as n b x o).out ≡ o) × ((opened_as n b x o).number ≡ 6 → ⊥)
opened_alike zero true x o o' e l h = (refl, (λ p. refl), (λ p q. absurd (not-suc-le-zero p)), (λ z. suc-ne-zero 5 (sym z)))
opened_alike zero false x o o' e l h = (refl, (λ p. ap (λ (k : ℕ). replicate k 0) e), (λ p q. absurd (lt_irrefl 8 q)), (λ z. lt_irrefl 6 (omega arith)))
opened_alike (suc n) b x o o' e l h = (refl, (λ p. absurd (⊎_elim (λ z. suc-ne-zero n z) (λ z. lt_irrefl 8 (omega arith)) p)), (λ p q. refl), h)

-- 6 is given for no output of the text's length
Six : ℕ → Type 0
Six j = j ≡ 6 → ⊥

room_right : (d : Bool) (s k v a t g : ℕ) → Six (refusal d s k v a t t g)
unfolding refusal Six
room_right d s k v a t g =
    rung Six (not (is_suite s)) 1 _ (λ e. lt_irrefl 6 (omega arith))
    (rung Six (not (takes d s)) 10 _ (λ e. lt_irrefl 6 (omega arith))
    (rung Six (not (eqb k 16)) 2 _ (λ e. lt_irrefl 6 (omega arith))
    (rung Six (not (eqb v (nonce_of s))) 3 _ (λ e. lt_irrefl 6 (omega arith))
    (rung Six (ltb limit a) 4 _ (λ e. lt_irrefl 6 (omega arith))
    (rung Six (ltb limit t) 5 _ (λ e. lt_irrefl 6 (omega arith))
    (subst (λ (b : Bool). Six (cond (not b) 6 (cond (not (eqb g (size_of s))) 7 0))) (sym (eq-eqb t t refl))
    (rung Six (not (eqb g (size_of s))) 7 _ (λ e. lt_irrefl 6 (omega arith)) (λ e. lt_irrefl 6 (omega arith)))))))))

pub seal_in_place : SealInPlace
unfolding sealing Six
seal_in_place suite key nonce ad text tag₀ out₀ e =
    let n : ℕ → ℕ = λ k. refusal false suite (length key) (length nonce) (length ad) (length text) k (length tag₀) in
    let at : ℕ → List ℕ → Sealed = λ k o. sealed_as (n k) (ciphertext (cipher_of suite) key nonce ad text) (tag (cipher_of suite) key nonce ad text) o tag₀ in
    let r : Sealed = at (length text) text in
    subst
    (λ (k : ℕ). (r.number ≡ (at k out₀).number) × (r.tag ≡ (at k out₀).tag) × (r.number ≡ 0 → r.out ≡ (at k out₀).out) × (0 < r.number → r.out ≡ text)
    × (r.number ≡ 6 → ⊥))
    (sym e)
    (sealed_alike (n (length text)) _ _ text out₀ tag₀ (room_right false suite (length key) (length nonce) (length ad) (length text) (length tag₀)))

pub open_in_place : OpenInPlace
unfolding opening Six
open_in_place suite key nonce ad text tag out₀ e =
    let n : ℕ → ℕ = λ k. refusal true suite (length key) (length nonce) (length ad) (length text) k (length tag) in
    let at : ℕ → List ℕ → Opened = λ k o. opened_as (n k) (same_bytes (tag_out (cipher_of suite) true key nonce ad text) tag)
    (text_out (cipher_of suite) true key nonce ad text) o in
    let r : Opened = at (length text) text in
    let most : n (length text) ≤ 7 = ⊎_elim (λ h. h) (λ h. absurd (true≢false h.2))
    (refusal-most true suite (length key) (length nonce) (length ad) (length text) (length text) (length tag)) in
    subst
    (λ (k : ℕ). (r.number ≡ (at k out₀).number) × ((r.number ≡ 0) ⊎ (r.number ≡ 8) → r.out ≡ (at k out₀).out)
    × (0 < r.number → r.number < 8 → r.out ≡ text) × (r.number ≡ 6 → ⊥))
    (sym e)
    (opened_alike (n (length text)) _ _ text out₀ (sym e) most (room_right true suite (length key) (length nonce) (length ad) (length text) (length tag)))

pub verify_opens : VerifyOpens
unfolding verifying
verify_opens suite key nonce ad text tag out₀ e =
    let both = open_in_place suite key nonce ad text tag out₀ e in
    (both.0, (open_keeps suite key nonce ad text tag text).0, both.3)
