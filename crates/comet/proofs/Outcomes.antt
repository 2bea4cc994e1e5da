-- Every public function of `comet` leaves one outcome: each answer has a number of its own, and the contract says what number, buffers and count equal.
use mathlib.Core.Path.{◌≡◌, refl, sym, ap, ap₂, ◌∙◌}
use mathlib.Core.List.{List}
use Prim.Native.Nat.{ℕ}
use native.Mathlib.Omega.{arith}
use contract.Lifetimes.{Lfts}
use borrow.Fn.Kinds.{Dens}
use Rattle.std.specs.Prelude.{Result, Ok, Err, MatchResult}
use Rattle.block.specs.Outcome.{Outcome, OneOutcome}
use Rattle.status.specs.declared.verdict.RecordError.{RecordError}
use Rattle.status.specs.Verdicts.{Verdict, error_number}
use Rattle.status.proofs.Refuse.{error-some}
use Rattle.status.proofs.Outcomes.{number_tells}
use Rattle.comet.specs.declared.Counted.{Counted}
use Rattle.comet.specs.declared.header.Header.{Header}
use Rattle.comet.specs.Answers.{Sealed, Opened}
use Rattle.comet.specs.Counted.{Counting}
use Rattle.comet.proofs.header.accepted.Kinds as accepted-kinds
use Rattle.comet.proofs.header.accepted.Reads as accepted-reads
use Rattle.comet.proofs.CountedFromRecordError.from.Kinds as from-kinds
use Rattle.comet.proofs.CountedFromRecordError.from.Reads as from-reads
use Rattle.comet.proofs.seal_counted.Kinds as seal-counted-kinds
use Rattle.comet.proofs.seal_counted.Reads as seal-counted-reads
use Rattle.comet.proofs.unseal_counted.Kinds as unseal-counted-kinds
use Rattle.comet.proofs.unseal_counted.Reads as unseal-counted-reads
use Rattle.comet.proofs.seal.Kinds as seal-kinds
use Rattle.comet.proofs.seal.Reads as seal-reads
use Rattle.comet.proofs.unseal.Kinds as unseal-kinds
use Rattle.comet.proofs.unseal.Reads as unseal-reads
use Rattle.comet.proofs.seal_in_place.Kinds as seal-in-place-kinds
use Rattle.comet.proofs.seal_in_place.Reads as seal-in-place-reads
use Rattle.comet.proofs.unseal_in_place.Kinds as unseal-in-place-kinds
use Rattle.comet.proofs.unseal_in_place.Reads as unseal-in-place-reads
use Rattle.comet.proofs.verify.Kinds as verify-kinds
use Rattle.comet.proofs.verify.Reads as verify-reads

counted_told : {x y : Verdict} {j k : ℕ} → x ≡ y → j ≡ k → ◌≡◌ {A = Counted} (record { verdict = x; calls = j }) (record { verdict = y; calls = k })
counted_told p q = λ i. record { verdict = p i; calls = q i }

-- why a call is refused, or the suite and the bytes of key, nonce and data; a reference's ghost name belongs to the proof and is no outcome
pub record Accepted : Type 0 where
  pub suite : ℕ
  pub key : List ℕ
  pub nonce : List ℕ
  pub ad : List ℕ

abbrev pub told : Result Header RecordError → Result Accepted RecordError
told (Ok h) = Ok (record { suite = h.suite; key = h.key.now; nonce = h.nonce.now; ad = h.ad.now })
told (Err e) = Err e

refusal_in : Verdict → RecordError → RecordError
refusal_in (Ok x) e = e
refusal_in (Err f) e = f

error_tells : (e f : RecordError) → error_number e ≡ error_number f → e ≡ f
unfolding refusal_in
error_tells e f q = ap (λ (v : Verdict). refusal_in v e) (number_tells (Err e) (Err f) q)

accepted_told : (n s : ℕ) (k m d : List ℕ) (p q : Result Header RecordError)
    → MatchResult p (λ h. (n ≡ 0) × (h.suite ≡ s) × (h.key.now ≡ k) × (h.nonce.now ≡ m) × (h.ad.now ≡ d)) (λ e. error_number e ≡ n)
    → MatchResult q (λ h. (n ≡ 0) × (h.suite ≡ s) × (h.key.now ≡ k) × (h.nonce.now ≡ m) × (h.ad.now ≡ d)) (λ e. error_number e ≡ n)
    → told p ≡ told q
accepted_told n s k m d (Ok g) (Ok h) e f = λ i.
    Ok (record {
      suite = (e.1 ∙ sym f.1) i;
      key = (e.2 ∙ sym f.2) i;
      nonce = (e.3 ∙ sym f.3) i;
      ad = (e.4 ∙ sym f.4) i;
    })
accepted_told n s k m d (Ok g) (Err b) e f = absurd (omega (arith, error-some b, e.0, f))
accepted_told n s k m d (Err a) (Ok h) e f = absurd (omega (arith, error-some a, f.0, e))
accepted_told n s k m d (Err a) (Err b) e f = ap Err (error_tells a b (e ∙ sym f))

pub accepted : (κs : Lfts 1) (a : Dens κs accepted-kinds.ps) (x y : Outcome accepted-kinds.ps accepted-kinds.r accepted-reads.Post κs a)
    → told x.result ≡ told y.result
accepted κs a x y = accepted_told _ _ _ _ _ x.result y.result x.ensures y.ensures

pub counted_from : OneOutcome from-kinds.ps from-kinds.r from-reads.Pre from-reads.Post
counted_from κs a h x y =
    (counted_told (number_tells x.result.verdict y.result.verdict (x.ensures.0 ∙ sym y.ensures.0)) (x.ensures.1 ∙ sym y.ensures.1), refl)

pub seal_counted : OneOutcome seal-counted-kinds.ps seal-counted-kinds.r seal-counted-reads.Pre seal-counted-reads.Post
seal_counted κs a h x y =
    let e = x.ensures ∙ sym y.ensures in (
      counted_told (number_tells x.result.verdict y.result.verdict (ap (λ (w : Counting Sealed). w.leaves.number) e))
          (ap (λ (w : Counting Sealed). w.calls) e),
      ap₂ (λ (o t : List ℕ). (tt, (tt, (tt, (tt, (tt, (o, (t, tt)))))))) (ap (λ (w : Counting Sealed). w.leaves.out) e)
          (ap (λ (w : Counting Sealed). w.leaves.tag) e),
    )

pub unseal_counted : OneOutcome unseal-counted-kinds.ps unseal-counted-kinds.r unseal-counted-reads.Pre unseal-counted-reads.Post
unseal_counted κs a h x y =
    let e = x.ensures ∙ sym y.ensures in (
      counted_told (number_tells x.result.verdict y.result.verdict (ap (λ (w : Counting Opened). w.leaves.number) e))
          (ap (λ (w : Counting Opened). w.calls) e),
      ap (λ (o : List ℕ). (tt, (tt, (tt, (tt, (tt, (tt, (o, tt)))))))) (ap (λ (w : Counting Opened). w.leaves.out) e),
    )

pub seal : OneOutcome seal-kinds.ps seal-kinds.r seal-reads.Pre seal-reads.Post
seal κs a h x y =
    let e = x.ensures ∙ sym y.ensures in (
      number_tells x.result y.result (ap (λ (w : Sealed). w.number) e),
      ap₂ (λ (o t : List ℕ). (tt, (tt, (tt, (tt, (tt, (o, (t, tt)))))))) (ap (λ (w : Sealed). w.out) e) (ap (λ (w : Sealed). w.tag) e),
    )

pub unseal : OneOutcome unseal-kinds.ps unseal-kinds.r unseal-reads.Pre unseal-reads.Post
unseal κs a h x y =
    let e = x.ensures ∙ sym y.ensures in (
      number_tells x.result y.result (ap (λ (w : Opened). w.number) e),
      ap (λ (o : List ℕ). (tt, (tt, (tt, (tt, (tt, (tt, (o, tt)))))))) (ap (λ (w : Opened). w.out) e),
    )

pub seal_in_place : OneOutcome seal-in-place-kinds.ps seal-in-place-kinds.r seal-in-place-reads.Pre seal-in-place-reads.Post
seal_in_place κs a h x y =
    let e = x.ensures ∙ sym y.ensures in (
      number_tells x.result y.result (ap (λ (w : Sealed). w.number) e),
      ap₂ (λ (o t : List ℕ). (tt, (tt, (tt, (tt, (o, (t, tt))))))) (ap (λ (w : Sealed). w.out) e) (ap (λ (w : Sealed). w.tag) e),
    )

pub unseal_in_place : OneOutcome unseal-in-place-kinds.ps unseal-in-place-kinds.r unseal-in-place-reads.Pre unseal-in-place-reads.Post
unseal_in_place κs a h x y =
    let e = x.ensures ∙ sym y.ensures in (
      number_tells x.result y.result (ap (λ (w : Opened). w.number) e),
      ap (λ (o : List ℕ). (tt, (tt, (tt, (tt, (o, (tt, tt))))))) (ap (λ (w : Opened). w.out) e),
    )

pub verify : OneOutcome verify-kinds.ps verify-kinds.r verify-reads.Pre verify-reads.Post
verify κs a h x y = (number_tells x.result y.result (x.ensures ∙ sym y.ensures), refl)
