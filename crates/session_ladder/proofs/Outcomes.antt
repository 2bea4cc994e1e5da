-- Every public function of `session_ladder` leaves one outcome: its contract gives the number, and each answer has a number of its own.
use mathlib.Core.Path.{◌≡◌, refl, sym, ap, ◌∙◌}
use native.Mathlib.Omega.{arith}
use Rattle.std.specs.Prelude.{Ok, Err}
use Rattle.std.specs.declared.result.Result.{Result}
use Rattle.block.specs.Outcome.{OneOutcome}
use Rattle.status.specs.declared.verdict.RecordError.{RecordError}
use Rattle.status.specs.declared.verdict.RecordError.TheVariants as verdict
use Rattle.status.specs.Verdicts as verdicts
use Rattle.status.specs.Verdicts.{Verdict}
use Rattle.status.proofs.Refuse.{error-some}
use Rattle.status.proofs.Outcomes.{number_tells}
use Rattle.session_ladder.specs.declared.SessionError.{SessionError}
use Rattle.session_ladder.specs.declared.SessionError.TheVariants.{Record, Over}
use Rattle.session_ladder.specs.Numbers.{error_number, number_of}
use Rattle.session_ladder.proofs.SessionErrorFromRecordError.from.Kinds as from-kinds
use Rattle.session_ladder.proofs.SessionErrorFromRecordError.from.Reads as from-reads
use Rattle.session_ladder.proofs.SessionError.number.Kinds as number-kinds
use Rattle.session_ladder.proofs.SessionError.number.Reads as number_Reads
use Rattle.session_ladder.proofs.check_start.Kinds as start-kinds
use Rattle.session_ladder.proofs.check_start.Reads as start-reads
use Rattle.session_ladder.proofs.check_data.Kinds as data-kinds
use Rattle.session_ladder.proofs.check_data.Reads as data_Reads
use Rattle.session_ladder.proofs.check_text.Kinds as text-kinds
use Rattle.session_ladder.proofs.check_text.Reads as text-reads
use Rattle.session_ladder.proofs.check_end.Kinds as end-kinds
use Rattle.session_ladder.proofs.check_end.Reads as end_reads

refusal_in : Verdict → RecordError → RecordError
refusal_in (Ok x) e = e
refusal_in (Err f) e = f

error_tells : (e f : RecordError) → verdicts.error_number e ≡ verdicts.error_number f → e ≡ f
unfolding refusal_in
error_tells e f q = ap (λ (v : Verdict). refusal_in v e) (number_tells (Err e) (Err f) q)

-- no refusal of a record has the number 9
not_over : (e : RecordError) → verdicts.error_number e ≡ 9 → ⊥
not_over verdict.Suite q = omega arith
not_over verdict.Key q = omega arith
not_over verdict.Nonce q = omega arith
not_over verdict.Data q = omega arith
not_over verdict.Text q = omega arith
not_over verdict.Room q = omega arith
not_over verdict.Tag q = omega arith
not_over verdict.Forged q = omega arith
not_over verdict.Retired q = omega arith

pub refusal_some : (e : SessionError) → error_number e ≡ 0 → ⊥
refusal_some (Record e) q = omega (arith, error-some e)
refusal_some Over q = omega arith

pub refusal_tells : (e f : SessionError) → error_number e ≡ error_number f → e ≡ f
refusal_tells (Record e) (Record f) q = ap Record (error_tells e f q)
refusal_tells (Record e) Over q = absurd (not_over e q)
refusal_tells Over (Record f) q = absurd (not_over f (sym q))
refusal_tells Over Over q = refl

outcome_tells : (x y : Result Unit SessionError) → number_of x ≡ number_of y → x ≡ y
outcome_tells (Ok x) (Ok y) q = refl
outcome_tells (Ok x) (Err f) q = absurd (refusal_some f (sym q))
outcome_tells (Err e) (Ok x) q = absurd (refusal_some e q)
outcome_tells (Err e) (Err f) q = ap Err (refusal_tells e f q)

pub error_from : OneOutcome from-kinds.ps from-kinds.r from-reads.Pre from-reads.Post
error_from κs a h x y = (x.ensures ∙ sym y.ensures, refl)

pub number : OneOutcome number-kinds.ps number-kinds.r number_Reads.Pre number_Reads.Post
number κs a h x y = (x.ensures ∙ sym y.ensures, refl)

pub start : OneOutcome start-kinds.ps start-kinds.r start-reads.Pre start-reads.Post
start κs a h x y = (outcome_tells x.result y.result (x.ensures ∙ sym y.ensures), refl)

pub data_part : OneOutcome data-kinds.ps data-kinds.r data_Reads.Pre data_Reads.Post
data_part κs a h x y = (outcome_tells x.result y.result (x.ensures ∙ sym y.ensures), refl)

pub text : OneOutcome text-kinds.ps text-kinds.r text-reads.Pre text-reads.Post
text κs a h x y = (outcome_tells x.result y.result (x.ensures ∙ sym y.ensures), refl)

pub end : OneOutcome end-kinds.ps end-kinds.r end_reads.Pre end_reads.Post
end κs a h x y = (outcome_tells x.result y.result (x.ensures ∙ sym y.ensures), refl)
