-- Every public function of `session` leaves one outcome: a session is told by its value in the definitions (`as_value`), whose
-- lists are the bytes of its numbers.
use mathlib.Core.Path.{◌≡◌, refl, sym, ap, ◌∙◌}
use mathlib.Core.List.{List}
use Prim.Native.Nat.{ℕ, ◌^◌, ◌<◌}
use native.Mathlib.Omega.{arith}
use Rattle.std.specs.Prelude.{Ok, Err}
use Rattle.std.specs.declared.result.Result.{Result}
use Rattle.session_ladder.specs.declared.SessionError.{SessionError}
use Rattle.session_ladder.proofs.Outcomes.{refusal_some, refusal_tells}
use Rattle.block.specs.Outcome.{OneOutcome}
use Rattle.block.proofs.Blocks.{wide_told}
use Rattle.session.specs.declared.Session.{Session}
use Rattle.session.specs.declared.Step.{Step}
use Rattle.session.specs.Value.{Value, Given}
use Rattle.session.specs.Structs.{as_value, number_of, count_of, gives}
use Rattle.session.proofs.SessionDefault.default.Kinds as default-kinds
use Rattle.session.proofs.SessionDefault.default.Reads as default-reads
use Rattle.session.proofs.Step.number.Kinds as number-kinds
use Rattle.session.proofs.Step.number.Reads as number_Reads
use Rattle.session.proofs.Step.count.Kinds as count-kinds
use Rattle.session.proofs.Step.count.Reads as count-reads
use Rattle.session.proofs.Session.start.Kinds as start-kinds
use Rattle.session.proofs.Session.start.Reads as start-reads
use Rattle.session.proofs.Session.associated.Kinds as associated-kinds
use Rattle.session.proofs.Session.associated.Reads as associated-reads
use Rattle.session.proofs.Session.message.Kinds as message-kinds
use Rattle.session.proofs.Session.message.Reads as message-reads
use Rattle.session.proofs.Session.finish.Kinds as finish-kinds
use Rattle.session.proofs.Session.finish.Reads as finish-reads

-- the four numbers of Y and Z are of 64 bits
pub record Words (s : Session) : Type 0 where
  pub ya : s.y.a < 256 ^ 8
  pub yb : s.y.b < 256 ^ 8
  pub za : s.z.a < 256 ^ 8
  pub zb : s.z.b < 256 ^ 8

pub session_told : (s t : Session) → Words s → Words t → as_value s ≡ as_value t → s ≡ t
session_told s t p q e =
    let ey : s.y ≡ t.y = wide_told s.y t.y p.ya p.yb q.ya q.yb (ap (λ (v : Value). v.Y) e) in
    let ez : s.z ≡ t.z = wide_told s.z t.z p.za p.zb q.za q.zb (ap (λ (v : Value). v.Z) e) in
    λ i. record { suite = (e i).suite; y = ey i; z = ez i; held = (e i).held; ad_total = (e i).ad_total; text_total = (e i).text_total }

-- a call's outcome by its number and its count
outcome_told : (x y : Result ℕ SessionError) → number_of x ≡ number_of y → count_of x ≡ count_of y → x ≡ y
outcome_told (Ok m) (Ok n) e f = ap Ok f
outcome_told (Ok m) (Err b) e f = absurd (refusal_some b (sym e))
outcome_told (Err a) (Ok n) e f = absurd (refusal_some a e)
outcome_told (Err a) (Err b) e f = ap Err (refusal_tells a b e)

step_told : (x y : Step) (o t o' t' : List ℕ) → Words x.next → Words y.next → gives x o t ≡ gives y o' t' → x ≡ y
step_told x y o t o' t' p q e =
    let en : x.next ≡ y.next = session_told x.next y.next p q (ap (λ (g : Given). g.next) e) in
    let eo = outcome_told x.outcome y.outcome (ap (λ (g : Given). g.number) e) (ap (λ (g : Given). g.count) e) in
    λ i. record { next = en i; outcome = eo i }

pub default : OneOutcome default-kinds.ps default-kinds.r default-reads.Pre default-reads.Post
default κs a h x y = (
  session_told x.result y.result (record { ya = omega arith; yb = omega arith; za = omega arith; zb = omega arith })
      (record { ya = omega arith; yb = omega arith; za = omega arith; zb = omega arith })
      (x.ensures ∙ sym y.ensures),
  refl,
)

pub number : OneOutcome number-kinds.ps number-kinds.r number_Reads.Pre number_Reads.Post
number κs a h x y = (x.ensures ∙ sym y.ensures, refl)

pub count : OneOutcome count-kinds.ps count-kinds.r count-reads.Pre count-reads.Post
count κs a h x y = (x.ensures ∙ sym y.ensures, refl)

pub start : OneOutcome start-kinds.ps start-kinds.r start-reads.Pre start-reads.Post
start κs a h x y = (
  step_told x.result y.result _ _ _ _ (record { ya = omega arith; yb = omega arith; za = omega arith; zb = omega arith })
      (record { ya = omega arith; yb = omega arith; za = omega arith; zb = omega arith })
      (x.ensures ∙ sym y.ensures),
  refl,
)

pub associated : OneOutcome associated-kinds.ps associated-kinds.r associated-reads.Pre associated-reads.Post
associated κs a h x y = (
  step_told x.result y.result _ _ _ _ (record { ya = omega arith; yb = omega arith; za = omega arith; zb = omega arith })
      (record { ya = omega arith; yb = omega arith; za = omega arith; zb = omega arith })
      (x.ensures ∙ sym y.ensures),
  refl,
)

pub message : OneOutcome message-kinds.ps message-kinds.r message-reads.Pre message-reads.Post
message κs a h x y =
    let e = x.ensures ∙ sym y.ensures in (
      step_told x.result y.result _ _ _ _ (record { ya = omega arith; yb = omega arith; za = omega arith; zb = omega arith })
          (record { ya = omega arith; yb = omega arith; za = omega arith; zb = omega arith }) e,
      ap (λ (g : Given). (tt, (tt, (g.out, tt)))) e,
    )

pub finish : OneOutcome finish-kinds.ps finish-kinds.r finish-reads.Pre finish-reads.Post
finish κs a h x y =
    let e = x.ensures ∙ sym y.ensures in (
      step_told x.result y.result _ _ _ _ (record { ya = omega arith; yb = omega arith; za = omega arith; zb = omega arith })
          (record { ya = omega arith; yb = omega arith; za = omega arith; zb = omega arith }) e,
      ap (λ (g : Given). (tt, (g.out, (g.tag, tt)))) e,
    )
