-- One outcome for each input: an answer's number and row are those of one case, so what a contract allows is one value.
use Prim.Native.Nat.{ℕ, zero, suc, ◌<◌}
use native.Mathlib.Omega.{arith}
use mathlib.Core.Path.{◌≡◌, refl, sym, ap, ap₂, subst, ◌∙◌}
use mathlib.Core.Bool.{false, cond}
use mathlib.Core.Logic.{◌⊎◌, ⊎_elim}
use Rattle.std.specs.Prelude.{Result, Ok, Err}
use lib.Dec.{eqb}
use borrow.Author.Tests.{ne_eqb, eqb-false}
use denote.RattleType.{RattleType}
use denote.Exit.{Kept, unchanged}
use denote.Param.Laws.{Laws}
use mir.Syntax.{Dict}
use Rattle.status.specs.declared.checked.Refuses.{Ghosts as Refuses}
use Rattle.block.specs.Outcome.{Outcome, OneOutcome}
use Rattle.status.specs.declared.verdict.RecordError.TheVariants as verdict
use Rattle.status.specs.declared.checked.Answer.{Answer}
use Rattle.status.specs.declared.checked.Fault.TheVariants.{Order, Suite, Length, Place, Unread, Nonce, Data}
use Rattle.status.specs.declared.checked.Refusal.{Refusal}
use Rattle.status.specs.declared.checked.Refusal.TheVariants.{Size, Edition, Count, Total, Table, InRow, End}
use Rattle.status.specs.Verdicts.{Verdict, number_of}
use Rattle.status.specs.Answers.{answer, refusal_answer, checked_answer}
use Rattle.status.proofs.Numbers.{refusal_range, refusal-some}
use Rattle.status.proofs.verdict.number.Kinds as number-kinds
use Rattle.status.proofs.verdict.number.Reads as number-reads
use Rattle.status.proofs.verdict.under_key.Kinds as under-key-kinds
use Rattle.status.proofs.verdict.under_key.Reads as under-key-reads
use Rattle.status.proofs.verdict.refused.Kinds as refused-kinds
use Rattle.status.proofs.verdict.refused.Reads as refused-reads
use Rattle.status.proofs.checked.U8FromFault.from.Kinds as fault-kinds
use Rattle.status.proofs.checked.U8FromFault.from.Reads as fault-reads
use Rattle.status.proofs.checked.RefusalRefuses.answer.Kinds as refusal-kinds
use Rattle.status.proofs.checked.RefusalRefuses.answer.Reads as refusal-reads
use Rattle.status.proofs.checked.answered.Kinds as answered-kinds
use Rattle.status.proofs.checked.answered.Reads as answered-reads
use Rattle.status.specs.contracts.checked.Refusal.{the_row}
use Rattle.status.proofs.checked.Refusal.TheLaws.{the_row_laws}
use Rattle.status.proofs.checked.say.Kinds as say-kinds
use Rattle.status.proofs.checked.say.Reads as say-reads

-- ---- sealer and opener

answer_of : ℕ → Verdict
answer_of zero = Ok tt
answer_of (suc zero) = Err verdict.Suite
answer_of (suc (suc zero)) = Err verdict.Key
answer_of (suc (suc (suc zero))) = Err verdict.Nonce
answer_of (suc (suc (suc (suc zero)))) = Err verdict.Data
answer_of (suc (suc (suc (suc (suc zero))))) = Err verdict.Text
answer_of (suc (suc (suc (suc (suc (suc zero)))))) = Err verdict.Room
answer_of (suc (suc (suc (suc (suc (suc (suc zero))))))) = Err verdict.Tag
answer_of (suc (suc (suc (suc (suc (suc (suc (suc zero)))))))) = Err verdict.Forged
answer_of (suc (suc (suc (suc (suc (suc (suc (suc (suc n))))))))) = Err verdict.Retired

answer_back : (a : Verdict) → answer_of (number_of a) ≡ a
unfolding answer_of
answer_back (Ok tt) = refl
answer_back (Err verdict.Suite) = refl
answer_back (Err verdict.Key) = refl
answer_back (Err verdict.Nonce) = refl
answer_back (Err verdict.Data) = refl
answer_back (Err verdict.Text) = refl
answer_back (Err verdict.Room) = refl
answer_back (Err verdict.Tag) = refl
answer_back (Err verdict.Forged) = refl
answer_back (Err verdict.Retired) = refl

pub number_tells : (a b : Verdict) → number_of a ≡ number_of b → a ≡ b
number_tells a b e = sym (answer_back a) ∙ ap answer_of e ∙ answer_back b

pub number : OneOutcome number-kinds.ps number-kinds.r number-reads.Pre number-reads.Post
number κs a h x y = (x.ensures ∙ sym y.ensures, refl)

pub under_key : OneOutcome under-key-kinds.ps under-key-kinds.r under-key-reads.Pre under-key-reads.Post
under_key κs a h x y = (number_tells x.result y.result (x.ensures ∙ sym y.ensures), refl)

pub refused : OneOutcome refused-kinds.ps refused-kinds.r refused-reads.Pre refused-reads.Post
refused κs a h x y = (number_tells x.result y.result (x.ensures ∙ sym y.ensures), refl)

-- ---- the check

-- the case that a number and a row stand for
abbrev pub refusal_of : Answer → Refusal
refusal_of x =
    cond (eqb x.number 20) Size
    (cond (eqb x.number 21) Edition
    (cond (eqb x.number 22) Count
    (cond (eqb x.number 23) Total
    (cond (eqb x.number 24) Table
    (cond (eqb x.number 25) (InRow Order x.row)
    (cond (eqb x.number 26) (InRow Suite x.row)
    (cond (eqb x.number 27) (InRow Length x.row)
    (cond (eqb x.number 28) (InRow Place x.row)
    (cond (eqb x.number 29) (InRow Nonce x.row)
    (cond (eqb x.number 30) (InRow Data x.row)
    (cond (eqb x.number 34) (InRow Unread x.row)
    End)))))))))))

pub refusal_back : (x : Refusal) → refusal_of (refusal_answer x) ≡ x
refusal_back Size = refl
refusal_back Edition = refl
refusal_back Count = refl
refusal_back Total = refl
refusal_back Table = refl
refusal_back (InRow Order i) = refl
refusal_back (InRow Suite i) = refl
refusal_back (InRow Length i) = refl
refusal_back (InRow Place i) = refl
refusal_back (InRow Unread i) = refl
refusal_back (InRow Nonce i) = refl
refusal_back (InRow Data i) = refl
refusal_back End = refl

-- a refusal's number is none below 20 or above 31 but 34
pub unlike : (x : Refusal) (m : ℕ) → (m < 20) ⊎ (31 < m) → eqb m 34 ≡ false → eqb (refusal_answer x).number m ≡ false
unlike x m h k =
    ne_eqb (refusal_answer x).number m
    (λ q. ⊎_elim (λ r. ⊎_elim (λ l. omega arith) (λ l. omega arith) h) (λ r. eqb-false m 34 k (sym q ∙ r)) (refusal_range x))

abbrev checked_of : Answer → Result Unit Refusal
checked_of x = cond (eqb x.number 0) (Ok tt) (Err (refusal_of x))

checked_back : (x : Result Unit Refusal) → checked_of (checked_answer x) ≡ x
checked_back (Ok x) = refl
checked_back (Err x) = simp (ne_eqb _ _ (refusal-some x)) (ap Err (refusal_back x))

pub checked_one : {x y : Result Unit Refusal} → checked_answer x ≡ checked_answer y → x ≡ y
checked_one {x} {y} q = sym (checked_back x) ∙ ap checked_of q ∙ checked_back y

-- an answer is its number and its row
pub same_answer : {a x : Answer} → (a.number ≡ x.number) × (a.row ≡ x.row) → a ≡ x
same_answer e = ap₂ answer e.0 e.1

pub answer-one : {a x y : Answer} → (x.number ≡ a.number) × (x.row ≡ a.row) → (y.number ≡ a.number) × (y.row ≡ a.row) → x ≡ y
answer-one p q = same_answer p ∙ sym (same_answer q)

pub fault_number : OneOutcome fault-kinds.ps fault-kinds.r fault-reads.Pre fault-reads.Post
fault_number κs a h x y = (x.ensures ∙ sym y.ensures, refl)

pub refusal-answer : OneOutcome refusal-kinds.ps refusal-kinds.r refusal-reads.Pre refusal-reads.Post
refusal-answer κs a h x y = (x.ensures ∙ sym y.ensures, refl)

-- at each type of error, the answer
pub answered : (E : RattleType) (is : Laws E) (refuses : Refuses E.Denot) (of : Dict)
    → (κs : _) (a : _) (x y : Outcome (answered-kinds.ps E is) (answered-kinds.r E is) (answered-reads.Post E is refuses of) κs a) → x.result ≡ y.result
answered E is refuses of κs a x y = x.ensures ∙ sym y.ensures

-- the answer and what is left of the argument
abbrev pub AnsweredOnce : (E : RattleType) → Laws E → Refuses E.Denot → Dict → Type 0
AnsweredOnce E is refuses of =
    OneOutcome (answered-kinds.ps E is) (answered-kinds.r E is) (answered-reads.Pre E is refuses of) (answered-reads.Post E is refuses of)

-- the type of errors E, where a call leaves nothing of an error
abbrev stilled : RattleType → RattleType
stilled E =
    record {
      Denot = E.Denot;
      mir = E.mir;
      written = E.written;
      reaches = E.reaches;
      lives = E.lives;
      own_val = E.own_val;
      exit = λ k. unchanged;
      coded = E.coded;
      shr_at = E.shr_at;
    }

stilled_same : (E : RattleType) → ((k : Kept) → E.exit k ≡ unchanged) → stilled E ≡ E
stilled_same E still = λ i.
    record {
      Denot = E.Denot;
      mir = E.mir;
      written = E.written;
      reaches = E.reaches;
      lives = E.lives;
      own_val = E.own_val;
      exit = λ k. sym (still k) i;
      coded = E.coded;
      shr_at = E.shr_at;
    }

stilled_once : (E : RattleType) (is : Laws (stilled E)) (refuses : Refuses E.Denot) (of : Dict) → AnsweredOnce (stilled E) is refuses of
stilled_once E is refuses of κs (Ok u, t) h x y = (x.ensures ∙ sym y.ensures, refl)
stilled_once E is refuses of κs (Err e, t) h x y = (x.ensures ∙ sym y.ensures, refl)

-- at each type of error that holds no `&mut`, so that nothing of it outlives the call
pub answered_once : (E : RattleType) → ((k : Kept) → E.exit k ≡ unchanged)
    → (is : Laws E) (refuses : Refuses E.Denot) (of : Dict) → AnsweredOnce E is refuses of
answered_once E still =
    subst (λ (D : RattleType). (is : Laws D) (refuses : Refuses D.Denot) (of : Dict) → AnsweredOnce D is refuses of) (stilled_same E still) (stilled_once E)

-- of the check
pub checked_answer_lem : (of : Dict) → AnsweredOnce the_row the_row_laws (record { answer_of = refusal_answer }) of
checked_answer_lem = answered_once the_row (λ k. refl) the_row_laws (record { answer_of = refusal_answer })

pub say : OneOutcome say-kinds.ps say-kinds.r say-reads.Pre say-reads.Post
say κs a h x y =
    let e = x.ensures ∙ sym y.ensures in
    (ap (λ (w : Answer). w.number) e, ap (λ (w : Answer). (tt, (w.row, tt))) e)
