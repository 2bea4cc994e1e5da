-- Every public function of `program_text` that has a contract and neither reads nor writes leaves one outcome: the contract
-- gives the result.
use mathlib.Core.Path.{◌≡◌, refl, sym, ap, ◌∙◌}
use Prim.Native.Nat.{ℕ}
use mathlib.Core.List.{List}
use mir.Val.{Fits}
use mir.Syntax.{w64}
use contract.Lifetimes.{Lfts}
use borrow.Fn.Kinds.{Dens}
use Rattle.block.specs.Outcome.{Outcome, OneOutcome}
use Rattle.program_text.proofs.print.Text.new.Kinds as text-new-kinds
use Rattle.program_text.proofs.print.Text.new.Reads as text-new-reads
use Rattle.program_text.proofs.print.Text.push.Kinds as text-push-kinds
use Rattle.program_text.proofs.print.Text.clear.Kinds as text-clear-kinds
use Rattle.program_text.proofs.print.Text.push.Reads as text-push-reads
use Rattle.program_text.proofs.print.Text.clear.Reads as text-clear-reads
use Rattle.program_text.proofs.print.Text.as_bytes.Kinds as text-bytes-kinds
use Rattle.program_text.proofs.print.Text.as_bytes.Reads as text-bytes-reads
use Rattle.program_text.proofs.print.TextWrite.write.Kinds as text-write-kinds
use Rattle.program_text.proofs.print.TextWrite.write.Reads as text-write-reads
use Rattle.program_text.proofs.print.TextWrite.flush.Kinds as text-flush-kinds
use Rattle.program_text.proofs.print.TextWrite.flush.Reads as text-flush-reads
use Rattle.program_text.proofs.read.room.Kinds as room-kinds
use Rattle.program_text.proofs.read.room.Reads as room-reads
use Rattle.program_text.proofs.read.front.Kinds as front-kinds
use Rattle.program_text.proofs.read.front.Reads as front_reads
use Rattle.program_text.proofs.fold.Fold.new.Kinds as new-kinds
use Rattle.program_text.proofs.fold.Fold.new.Reads as new-reads
use Rattle.program_text.proofs.fold.Fold.byte.Kinds as byte-kinds
use Rattle.program_text.proofs.fold.Fold.byte.Reads as byte-reads
use Rattle.program_text.proofs.fold.Fold.bytes.Kinds as bytes-kinds
use Rattle.program_text.proofs.fold.Fold.bytes.Reads as bytes-reads
use Rattle.program_text.proofs.fold.fold_of.Kinds as fold-kinds
use Rattle.program_text.proofs.fold.fold_of.Reads as fold-reads

-- ---- a text is the list of its bytes

pub text_new : (N : ℕ) (fits : Fits w64 N) → OneOutcome (text-new-kinds.ps N fits) (text-new-kinds.r N fits) (text-new-reads.Pre N fits) (text-new-reads.Post N fits)
text_new N fits κs a h x y = (x.ensures ∙ sym y.ensures, refl)

pub text_push : (N : ℕ) (fits : Fits w64 N) → OneOutcome (text-push-kinds.ps N fits) (text-push-kinds.r N fits) (text-push-reads.Pre N fits) (text-push-reads.Post N fits)
text_push N fits κs a h x y = (refl, ap (λ (l : List ℕ). (l, (tt, tt))) (x.ensures ∙ sym y.ensures))

pub text_clear : (N : ℕ) (fits : Fits w64 N) → OneOutcome (text-clear-kinds.ps N fits) (text-clear-kinds.r N fits) (text-clear-reads.Pre N fits) (text-clear-reads.Post N fits)
text_clear N fits κs a h x y = (refl, ap (λ (l : List ℕ). (l, tt)) (x.ensures ∙ sym y.ensures))

-- the same bytes; where they lie belongs to the text
pub text_bytes : (N : ℕ) (fits : Fits w64 N) (κs : Lfts 2) (a : Dens κs (text-bytes-kinds.ps N fits))
    (x y : Outcome (text-bytes-kinds.ps N fits) (text-bytes-kinds.r N fits) (text-bytes-reads.Post N fits) κs a) → x.result.now ≡ y.result.now
text_bytes N fits κs a x y = x.ensures ∙ sym y.ensures

pub text_write : (N : ℕ) (fits : Fits w64 N) → OneOutcome (text-write-kinds.ps N fits) (text-write-kinds.r N fits) (text-write-reads.Pre N fits) (text-write-reads.Post N fits)
text_write N fits κs a h x y = (x.ensures.1.1.0 ∙ sym y.ensures.1.1.0, ap (λ (l : List ℕ). (l, (tt, tt))) (x.ensures.1.1.1 ∙ sym y.ensures.1.1.1))

pub text_flush : (N : ℕ) (fits : Fits w64 N) → OneOutcome (text-flush-kinds.ps N fits) (text-flush-kinds.r N fits) (text-flush-reads.Pre N fits) (text-flush-reads.Post N fits)
text_flush N fits κs a h x y = (x.ensures.1.0 ∙ sym y.ensures.1.0, ap (λ (l : List ℕ). (l, tt)) (x.ensures.1.1 ∙ sym y.ensures.1.1))

-- ---- a buffer, and the fold of bytes

pub room : (N : ℕ) (fits : Fits w64 N) → OneOutcome (room-kinds.ps N fits) (room-kinds.r N fits) (room-reads.Pre N fits) (room-reads.Post N fits)
room N fits κs a h x y = (x.ensures ∙ sym y.ensures, refl)

-- the same bytes at the same place; a reference's ghost name belongs to the proof and is no outcome
pub front : (κs : Lfts 1) (a : Dens κs front-kinds.ps) (x y : Outcome front-kinds.ps front-kinds.r front_reads.Post κs a)
    → (x.result.now ≡ y.result.now) × (x.result.ref_ptr ≡ y.result.ref_ptr)
front κs a x y = (x.ensures.0 ∙ sym y.ensures.0, x.ensures.1 ∙ sym y.ensures.1)

pub fold : OneOutcome fold-kinds.ps fold-kinds.r fold-reads.Pre fold-reads.Post
fold κs a h x y = (x.ensures ∙ sym y.ensures, refl)

-- the same value; that it lies below the modulus belongs to the proof and is no outcome
pub new : (κs : Lfts 0) (a : Dens κs new-kinds.ps) (x y : Outcome new-kinds.ps new-kinds.r new-reads.Post κs a) → x.result.value ≡ y.result.value
new κs a x y = x.ensures ∙ sym y.ensures

pub byte : (κs : Lfts 0) (a : Dens κs byte-kinds.ps) (x y : Outcome byte-kinds.ps byte-kinds.r byte-reads.Post κs a)
    → x.result.value ≡ y.result.value
byte κs a x y = x.ensures ∙ sym y.ensures

pub bytes : (κs : Lfts 1) (a : Dens κs bytes-kinds.ps) (x y : Outcome bytes-kinds.ps bytes-kinds.r bytes-reads.Post κs a)
    → x.result.value ≡ y.result.value
bytes κs a x y = x.ensures ∙ sym y.ensures
