-- One outcome for each input: what a contract gives of a row or a body, its bytes and their place, is one value.
use Prim.Native.Nat.{ℕ}
use native.Mathlib.Omega.{arith}
use mathlib.Core.Path.{◌≡◌, refl, sym, ap, ◌∙◌}
use mathlib.Core.List.{List}
use denote.Ref.{Bor}
use contract.Lifetimes.{Lfts}
use borrow.Fn.Kinds.{Dens}
use Rattle.block.specs.Outcome.{Outcome, OneOutcome}
use Rattle.block.proofs.Blocks.{wide_told}
use Rattle.shift_format.specs.Part.{PartOf}
use Rattle.shift_format.proofs.row.get16.Kinds as get16-kinds
use Rattle.shift_format.proofs.row.get16.Reads as get16-reads
use Rattle.shift_format.proofs.row.get32.Kinds as get32-kinds
use Rattle.shift_format.proofs.row.get32.Reads as get32-reads
use Rattle.shift_format.proofs.row.count.Kinds as count-kinds
use Rattle.shift_format.proofs.row.count.Reads as count-reads
use Rattle.shift_format.proofs.row.row_size.Kinds as row-size-kinds
use Rattle.shift_format.proofs.row.row_size.Reads as row-size-reads
use Rattle.shift_format.proofs.row.row_size_of.Kinds as row-size-of-kinds
use Rattle.shift_format.proofs.row.row_size_of.Reads as row-size-of-reads
use Rattle.shift_format.proofs.row.station_of.Kinds as station-of-kinds
use Rattle.shift_format.proofs.row.station_of.Reads as station-of-reads
use Rattle.shift_format.proofs.row.row_start.Kinds as row-start-kinds
use Rattle.shift_format.proofs.row.row_start.Reads as row-start-reads
use Rattle.shift_format.proofs.row.rest_start.Kinds as rest-start-kinds
use Rattle.shift_format.proofs.row.rest_start.Reads as rest-start-reads
use Rattle.shift_format.proofs.row.nonce_start.Kinds as nonce-start-kinds
use Rattle.shift_format.proofs.row.nonce_start.Reads as nonce-start-reads
use Rattle.shift_format.proofs.row.set_suite.Kinds as set-suite-kinds
use Rattle.shift_format.proofs.row.set_suite.Reads as set-suite-reads
use Rattle.shift_format.proofs.row.row_at.Kinds as row-at-kinds
use Rattle.shift_format.proofs.row.row_at.Reads as row-at-reads
use Rattle.shift_format.proofs.row.stretch.Kinds as stretch-kinds
use Rattle.shift_format.proofs.row.stretch.Reads as stretch-reads
use Rattle.shift_format.proofs.row.nonce_at.Kinds as nonce-at-kinds
use Rattle.shift_format.proofs.row.nonce_at.Reads as nonce-at-reads
use Rattle.shift_format.proofs.row.body_end.Kinds as body-end-kinds
use Rattle.shift_format.proofs.row.body_end.Reads as body-end-reads
use Rattle.shift_format.proofs.body.text_start.Kinds as text-start-kinds
use Rattle.shift_format.proofs.body.text_start.Reads as text-start-reads
use Rattle.shift_format.proofs.body.data_of.Kinds as data-of-kinds
use Rattle.shift_format.proofs.body.data_of.Reads as data-of-reads
use Rattle.shift_format.proofs.body.text_of.Kinds as text-of-kinds
use Rattle.shift_format.proofs.body.text_of.Reads as text-of-reads
use Rattle.shift_format.proofs.body.tag_of.Kinds as tag-of-kinds
use Rattle.shift_format.proofs.body.tag_of.Reads as tag-of-reads
use Rattle.shift_format.proofs.row.nonce_block.Kinds as nonce-block-kinds
use Rattle.shift_format.proofs.row.nonce_block.Reads as nonce-block-reads
use Rattle.shift_format.proofs.row.read_block.Kinds as read-block-kinds
use Rattle.shift_format.proofs.row.read_block.Reads as read-block-reads

-- two parts of the same bytes are at the same place; a reference's ghost name belongs to the proof and is no outcome
pub part-one : {s x y : Bor (List ℕ)} {at len : ℕ} → PartOf s x at len → PartOf s y at len → (x.now ≡ y.now) × (x.ref_ptr ≡ y.ref_ptr)
part-one p q = (p.bytes ∙ sym q.bytes, p.place ∙ sym q.place)

pub get16 : OneOutcome get16-kinds.ps get16-kinds.r get16-reads.Pre get16-reads.Post
get16 κs a h x y = (x.ensures ∙ sym y.ensures, refl)

pub get32 : OneOutcome get32-kinds.ps get32-kinds.r get32-reads.Pre get32-reads.Post
get32 κs a h x y = (x.ensures ∙ sym y.ensures, refl)

pub count : OneOutcome count-kinds.ps count-kinds.r count-reads.Pre count-reads.Post
count κs a h x y = (x.ensures ∙ sym y.ensures, refl)

pub row_size_lem : OneOutcome row-size-kinds.ps row-size-kinds.r row-size-reads.Pre row-size-reads.Post
row_size_lem κs a h x y = (x.ensures ∙ sym y.ensures, refl)

pub row_size_of_lem : OneOutcome row-size-of-kinds.ps row-size-of-kinds.r row-size-of-reads.Pre row-size-of-reads.Post
row_size_of_lem κs a h x y = (x.ensures ∙ sym y.ensures, refl)

pub station_of : OneOutcome station-of-kinds.ps station-of-kinds.r station-of-reads.Pre station-of-reads.Post
station_of κs a h x y = (x.ensures ∙ sym y.ensures, refl)

pub row_start_lem : OneOutcome row-start-kinds.ps row-start-kinds.r row-start-reads.Pre row-start-reads.Post
row_start_lem κs a h x y = (x.ensures ∙ sym y.ensures, refl)

pub rest_start : OneOutcome rest-start-kinds.ps rest-start-kinds.r rest-start-reads.Pre rest-start-reads.Post
rest_start κs a h x y = (x.ensures.0 ∙ sym y.ensures.0, refl)

pub nonce_start : OneOutcome nonce-start-kinds.ps nonce-start-kinds.r nonce-start-reads.Pre nonce-start-reads.Post
nonce_start κs a h x y = (x.ensures.0 ∙ sym y.ensures.0, refl)

pub set_suite : OneOutcome set-suite-kinds.ps set-suite-kinds.r set-suite-reads.Pre set-suite-reads.Post
set_suite κs a h x y = (refl, ap (λ (l : List ℕ). (tt, (l, (tt, (tt, tt))))) (x.ensures ∙ sym y.ensures))

pub row_at_lem : OneOutcome row-at-kinds.ps row-at-kinds.r row-at-reads.Pre row-at-reads.Post
row_at_lem κs a h x y = (x.ensures ∙ sym y.ensures, refl)

pub stretch : (κs : Lfts 1) (a : Dens κs stretch-kinds.ps) (x y : Outcome stretch-kinds.ps stretch-kinds.r stretch-reads.Post κs a)
    → (x.result.now ≡ y.result.now) × (x.result.ref_ptr ≡ y.result.ref_ptr)
stretch κs a x y = part-one x.ensures.0 y.ensures.0

pub nonce_at_lem : (κs : Lfts 1) (a : Dens κs nonce-at-kinds.ps) (x y : Outcome nonce-at-kinds.ps nonce-at-kinds.r nonce-at-reads.Post κs a)
    → (x.result.now ≡ y.result.now) × (x.result.ref_ptr ≡ y.result.ref_ptr)
nonce_at_lem κs a x y = part-one x.ensures.0 y.ensures.0

pub body_end : OneOutcome body-end-kinds.ps body-end-kinds.r body-end-reads.Pre body-end-reads.Post
body_end κs a h x y = (x.ensures ∙ sym y.ensures, refl)

pub text_start : OneOutcome text-start-kinds.ps text-start-kinds.r text-start-reads.Pre text-start-reads.Post
text_start κs a h x y = (x.ensures ∙ sym y.ensures, refl)

pub data_of : (κs : Lfts 1) (a : Dens κs data-of-kinds.ps) (x y : Outcome data-of-kinds.ps data-of-kinds.r data-of-reads.Post κs a)
    → (x.result.now ≡ y.result.now) × (x.result.ref_ptr ≡ y.result.ref_ptr)
data_of κs a x y = part-one x.ensures y.ensures

pub text_of : (κs : Lfts 1) (a : Dens κs text-of-kinds.ps) (x y : Outcome text-of-kinds.ps text-of-kinds.r text-of-reads.Post κs a)
    → (x.result.now ≡ y.result.now) × (x.result.ref_ptr ≡ y.result.ref_ptr)
text_of κs a x y = part-one x.ensures y.ensures

pub tag_of_lem : (κs : Lfts 1) (a : Dens κs tag-of-kinds.ps) (x y : Outcome tag-of-kinds.ps tag-of-kinds.r tag-of-reads.Post κs a)
    → (x.result.now ≡ y.result.now) × (x.result.ref_ptr ≡ y.result.ref_ptr)
tag_of_lem κs a x y = part-one x.ensures y.ensures

pub nonce_block : OneOutcome nonce-block-kinds.ps nonce-block-kinds.r nonce-block-reads.Pre nonce-block-reads.Post
nonce_block κs a h x y = (wide_told x.result y.result (omega arith) (omega arith) (omega arith) (omega arith) (x.ensures ∙ sym y.ensures), refl)

pub read_block : OneOutcome read-block-kinds.ps read-block-kinds.r read-block-reads.Pre read-block-reads.Post
read_block κs a h x y = (wide_told x.result y.result (omega arith) (omega arith) (omega arith) (omega arith) (x.ensures ∙ sym y.ensures), refl)
