-- Every public function of `cipher` leaves one outcome: a number or a yes or no, the tables told by their rule, a block told by its bytes.
use mathlib.Core.Path.{◌≡◌, refl, sym, ◌∙◌}
use mathlib.Core.List.{List, []}
use Prim.Native.Nat.{ℕ, zero, suc, ◌<◌}
use native.Mathlib.Omega.{arith}
use lib.ListN.{get_or}
use lib.Seq.{ext_get_or}
use Rattle.block.specs.Outcome.{OneOutcome}
use Rattle.block.proofs.Bytes.{bytes_inj}
use Rattle.block.proofs.Lists.{parts_told}
use Rattle.block.proofs.Blocks.{wide_told}
use Rattle.aes_tables.proofs.Table.{table_only}
use Rattle.cipher.specs.Cipher.{Full, size_of}
use Rattle.cipher.proofs.is_suite.Kinds as is-suite-kinds
use Rattle.cipher.proofs.is_suite.Reads as is-suite-reads
use Rattle.cipher.proofs.seals.Kinds as seals-kinds
use Rattle.cipher.proofs.seals.Reads as seals-reads
use Rattle.cipher.proofs.size_of.Kinds as size-of-kinds
use Rattle.cipher.proofs.size_of.Reads as size-of-reads
use Rattle.cipher.proofs.nonce_size.Kinds as nonce-size-kinds
use Rattle.cipher.proofs.nonce_size.Reads as nonce-size-reads
use Rattle.cipher.proofs.is_second.Kinds as is-second-kinds
use Rattle.cipher.proofs.is_second.Reads as is-second-reads
use Rattle.cipher.proofs.needs_tables.Kinds as needs-tables-kinds
use Rattle.cipher.proofs.needs_tables.Reads as needs-tables-reads
use Rattle.cipher.proofs.tables.Kinds as tables-kinds
use Rattle.cipher.proofs.tables.Reads as tables-reads
use Rattle.cipher.proofs.Engine.encipher16.Kinds as encipher16-kinds
use Rattle.cipher.proofs.Engine.encipher16.Reads as encipher16-reads
use Rattle.cipher.proofs.encipher8.Kinds as encipher8-kinds
use Rattle.cipher.proofs.encipher8.Reads as encipher8-reads
use Rattle.cipher.proofs.Engine.encipher.Kinds as encipher-kinds
use Rattle.cipher.proofs.Engine.encipher.Reads as encipher-reads
use Rattle.cipher.proofs.Engine.size.Kinds as size-kinds
use Rattle.cipher.proofs.Engine.size.Reads as size-reads

-- what is full is one element, the tables
same_tables : (s t : List (List (List ℕ))) → Full s → Full t → s ≡ t
same_tables s t p q = ext_get_or [] s t (p.0 ∙ sym q.0) (λ i h. first i (omega (arith, p.0)))
  where
    first : (i : ℕ) → i < 1 → get_or s i [] ≡ get_or t i []
    first zero h = table_only (get_or s 0 []) (get_or t 0 []) p.1 q.1
    first (suc i) h = let no : ⊥ = omega arith in absurd no

pub is_suite_lem : OneOutcome is-suite-kinds.ps is-suite-kinds.r is-suite-reads.Pre is-suite-reads.Post
is_suite_lem κs a h x y = (x.ensures ∙ sym y.ensures, refl)

pub seals : OneOutcome seals-kinds.ps seals-kinds.r seals-reads.Pre seals-reads.Post
seals κs a h x y = (x.ensures ∙ sym y.ensures, refl)

pub size_of_lem : OneOutcome size-of-kinds.ps size-of-kinds.r size-of-reads.Pre size-of-reads.Post
size_of_lem κs a h x y = (x.ensures.0 ∙ sym y.ensures.0, refl)

pub nonce_size : OneOutcome nonce-size-kinds.ps nonce-size-kinds.r nonce-size-reads.Pre nonce-size-reads.Post
nonce_size κs a h x y = (x.ensures ∙ sym y.ensures, refl)

pub is_second : OneOutcome is-second-kinds.ps is-second-kinds.r is-second-reads.Pre is-second-reads.Post
is_second κs a h x y = (x.ensures ∙ sym y.ensures, refl)

pub needs_tables : OneOutcome needs-tables-kinds.ps needs-tables-kinds.r needs-tables-reads.Pre needs-tables-reads.Post
needs_tables κs a h x y = (x.ensures ∙ sym y.ensures, refl)

pub tables : OneOutcome tables-kinds.ps tables-kinds.r tables-reads.Pre tables-reads.Post
tables κs a h x y = (same_tables x.result y.result (x.ensures.full h) (y.ensures.full h), refl)

pub encipher16 : OneOutcome encipher16-kinds.ps encipher16-kinds.r encipher16-reads.Pre encipher16-reads.Post
encipher16 κs a h x y = (wide_told x.result y.result (omega arith) (omega arith) (omega arith) (omega arith) (x.ensures ∙ sym y.ensures), refl)

pub encipher8 : OneOutcome encipher8-kinds.ps encipher8-kinds.r encipher8-reads.Pre encipher8-reads.Post
encipher8 κs a h x y = (bytes_inj 8 (omega arith) (omega arith) (x.ensures ∙ sym y.ensures), refl)

pub encipher : OneOutcome encipher-kinds.ps encipher-kinds.r encipher-reads.Pre encipher-reads.Post
encipher κs a h x y = (
  wide_told x.result y.result (omega arith) (omega arith) (omega arith) (omega arith)
      (parts_told (size_of a.0.now.suite) _ _ (x.ensures.0 ∙ sym y.ensures.0) (x.ensures.1 ∙ sym y.ensures.1)),
  refl,
)

pub size : OneOutcome size-kinds.ps size-kinds.r size-reads.Pre size-reads.Post
size κs a h x y = (x.ensures.0 ∙ sym y.ensures.0, refl)
