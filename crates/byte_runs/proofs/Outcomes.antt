-- Every public function of `byte_runs` leaves one outcome: its contract gives the result, or the bytes that tell it.
use mathlib.Core.Path.{refl, sym, ap, ◌∙◌}
use mathlib.Core.List.{List}
use Prim.Native.Nat.{ℕ}
use native.Mathlib.Omega.{arith}
use Rattle.block.specs.Outcome.{OneOutcome}
use Rattle.block.proofs.Blocks.{wide_told}
use Rattle.byte_runs.proofs.filled_bytes.Kinds as filled-bytes-kinds
use Rattle.byte_runs.proofs.filled_bytes.Reads as filled-bytes-reads
use Rattle.byte_runs.proofs.filled.Kinds as filled-kinds
use Rattle.byte_runs.proofs.filled.Reads as filled-reads
use Rattle.byte_runs.proofs.put.Kinds as put-kinds
use Rattle.byte_runs.proofs.put.Reads as put_reads
use Rattle.byte_runs.proofs.wipe.Kinds as wipe-kinds
use Rattle.byte_runs.proofs.wipe.Reads as wipe-reads
use Rattle.byte_runs.proofs.copy.Kinds as copy-kinds
use Rattle.byte_runs.proofs.copy.Reads as copy-reads
use Rattle.byte_runs.proofs.all_zero.Kinds as all-zero-kinds
use Rattle.byte_runs.proofs.all_zero.Reads as all-zero-reads

pub filled_bytes : OneOutcome filled-bytes-kinds.ps filled-bytes-kinds.r filled-bytes-reads.Pre filled-bytes-reads.Post
filled_bytes κs a h x y = (x.ensures ∙ sym y.ensures, refl)

pub filled : OneOutcome filled-kinds.ps filled-kinds.r filled-reads.Pre filled-reads.Post
filled κs a h x y = (wide_told x.result y.result (omega arith) (omega arith) (omega arith) (omega arith) (x.ensures ∙ sym y.ensures), refl)

pub put : OneOutcome put-kinds.ps put-kinds.r put_reads.Pre put_reads.Post
put κs a h x y = (refl, ap (λ (l : List ℕ). (tt, (l, tt))) (x.ensures ∙ sym y.ensures))

pub wipe : OneOutcome wipe-kinds.ps wipe-kinds.r wipe-reads.Pre wipe-reads.Post
wipe κs a h x y = (refl, ap (λ (l : List ℕ). (l, tt)) (x.ensures ∙ sym y.ensures))

pub copy : OneOutcome copy-kinds.ps copy-kinds.r copy-reads.Pre copy-reads.Post
copy κs a h x y = (refl, ap (λ (l : List ℕ). (tt, (l, tt))) (x.ensures ∙ sym y.ensures))

pub all_zero : OneOutcome all-zero-kinds.ps all-zero-kinds.r all-zero-reads.Pre all-zero-reads.Post
all_zero κs a h x y = (x.ensures ∙ sym y.ensures, refl)
