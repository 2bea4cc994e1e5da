-- Every public function of `block` leaves one outcome: its contract gives the result, or the bytes that tell it.
use mathlib.Core.Path.{refl, sym, ap, ◌∙◌}
use mathlib.Core.List.{List}
use Prim.Native.Nat.{ℕ}
use native.Mathlib.Omega.{arith}
use Rattle.block.specs.Outcome.{OneOutcome}
use Rattle.block.proofs.Bytes.{bytes_inj}
use Rattle.block.proofs.Blocks.{wide_told}
use Rattle.block.proofs.xor.Kinds as xor-kinds
use Rattle.block.proofs.xor.Reads as xor-reads
use Rattle.block.proofs.same.Kinds as same-kinds
use Rattle.block.proofs.same.Reads as same_Reads
use Rattle.block.proofs.bytes_of.Kinds as bytes-of-kinds
use Rattle.block.proofs.bytes_of.Reads as bytes-of-reads
use Rattle.block.proofs.block_of.Kinds as block-of-kinds
use Rattle.block.proofs.block_of.Reads as block-of-reads
use Rattle.block.proofs.bytes8.Kinds as bytes8-kinds
use Rattle.block.proofs.bytes8.Reads as bytes8-reads
use Rattle.block.proofs.number8.Kinds as number8-kinds
use Rattle.block.proofs.number8.Reads as number8-reads
use Rattle.block.proofs.sixteen.Kinds as sixteen-kinds
use Rattle.block.proofs.sixteen.Reads as sixteen-reads
use Rattle.block.proofs.fifteen.Kinds as fifteen-kinds
use Rattle.block.proofs.fifteen.Reads as fifteen-reads
use Rattle.block.proofs.whole.Kinds as whole_Kinds
use Rattle.block.proofs.whole.Reads as whole-reads
use Rattle.block.proofs.put_whole.Kinds as put-whole-kinds
use Rattle.block.proofs.put_whole.Reads as put-whole-reads

pub xor : OneOutcome xor-kinds.ps xor-kinds.r xor-reads.Pre xor-reads.Post
xor κs a h x y = (wide_told x.result y.result (omega arith) (omega arith) (omega arith) (omega arith) (x.ensures ∙ sym y.ensures), refl)

pub same : OneOutcome same-kinds.ps same-kinds.r same_Reads.Pre same_Reads.Post
same κs a h x y = (x.ensures ∙ sym y.ensures, refl)

pub bytes_of : OneOutcome bytes-of-kinds.ps bytes-of-kinds.r bytes-of-reads.Pre bytes-of-reads.Post
bytes_of κs a h x y = (x.ensures ∙ sym y.ensures, refl)

pub block_of : OneOutcome block-of-kinds.ps block-of-kinds.r block-of-reads.Pre block-of-reads.Post
block_of κs a h x y = (wide_told x.result y.result (omega arith) (omega arith) (omega arith) (omega arith) (x.ensures ∙ sym y.ensures), refl)

pub bytes8 : OneOutcome bytes8-kinds.ps bytes8-kinds.r bytes8-reads.Pre bytes8-reads.Post
bytes8 κs a h x y = (x.ensures ∙ sym y.ensures, refl)

pub number8 : OneOutcome number8-kinds.ps number8-kinds.r number8-reads.Pre number8-reads.Post
number8 κs a h x y = (bytes_inj 8 (omega arith) (omega arith) (x.ensures ∙ sym y.ensures), refl)

pub sixteen : OneOutcome sixteen-kinds.ps sixteen-kinds.r sixteen-reads.Pre sixteen-reads.Post
sixteen κs a h x y = (wide_told x.result y.result (omega arith) (omega arith) (omega arith) (omega arith) (x.ensures ∙ sym y.ensures), refl)

pub fifteen : OneOutcome fifteen-kinds.ps fifteen-kinds.r fifteen-reads.Pre fifteen-reads.Post
fifteen κs a h x y = (wide_told x.result y.result (omega arith) (omega arith) (omega arith) (omega arith) (x.ensures ∙ sym y.ensures), refl)

pub whole : OneOutcome whole_Kinds.ps whole_Kinds.r whole-reads.Pre whole-reads.Post
whole κs a h x y = (wide_told x.result y.result (omega arith) (omega arith) (omega arith) (omega arith) (x.ensures ∙ sym y.ensures), refl)

pub put_whole : OneOutcome put-whole-kinds.ps put-whole-kinds.r put-whole-reads.Pre put-whole-reads.Post
put_whole κs a h x y = (refl, ap (λ (l : List ℕ). (tt, (l, tt))) (x.ensures ∙ sym y.ensures))
