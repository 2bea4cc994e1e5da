-- Every public function of `block_key` leaves one outcome: the bytes of a block tell it.
use mathlib.Core.Path.{◌≡◌, refl, sym, ap, ◌∙◌}
use native.Mathlib.Omega.{arith}
use Rattle.block.specs.Outcome.{OneOutcome}
use Rattle.block.specs.declared.Block.{Block}
use Rattle.block.specs.Blocks.{wide}
use Rattle.block.proofs.Blocks.{wide_told}
use Rattle.cipher.specs.Cipher.{version_of}
use Rattle.mode.specs.Walk.{kept_behind}
use Rattle.block_key.specs.declared.Keyed.{Keyed}
use Rattle.block_key.proofs.next_key.Kinds as next-key-kinds
use Rattle.block_key.proofs.next_key.Reads as next-key-reads
use Rattle.block_key.proofs.block_key.Kinds as block-key-kinds
use Rattle.block_key.proofs.block_key.Reads as block-key-reads

pub next_key : OneOutcome next-key-kinds.ps next-key-kinds.r next-key-reads.Pre next-key-reads.Post
next_key κs a h x y = (wide_told x.result y.result (omega arith) (omega arith) (omega arith) (omega arith) (x.ensures ∙ sym y.ensures), refl)

keyed_path : {x y u v : Block} → x ≡ y → u ≡ v → ◌≡◌ {A = Keyed} (record { key = x; z = u }) (record { key = y; z = v })
keyed_path p q = λ i. record { key = p i; z = q i }

-- the Z that is kept is told by the key
pub block_key : OneOutcome block-key-kinds.ps block-key-kinds.r block-key-reads.Pre block-key-reads.Post
block_key κs a h x y =
    let k = wide_told x.result.key y.result.key (omega arith) (omega arith) (omega arith) (omega arith) (x.ensures.0 ∙ sym y.ensures.0) in
    let z = x.ensures.1 ∙ ap (λ (b : Block). kept_behind (version_of a.0) a.1.1.0 (wide b)) k ∙ sym y.ensures.1 in
    (keyed_path k (wide_told x.result.z y.result.z (omega arith) (omega arith) (omega arith) (omega arith) z), refl)
