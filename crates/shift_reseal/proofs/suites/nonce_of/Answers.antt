-- `shift_format::row::nonce_block` at the file's own row size.
use mathlib.Core.Path.{ap, ◌∙◌}
use Prim.Native.Nat.{ℕ}
use Rattle.shift_format.specs.Format.{nonce_at}
use Rattle.shift_reseal.proofs.suites.nonce_of.Goals as goal

pub nonce_block-requires : goal.nonce_block-requires
nonce_block-requires c = rw c.row_size_of.ensures c.requires

pub returns : goal.returns
returns c =
    c.nonce_block.ensures ∙ ap (λ (w : ℕ). nonce_at w c.args.file.now c.args.index) c.row_size_of.ensures
