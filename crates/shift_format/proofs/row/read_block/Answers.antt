-- What is read lies in the row's last sixteen bytes, zeros after it.
use native.Mathlib.Omega.{arith}
use mathlib.Core.Path.{ap, ap₂, ◌∙◌}
use Prim.Native.Nat.{ℕ}
use Rattle.block.specs.Blocks.{filled}
use Rattle.shift_format.specs.Part.{stretch}
use Rattle.cipher.proofs.Suites.{nonce_most}
use Rattle.shift_format.proofs.Rows.{read-bytes}
use Rattle.shift_format.proofs.row.read_block.Goals as goal

pub stretch-requires : goal.stretch-requires
stretch-requires c =
    omega (arith, c.nonce_start.ensures.1, c.nonce_size.ensures, nonce_most c.args.suite, c.requires.fits)

pub filled-requires : goal.filled-requires
filled-requires c = omega (arith, c.stretch.ensures.1, c.nonce_size.ensures, nonce_most c.args.suite)

pub returns : goal.returns
returns c =
    let f = c.args.file.now in
    c.filled.ensures
    ∙ ap filled (c.stretch.ensures.0.bytes ∙ ap₂ (λ (p k : ℕ). stretch f p k) c.nonce_start.ensures.0 c.nonce_size.ensures
    ∙ read-bytes c.args.size f c.args.index c.args.suite)
