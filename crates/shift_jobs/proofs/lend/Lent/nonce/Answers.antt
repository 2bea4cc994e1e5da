-- The suite reads at most sixteen bytes.
use native.Mathlib.Omega.{arith}
use Rattle.shift_format.specs.Format.{nonce_at}
use Rattle.cipher.proofs.Suites.{nonce_most}
use Rattle.shift_jobs.proofs.lend.Lent.nonce.Goals as goal

pub stretch-requires : goal.stretch-requires
stretch-requires c = omega (arith, c.nonce_at-nonce.ensures.1, c.nonce_size.ensures, nonce_most c.args.suite)

pub returns : goal.returns
unfolding nonce_at
returns c =
    rw (← c.row_size_of.ensures, ← c.nonce_size.ensures, ← c.nonce_at-nonce.ensures.0.bytes)
    c.stretch.ensures.0.bytes
