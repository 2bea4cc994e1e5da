-- The nonce's two words are its bytes' numbers.
use native.Mathlib.Omega.{arith}
use mathlib.Core.Path.{ap₂, ◌∙◌}
use Prim.Native.Nat.{ℕ}
use Rattle.shift_format.specs.declared.row.Row.{Row}
use Rattle.shift_check.specs.Marks.{mark_of, mixed}
use Rattle.shift_check.proofs.Sieve.{block_word}
use Rattle.shift_check.proofs.marks.mark.Goals as goal

pub returns : goal.returns
unfolding mark_of
returns c =
    c.mix.ensures
    ∙ ap₂ (λ (r : Row) (x : ℕ). mixed r.suite r.key x) c.row-row.ensures
    (c.fold.ensures ∙ block_word c.nonce-nonce.result _ (omega arith) (omega arith) c.nonce-nonce.ensures)
