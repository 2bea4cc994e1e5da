-- The nonces first, all sixteen bytes; where they are equal, suite and key number.
use mathlib.Core.Path.{sym, ap₂, ◌∙◌}
use Rattle.block.specs.Bytes.{same_bytes}
use Rattle.shift_format.proofs.Rows.{row_in}
use Rattle.shift_check.proofs.Nonces.{clash-keys, clash-none}
use Rattle.shift_check.proofs.rules.clashes.Goals as goal

pub returns-then-same : goal.returns-then-same
returns-then-same c =
    let e = sym (ap₂ same_bytes c.nonce-this.ensures c.nonce-earlier.ensures) ∙ sym c.same.ensures ∙ c.if-same.true in
    c.same_key.ensures
    ∙ clash-keys c.args.table.now.size c.args.table.now.file.now c.args.index c.args.other (row_in _ _ _ _ c.args.table.now.lies c.requires.0)
    (row_in _ _ _ _ c.args.table.now.lies c.requires.1.0) c.requires.1.1.0 c.requires.1.1.1 _ _ c.row.ensures c.row-then-same.ensures e

pub returns-else-same : goal.returns-else-same
returns-else-same c =
    let e = sym (ap₂ same_bytes c.nonce-this.ensures c.nonce-earlier.ensures) ∙ sym c.same.ensures ∙ c.if-same.false in
    c.if-same.false
    ∙ clash-none c.args.table.now.size c.args.table.now.file.now c.args.index c.args.other (row_in _ _ _ _ c.args.table.now.lies c.requires.0) (row_in _ _ _ _ c.args.table.now.lies c.requires.1.0)
    c.requires.1.1.0 c.requires.1.1.1 e
