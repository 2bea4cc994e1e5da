-- The nonces first, all sixteen bytes; where they are equal, new suite and key number.
use mathlib.Core.Path.{sym, ap₂, ◌∙◌}
use Rattle.block.specs.Bytes.{same_bytes}
use Rattle.shift_reseal.proofs.Lending.{row-own, anew-keys, anew-none}
use Rattle.shift_reseal.proofs.suites.clashes.Goals as goal

pub nonce_of-requires : goal.nonce_of-requires
nonce_of-requires c = row-own c.args.file.now c.args.rows c.requires.0 c.args.index c.requires.1.0

pub nonce_of-requires-2 : goal.nonce_of-requires-2
nonce_of-requires-2 c = row-own c.args.file.now c.args.rows c.requires.0 c.args.other c.requires.1.1

pub row_of-requires : goal.row_of-requires
row_of-requires c =
    row-own c.args.file.now c.args.rows c.requires.0 c.args.index c.requires.1.0

pub row_of-requires-then-same : goal.row_of-requires-then-same
row_of-requires-then-same c =
    row-own c.args.file.now c.args.rows c.requires.0 c.args.other c.requires.1.1

pub returns-then-same : goal.returns-then-same
returns-then-same c =
    let e = sym (ap₂ same_bytes c.nonce_of.ensures c.nonce_of-2.ensures) ∙ sym c.same.ensures ∙ c.if-same.true in
    c.same_key.ensures
    ∙ anew-keys c.args.file.now c.args.rows c.requires.0 c.args.index c.args.other c.requires.1.0 c.requires.1.1 _ _
    c.row_of.ensures c.row_of-then-same.ensures e

pub returns : goal.returns
returns c =
    let e = sym (ap₂ same_bytes c.nonce_of.ensures c.nonce_of-2.ensures) ∙ sym c.same.ensures ∙ c.if-same.false in
    anew-none c.args.file.now c.args.rows c.requires.0 c.args.index c.args.other c.requires.1.0 c.requires.1.1 e
