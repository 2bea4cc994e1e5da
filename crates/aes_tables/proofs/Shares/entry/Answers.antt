-- `aes_tables::Shares::entry` meets its contract: a shift by 8 k drops k rows, and the entry that is read is a share.
use mathlib.Core.Path.{ap, ◌∙◌}
use Prim.Native.Nat.{ℕ, ◌*◌, ◌/◌, ◌%◌, ◌^◌}
use Rattle.block.specs.Bytes.{bytes}
use Rattle.aes_spec.specs.Sbox.{sub_byte}
use Rattle.aes_spec.proofs.Sbox.{sub_byte_lem}
use Rattle.aes_plain.proofs.Column.{row_is}
use Rattle.aes_tables.specs.Tables.{share}
use Rattle.aes_tables.proofs.Sums.{share-bytes}
use borrow.Author.Rules.{rules}
use Rattle.aes_tables.proofs.Shares.entry.Goals as goal

pub returns : goal.returns
returns c =
    let x = c.args.x / 2 ^ (8 * c.args.k) % 256 in
    ap (bytes 4) (c.args.self.rule.entry c.args.p x c.requires.0 (search rules))
    ∙ share-bytes c.args.p (sub_byte x) (sub_byte_lem x (search rules))
    ∙ ap (λ (v : ℕ). share c.args.p (sub_byte v)) (row_is c.args.k c.args.x c.requires.1)
